-- There is room for the last line of a text run.
use mathlib.Core.Path.{◌≡◌, ap, ◌∙◌}
use mathlib.Core.List.{List}
use mathlib.Core.Bool.{Bool, true, false, cond}
use Prim.Native.Nat.{ℕ, ◌+◌, ◌≤◌}
use native.Mathlib.Omega.{arith}
use lib.Dec.{eqb}
use lib.ListN.{length}
use lib.Seq.{sets}
use Rattle.llsc.specs.Refusals.{number_told}
use Rattle.listing.specs.Lines.{end_line, refused_line}
use Rattle.listing.specs.declared.Writer.{Writer}
use Rattle.listing.specs.Writing.{Fits, Writes}
use Rattle.listing.proofs.Lengths.{end_length, refused_length}
use Rattle.text_runs.specs.Parts.{last_text}
use Rattle.text_runs.specs.Runs.{Outcome, Closable, last_of}

-- there is room for it where there is room for either
pub last_room_lem : (k entries most : ℕ) → length (end_line entries) ≤ most → length (refused_line k entries) ≤ most → length (last_text k entries) ≤ most
last_room_lem k entries most e f = pick (eqb k 0)
  where
    pick : (t : Bool) → length (cond t (end_line entries) (refused_line k entries)) ≤ most
    pick true = e
    pick false = f

pub closable_room : {entries : ℕ} {o : Outcome} {to : Writer} → Closable entries o to → Fits to (last_of entries o)
closable_room {entries} {o} x =
    let short = last_room_lem (number_told o) entries 17 (omega (arith, end_length entries x.few)) (refused_length (number_told o) entries x.stop x.few) in
    record { fits = omega (arith, x.room, short) }

-- what is made of the place after some bytes that were written, and the list with them
pub with_written_lem : {A : Type 0} (f : ℕ → A) {l bs : List ℕ} {to to' : Writer} {out : A} → Writes to bs to' → l ≡ to'.list.now → out ≡ f to'.written
    → ◌≡◌ {A = A × List ℕ} (out, l) (f (to.written + length bs), sets to.list.now to.written bs)
with_written_lem f {l} {bs} {to} w e o =
    ap (λ y. (y, l)) (o ∙ ap f w.place) ∙ ap (λ (y : List ℕ). (f (to.written + length bs), y)) (e ∙ w.list)
