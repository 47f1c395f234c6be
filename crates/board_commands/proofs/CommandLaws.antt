-- A record's command by value: the words of its value, and where an accepted one stores its process record.
use mathlib.Core.Path.{◌≡◌, refl, sym, ap, ap₂, subst, ◌∙◌}
use mathlib.Core.List.{List, []}
use mathlib.Core.Bool.{Bool, true, false, not, ◌&&◌, cond}
use Prim.Native.Nat.{ℕ, zero, suc, ◌<◌, ◌≤◌}
use native.Mathlib.Omega.{arith}
use lib.Dec.{ltb}
use Rattle.std.specs.Prelude.{Result, Ok, Err}
use lib.ListN.{length, get_or, take, replicate}
use borrow.Author.Tests.{ltb-true, ltb-false, le-leb, lt-leb, leb-false}
use Rattle.llsc.specs.declared.Order.{Order}
use Rattle.llsc.specs.Rows.{row1, row2}
use Rattle.serving.proofs.RefusalFacts.{none_holds, inside, no_row, or_false}
use Rattle.boards.specs.Files.{BoardRecord}
use Rattle.text_entry.proofs.WordLaws.{take_replicate}
use Rattle.station.specs.declared.Station.{Station}
use Rattle.station.specs.declared.StationProcess.{StationProcess}
use Rattle.station.specs.Station.{station_memory, station_words, no_station_process}
use Rattle.station.specs.StationRefusals.{station_in_range, station_rows_of}
use Rattle.station_rows.specs.StationCommandRows.{station_number}
use Rattle.station_machine.specs.declared.Outcome.{Outcome}
use Rattle.station_machine.specs.StationDecision.{Decided, station_decided}
use Rattle.station_machine.proofs.StationObeyLaws.{refused_law, obeyed_law}
use Rattle.board_commands.specs.BoardRun.{order_of}
use Rattle.board_commands.specs.ByValue.{at_most64, decided}

-- where the process record of an accepted command is stored, of `len` that are lent
pub record Accepted (s : Station) (len : ℕ) (out : Outcome) : Type 0 where
  pub place : out.at < s.n
  pub most : s.n ≤ 16
  pub lent : s.n ≤ len
  pub n_stays : out.station.n ≡ s.n

-- where an outcome is stored, its N, and 1 for a refusal
abbrev place_in : Result Outcome ℕ → ℕ
place_in (Ok out) = out.at
place_in (Err k) = 0

abbrev n_in : Result Outcome ℕ → ℕ
n_in (Ok out) = out.station.n
n_in (Err k) = 0

abbrev pub refused_in : Result Outcome ℕ → ℕ
refused_in (Ok out) = 0
refused_in (Err k) = 1

-- the first two rows
pub first_two : Bool → ℕ
first_two true = 1
first_two false = 2

pub some_row_lem : (t : Bool) → first_two t ≡ 0 → ⊥
unfolding first_two
some_row_lem true e = omega (arith, e)
some_row_lem false e = omega (arith, e)

pub row_2_holds : (t u : Bool) (rest : ℕ) → u ≡ true → first_two t ≡ cond t 1 (cond u 2 rest)
unfolding first_two
row_2_holds true u rest e = refl
row_2_holds false u rest e = ap (λ (x : Bool). cond x 2 rest) (sym e)

module _ (s : Station) (list : List StationProcess) (len p : ℕ) (o : Order) (named : ℕ) where
  -- where W is over 64 row 1 or 2 holds, whatever value is brought
  wide_number : 64 < s.w → (k ws : ℕ) → first_two (row1 s.n).holds ≡ station_number s list len p o named k ws
  unfolding station_number
  wide_number h k ws =
      row_2_holds (row1 s.n).holds (row2 s.w).holds _
      (ap₂ (λ (a b : Bool). not (a && b)) (le-leb 1 s.w (omega arith)) (lt-leb s.w 64 h))

  wide : 64 < s.w → (v u ws : List ℕ) → station_decided s list len p o named v ws ≡ station_decided s list len p o named u ws
  wide h v u ws =
      let ne = some_row_lem (row1 s.n).holds in
      sym (refused_law s list len p o named v ws _ (wide_number h (length v) (length ws)) ne)
      ∙ refused_law s list len p o named u ws _ (wide_number h (length u) (length ws)) ne

  -- so 64 words are enough
  pub enough : (k : ℕ) (ws : List ℕ)
      → station_decided s list len p o named (replicate (at_most64 s.w) k) ws ≡ station_decided s list len p o named (replicate s.w k) ws
  enough k ws = go (ltb 64 s.w) refl
    where
      go : (t : Bool) → ltb 64 s.w ≡ t
          → station_decided s list len p o named (replicate (cond t 64 s.w) k) ws ≡ station_decided s list len p o named (replicate s.w k) ws
      go true e = wide (ltb-true 64 s.w e) (replicate 64 k) (replicate s.w k) ws
      go false e = refl

  module _ (v ws : List ℕ) where
    abbrev number : ℕ
    number = station_number s list len p o named (length v) (length ws)

    below : number ≡ 0 → (p < s.n) × ((s.n ≤ 16) × (s.n ≤ len))
    unfolding station_number
    below e =
        let rows = station_rows_of s.n s.w s.r len (length ws) (station_in_range (station_memory s list [])) p o named (length v) (get_or list p no_station_process) in
        let none : (i : ℕ) → (get_or rows i no_row).holds ≡ false = none_holds rows refl e in
        (leb-false s.n p (none 5), ((inside 1 16 s.n (none 0)).1, ltb-false len s.n (or_false (ltb (length ws) (station_words s.n s.w s.r)) (ltb len s.n) (none 3)).1))

    pub accepted : (out : Outcome) (ws' : List ℕ) → ◌≡◌ {A = Decided} (Ok out, ws') (station_decided s list len p o named v ws) → Accepted s len out
    accepted out ws' e = go number refl
      where
        go : (k : ℕ) → number ≡ k → Accepted s len out
        go zero z =
            let b = below z in let o' = e ∙ sym (obeyed_law s list len p o named v ws _ z refl) in
            record {
              place = subst (λ (i : ℕ). i < s.n) (sym (ap (λ (x : Decided). place_in x.0) o')) b.0;
              most = b.1.0;
              lent = b.1.1;
              n_stays = ap (λ (x : Decided). n_in x.0) o';
            }
        go (suc k) z =
            let r = ap (λ (x : Decided). refused_in x.0) (e ∙ sym (refused_law s list len p o named v ws number refl (λ y. omega (arith, y, z)))) in
            absurd (omega (arith, r))

-- what the code brings is the record's command
pub record_decided : (s : Station) (all : List StationProcess) (len : ℕ) (r : BoardRecord) (ws : List ℕ) {k w : ℕ} {o : Order} {v : List ℕ} {out : Decided}
    → k ≡ r.value → w ≡ at_most64 s.w → o ≡ order_of r.order → v ≡ take w (replicate 64 k) → w ≤ 64
    → out ≡ station_decided s all len r.process o 0 v ws → out ≡ decided s all len r ws
unfolding decided
record_decided s all len r ws {k} {w} {o} ek ew eo ev h e =
    e
    ∙ ap₂ (λ (x : Order) (v : List ℕ). station_decided s all len r.process x 0 v ws) eo
    (ev ∙ take_replicate w 64 k h ∙ ap₂ (λ (i j : ℕ). replicate i j) ew ek)
    ∙ enough s all len r.process (order_of r.order) 0 r.value ws

pub at_most : (w : ℕ) → at_most64 w ≤ 64
at_most w = go (ltb 64 w) refl
  where
    go : (t : Bool) → ltb 64 w ≡ t → cond t 64 w ≤ 64
    go true e = omega arith
    go false e = omega (arith, ltb-false 64 w e)

-- the place of an accepted command's process record
pub accepted_place : (s : Station) (all : List StationProcess) (len : ℕ) (r : BoardRecord) (ws : List ℕ) (out : Outcome) (ws' : List ℕ)
    → ◌≡◌ {A = Decided} (Ok out, ws') (decided s all len r ws) → Accepted s len out
unfolding decided
accepted_place s all len r ws out ws' e = accepted s all len r.process (order_of r.order) 0 (replicate s.w r.value) ws out ws' e
