-- The last line of a board's run: seven digits of commands done, two of a refusal.
use mathlib.Core.List.{List, ◌∷◌, [], ◌++◌}
use Prim.Native.Nat.{ℕ, ◌≤◌}
use native.Mathlib.Omega.{arith}
use lib.ListN.{length}
use Rattle.listing.specs.Decimal.{decimal, tens}
use Rattle.listing.specs.Lines.{space, line_feed, end_line, refused_line}
use Rattle.listing.specs.Writing.{Room}
use Rattle.listing.proofs.DecimalLaws.{at_most}
use Rattle.listing.proofs.Lengths.{joined}
use Rattle.llsc.specs.Refusals.{number_told}
use Rattle.board_listing.specs.declared.ending.Stopped.{Stopped}
use Rattle.text_runs.specs.Runs.{last_of}
use Rattle.text_runs.proofs.LastLaws.{last_room_lem}
use Rattle.board_listing.specs.ListedRun.{Closable}

done_digits : (e : ℕ) → e ≤ 9999999 → length (decimal e) ≤ 7
unfolding tens
done_digits e h = at_most 7 e (omega arith) (omega arith)

cause_digits : (c : ℕ) → c ≤ 99 → length (decimal c) ≤ 2
unfolding tens
cause_digits c h = at_most 2 c (omega arith) (omega arith)

with_feed : (e : ℕ) → e ≤ 9999999 → length (decimal e ++ line_feed ∷ []) ≤ 8
with_feed e h = joined (decimal e) (line_feed ∷ []) 7 1 (done_digits e h) (omega arith)

end_length : (e : ℕ) → e ≤ 9999999 → length (end_line e) ≤ 12
unfolding end_line
end_length e h = omega (arith, with_feed e h)

refused_length : (c e : ℕ) → c ≤ 99 → e ≤ 9999999 → length (refused_line c e) ≤ 19
unfolding refused_line
refused_length c e k h = omega (arith, joined (decimal c) (space ∷ (decimal e ++ line_feed ∷ [])) 2 9 (cause_digits c k) (omega (arith, with_feed e h)))

pub closable_room : {s : Stopped} {l : List ℕ} → Closable s l → Room l s.written (last_of s.entries s.outcome)
closable_room {s} x =
    let k : ℕ = number_told s.outcome in
    let short = last_room_lem k s.entries 19 (omega (arith, end_length s.entries x.entries)) (refused_length k s.entries x.stop x.entries) in
    record { fits = omega (arith, x.room, short) }
