-- Process records that are gathered, changed one by one and stored back are changed where they lie.
use mathlib.Core.Path.{◌≡◌, refl, ap, ◌∙◌}
use mathlib.Core.List.{List}
use Prim.Native.Nat.{ℕ, zero, suc, ◌+◌, ◌≤◌, ◌<◌}
use native.Mathlib.Omega.{arith}
use lib.ListN.{length, get_or, set}
use Rattle.std.specs.Prelude.{Option, None, Some}
use Rattle.station.specs.declared.Station.{Station}
use Rattle.station.specs.declared.StationProcess.{StationProcess}
use Rattle.station.specs.Station.{station_memory}
use Rattle.station.specs.StationSetUp.{firsts, empty_process}
use Rattle.station_facts.proofs.Firsts.{firsts_at, firsts_next}
use Rattle.lent.specs.Gathered.{gathered, stored}
use Rattle.lent.proofs.GatheredLaws.{gathered_length, gathered_at}
use Rattle.station_records.specs.declared.left.Left.{Left}
use Rattle.station_records.specs.Gathered.{processes_stored, left_stored}

module _ (f : ℕ → StationProcess → StationProcess) (ps : List StationProcess) (n : ℕ) (hn : n ≤ 16) (hl : n ≤ length ps) where
  abbrev all : List StationProcess
  all = firsts f 0 n (gathered ps empty_process 16)

  one : (k : ℕ) → k < n → get_or all k empty_process ≡ f k (get_or ps k empty_process)
  one k h =
      firsts_at f 0 n (gathered ps empty_process 16) k empty_process h (omega (arith, gathered_length ps empty_process 16))
      ∙ ap (f (0 + k)) (gathered_at ps empty_process empty_process 16 k (omega arith) (omega arith) (omega arith))
      ∙ ap (λ (i : ℕ). f i (get_or ps k empty_process)) (let z : 0 + k ≡ k = omega arith in z)

  stored_so_far : (k : ℕ) → k ≤ n → processes_stored ps all k ≡ firsts f 0 k ps
  unfolding stored
  stored_so_far zero h = refl
  stored_so_far (suc k) h =
      ap (λ (l : List StationProcess). set l k (get_or all k empty_process)) (stored_so_far k (omega arith))
      ∙ ap (set (firsts f 0 k ps) k) (one k (omega arith))
      ∙ firsts_next f k ps empty_process (omega arith) ∙ ap (λ (i : ℕ). firsts f 0 i ps) (let z : k + 1 ≡ suc k = omega arith in z)

  pub stored_firsts : processes_stored ps (firsts f 0 n (gathered ps empty_process 16)) n ≡ firsts f 0 n ps
  stored_firsts = stored_so_far n (omega arith)

-- what a run left, stored back, or nothing
module _ (s : Station) (ps : List StationProcess) (ws : List ℕ) {left : Option Left} {s' : Station} {ps' : List StationProcess} where
  pub left_is : (x : Left) → left ≡ Some x → s' ≡ x.station → ps' ≡ processes_stored ps x.all x.station.n → station_memory s' ps' ws ≡ left_stored s ps ws left
  left_is x is e f = rw (is, e, f) refl

  pub none_left : left ≡ None → s' ≡ s → ps' ≡ ps → station_memory s' ps' ws ≡ left_stored s ps ws left
  none_left is e f = rw (is, e, f) refl
