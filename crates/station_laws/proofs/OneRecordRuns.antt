-- After a set-up for one record every command on it is the bench's.
use mathlib.Core.Path.{◌≡◌, refl, ap, ◌∙◌}
use mathlib.Core.Bool.{true}
use mathlib.Core.List.{List, [], ◌∷◌, map}
use Prim.Native.Nat.{ℕ, suc, ◌<◌}
use native.Mathlib.Omega.{arith}
use borrow.Author.Tests.{ltb-true}
use lib.Dec.{ltb}
use Rattle.model.specs.declared.Reply.{Reply}
use Rattle.model.specs.Sizes.{halves}
use Rattle.model.specs.Machine.{Memory}
use Rattle.model.specs.Command.{command}
use Rattle.llsc.specs.History.{Command}
use Rattle.after_commands.specs.After.{after}
use Rattle.serving.proofs.RefusalFacts.{and_true}
use Rattle.station.specs.declared.RecordNumber.{RecordNumber}
use Rattle.station.specs.declared.StationProcess.{StationProcess}
use Rattle.station.specs.Station.{StationMemory, process_at}
use Rattle.station.specs.StationRefusals.{called_ok}
use Rattle.station.specs.StationCommand.{station_command}
use Rattle.station.specs.StationHistory.{station_after}
use Rattle.station_laws.specs.OneRecord.{as_bench, on_the_one, OneRecordRuns}
use Rattle.station_laws.proofs.StationRuns.{Inv, step_inv}
use Rattle.station_laws.proofs.StationSetUpLaws.{h_w, set_up_inv}
use Rattle.station_laws.proofs.OneRecordLaws.{Says, one_record_lem}
use Rattle.station_laws.proofs.OneRecordSetUp.{one_record_set_up}

module _ (N W : ℕ) (h_w : 0 < halves W) where
  -- the open call of a process is on record 0
  on_it : (q : StationProcess) → called_ok 1 q ≡ true → q.called.0 ≡ 0
  on_it q e = let x : q.called.0 < 1 = ltb-true q.called.0 1 (and_true (ltb q.called.0 1) _ e).0 in omega arith

  next : (k : ℕ) (s : StationMemory) (ms : RecordNumber → Memory) → Inv N W 1 h_w k s ms → (c : Command) → Says s (on_the_one c)
  next k s ms v c =
      let below : (p : ℕ) → p < s.n → p < N = λ p hp. let x = v.n in omega arith in
      one_record_lem s v.r (λ p hp. on_it (process_at s p) (v.called p (below p hp))) v.tables (on_the_one c) refl (λ hp _. v.holdings c.process (below c.process hp))

  runs : (cs : List Command) (c : Command) (k : ℕ) (s : StationMemory) (ms : RecordNumber → Memory) (m : Memory) → Inv N W 1 h_w k s ms → as_bench s ≡ m
      → let here = station_after s (map on_the_one cs) in
      ◌≡◌ {A = Reply × Memory} ((station_command here (on_the_one c)).0, as_bench (station_command here (on_the_one c)).1) (command (after m cs) c.process c.order c.value)
  unfolding station_after after
  runs [] c k s ms m v e = next k s ms v c ∙ ap (λ m. command m c.process c.order c.value) e
  runs (d ∷ cs) c k s ms m v e =
      runs cs c (suc k) (station_command s (on_the_one d)).1 _ _ (step_inv N W 1 h_w k s ms v (on_the_one d))
      (ap (λ (o : Reply × Memory). o.1) (next k s ms v d) ∙ ap (λ m. (command m d.process d.order d.value).1) e)

pub one_record_runs : OneRecordRuns
one_record_runs s shaped n w value e cs c =
    runs n w (h_w s shaped n w 1 value e) cs c 1 _ _ _ (set_up_inv s shaped n w 1 value e) (ap (λ (o : ℕ × Memory). o.1) (one_record_set_up s shaped n w value))
