-- `whole_runs::entry_loop::carry_out`: a turn of the loop is an entry made, refused or not yet over (`LoopLaws`).
use mathlib.Core.Path.{◌≡◌}
use Prim.Native.Nat.{◌-◌}
use Rattle.whole_runs.specs.Carrying.{in_run, Kept}
use Rattle.whole_runs.proofs.LoopLaws.{Turning}
use Rattle.whole_runs.proofs.entry_loop.carry_out.Given as goal

abbrev pub invariant-loop-at : goal.invariant-loop-at
invariant-loop-at g l = let b = g.B.Carrier in record {
  turning : Turning b.machine l.kept (b.progress (in_run l.initial.held l.initial.entries l.traced) 0 l.initial.words l.initial.to) l.at (b.progress (in_run l.held l.entries l.traced) 0 l.words l.to);
  sound : b.sound (in_run l.held l.entries l.traced) 0 l.words l.to;
  kept : Kept l.initial.words l.initial.to l.words l.to × (b.lent l.held ≡ b.lent l.initial.held);
}

abbrev pub decreases-loop-at : goal.decreases-loop-at
decreases-loop-at g l = 60001 - l.entries
