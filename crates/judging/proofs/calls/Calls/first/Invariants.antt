-- `judging::calls::Calls::first`: what is found from here on is what is found from the first on.
use Rattle.std.proofs.Common.{◌≡◌, Bool, drop}
use Rattle.verdicts.specs.Log.{entries}
use Rattle.judging.specs.declared.heads.Head.{Head}
use Rattle.judging.specs.Heads.{head, first_from, Decides}
use Rattle.judging.proofs.calls.Calls.first.Given as goal

abbrev pub invariant-loop-k : goal.invariant-loop-k
invariant-loop-k g l =
    (f : Head → Bool) → Decides (goal.F-post g l.passes) f
    → first_from (λ e. f (head e)) l.k (drop l.k (entries l.self.w l.self.log.now)) ≡ first_from (λ e. f (head e)) l.fn.from (drop l.fn.from (entries l.self.w l.self.log.now))
