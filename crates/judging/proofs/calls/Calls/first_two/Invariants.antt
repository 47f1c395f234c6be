-- `judging::calls::Calls::first_two`: the two found from here on are those found from the first on.
use Rattle.std.proofs.Common.{◌≡◌, Bool, drop}
use Rattle.verdicts.specs.Log.{entries}
use Rattle.verdicts.specs.Reasons.{two_at_fault}
use Rattle.judging.specs.declared.heads.Head.{Head}
use Rattle.judging.specs.Heads.{head, DecidesTwo}
use Rattle.judging.proofs.calls.Calls.first_two.Given as goal

abbrev pub invariant-loop-k : goal.invariant-loop-k
invariant-loop-k g l =
    (r : Head → Head → Bool) → DecidesTwo (goal.F-post g l.clash) r
    → two_at_fault (λ e f. r (head e) (head f)) l.k (drop l.k (entries l.self.w l.self.log.now)) ≡ two_at_fault (λ e f. r (head e) (head f)) 0 (entries l.self.w l.self.log.now)
