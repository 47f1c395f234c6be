-- `judging::calls::Calls::first_two` meets its contract.
use mathlib.Core.Path.{◌∙◌}
use Rattle.judging.specs.Heads.{head, entry_at}
use Rattle.judging.proofs.CallLoops.{two_stop, two_go}
use borrow.Author.Rules.{rules}
use Rattle.judging.proofs.calls.Calls.first_two.Goals as goal

pub returns-in-Some : goal.returns-in-Some
returns-in-Some g c r d =
    let a = c.args.self.now in
    two_stop a.w a.log.now (λ e f. r (head e) (head f)) c.loop-k.k (search rules) _
    (c.in-Some.ensures (r (head (entry_at a.w a.log.now c.loop-k.k))) (λ f b p. search rules)) ∙ c.loop-k.invariant r d

pub loop-k-preserved : goal.loop-k-preserved
loop-k-preserved g c r d =
    let a = c.args.self.now in
    two_go a.w a.log.now (λ e f. r (head e) (head f)) c.loop-k.k (search rules)
    (c.in_default.ensures (r (head (entry_at a.w a.log.now c.loop-k.k))) (λ f b p. search rules)) ∙ c.loop-k.invariant r d
