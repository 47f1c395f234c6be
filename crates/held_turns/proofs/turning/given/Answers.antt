-- `held_turns::turning::given` meets its contract: a turn in order passes, or is the command that it gives.
use mathlib.Core.Path.{sym, ◌∙◌}
use Rattle.held_machine.proofs.SteppingLaws.{command_passed}
use Rattle.held_turns.specs.TurnTold.{next_named}
use Rattle.held_turns.proofs.TurnLaws.{in_order_long, step_turn, pass_turn, start_turn}
use Rattle.held_turns.proofs.turning.given.Goals as goal

pub counts_as_idle-requires : goal.counts_as_idle-requires
counts_as_idle-requires c = (c.requires.0, in_order_long c.args.held.now c.requires.1)

pub returns-then-not-counts_as_idle : goal.returns-then-not-counts_as_idle
returns-then-not-counts_as_idle c =
    let a = c.args in
    step_turn a.held.now a.p (next_named a.kind a.on) a.value.now a.left c.requires.0 c.requires.1 (sym c.counts_as_idle.ensures ∙ c.if-not-counts_as_idle.true)
    (command_passed c.requires.1 c.near_command-told.ensures)

pub returns-then-left-eq0 : goal.returns-then-left-eq0
returns-then-left-eq0 c =
    let a = c.args in
    pass_turn a.held.now a.p (next_named a.kind a.on) a.value.now a.left c.requires.0 c.requires.1 (sym c.counts_as_idle.ensures ∙ c.if-not-counts_as_idle.false)
    c.if-left-eq0.true c.refused.ensures

pub returns : goal.returns
returns c =
    let a = c.args in
    start_turn a.held.now a.p (next_named a.kind a.on) a.value.now a.left c.requires.0 c.requires.1 (sym c.counts_as_idle.ensures ∙ c.if-not-counts_as_idle.false)
    c.if-left-eq0.false (command_passed c.requires.1 (rw c.start_named.ensures at c.near_command-told-2.ensures))
