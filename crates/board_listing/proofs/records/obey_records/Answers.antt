-- `board_listing::records::obey_records`: the loop over a file's records.
use mathlib.Core.Path.{◌≡◌, subst, ◌∙◌}
use mathlib.Core.Bool.{false}
use Prim.Native.Nat.{ℕ, ◌+◌}
use native.Mathlib.Omega.{arith}
use Rattle.std.proofs.Common.{rules}
use lib.ListN.{length}
use Rattle.std.specs.Prelude.{Ok, Err}
use Rattle.llsc.specs.Refusals.{refusal_number}
use Rattle.llsc.proofs.RefusalNumbers.{number_some}
use Rattle.whole_runs.specs.Carrying.{in_run, done_after, turn_number}
use Rattle.text_entry.specs.RunState.{state_with}
use Rattle.text_machine.specs.Carried.{lent_state}
use Rattle.board_listing.specs.declared.ending.Stopped.{Stopped}
use Rattle.board_listing.specs.ListedRun.{fresh_state}
use Rattle.board_listing.proofs.LoopLaws.{Obeying, turned_becomes, not_stopped, in_list, refused, goes_on, all_done}
use Rattle.board_listing.proofs.records.obey_records.Goals as goal

pub returns-in-Err : goal.returns-in-Err
returns-in-Err c =
    let l = c.loop-done in
    let t = c.in-Err.ensures in
    let after = lent_state (in_run c.turn.new.self 0 false) (refusal_number c.in-Err.cause) c.turn.new.words c.turn.new.to in
    let made = turned_becomes (lent_state (in_run l.lent 0 false) 0 l.words l.to) after l.invariant.lent t.kept.1 t.is t.sound t.kept.0.words t.kept.0.listing in
    let stopped : Stopped = record { held = c.turn.new.self.held; entries = l.done; written = c.turn.new.to.written; outcome = Err c.in-Err.cause } in
    in_list stopped (search rules) (refused l.invariant.obeying (omega (arith, c.loop-done-test.true)) c.entry_of-e.ensures.0 c.entry_of-e.ensures.1 made c.requires.1 (number_some c.in-Err.cause))

pub loop-done-preserved : goal.loop-done-preserved
loop-done-preserved c =
    let l = c.loop-done in
    let t = c.turn.ensures in
    let r = c.turn.result in
    let new = c.turn.new in
    let z = not_stopped r c.in_default.not-Err in
    let after = lent_state (in_run new.self (done_after r 0) false) (turn_number r) new.words new.to in
    let made = turned_becomes (lent_state (in_run l.lent 0 false) 0 l.words l.to) after l.invariant.lent t.kept.1 t.is t.sound t.kept.0.words t.kept.0.listing in
    record {
      obeying = subst (λ (k : ℕ). Obeying c.args.records.now (fresh_state c.args.held c.args.words.now c.args.list.now c.args.written)
          (state_with (in_run new.self.held 0 false) k new.words new.to.list.now new.to.written) (l.done + 1)) z
          (goes_on l.invariant.obeying (omega (arith, c.loop-done-test.true)) c.entry_of-e.ensures.0 c.entry_of-e.ensures.1 made z);
      lent = t.kept.1 ∙ l.invariant.lent;
      same = t.kept.0.same ∙ l.invariant.same;
    }

pub returns : goal.returns
returns c =
    let all : length c.args.records.now ≡ c.loop-done.done = omega (arith, c.loop-done-test.false, c.loop-done.auto.done-end) in
    let stopped : Stopped = record { held = c.loop-done.lent.held; entries = length c.args.records.now; written = c.loop-done.to.written; outcome = Ok tt } in
    in_list stopped (search rules) (all_done c.loop-done.invariant.obeying c.requires.1 all)
