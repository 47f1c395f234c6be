-- `whole_runs::entry_loop::carry_out`: a turn of the loop is an entry made, refused or not yet over (`LoopLaws`).
use mathlib.Core.Path.{sym, ◌∙◌}
use Prim.Native.Nat.{◌+◌, ◌<◌}
use native.Mathlib.Omega.{arith}
use Rattle.llsc.specs.Refusals.{refusal_number}
use Rattle.llsc.proofs.RefusalNumbers.{number_some}
use Rattle.whole_runs.specs.Carrying.{in_run}
use Rattle.whole_runs.proofs.LoopLaws.{kept_then, turn_more, turn_ends, turn_over, turn_further}
use Rattle.whole_runs.proofs.entry_loop.carry_out.Goals as goal
use Rattle.whole_runs.proofs.entry_loop.carry_out.Goals.{In-Ok}

-- an entry carried out is one more of at most 60,000
one_more : (g : _) (c : In-Ok g) → c.loop-at.entries < 60000
one_more g c =
    let law = g.met.B.Carrier in
    let before = in_run c.loop-at.held c.loop-at.entries c.args.run.traced in
    let after = in_run c.turn.new.self (c.loop-at.entries + 1) c.args.run.traced in
    let stop = law.stops after 0 c.turn.new.words c.turn.new.to in
    let turned = c.in-Ok.ensures.is.same in
    let more = turn_more g.B.Carrier.machine c.loop-at.invariant.turning c.loop-at-test.true c.entry_in-e.ensures turned stop in
    omega (arith, more, law.counts before 0 c.loop-at.words c.loop-at.to, law.counts after 0 c.turn.new.words c.turn.new.to)

pub overflow_add-entries : goal.overflow_add-entries
overflow_add-entries g c = omega (arith, one_more g c)

pub loop-at-smaller-then-not-stays : goal.loop-at-smaller-then-not-stays
loop-at-smaller-then-not-stays g c = omega (arith, one_more g (goal.at.loop-at-smaller-then-not-stays g c).In-Ok)

pub loop-at-preserved-then-not-stays : goal.loop-at-preserved-then-not-stays
loop-at-preserved-then-not-stays g c =
    let after = in_run c.turn.new.self (c.loop-at.entries + 1) c.args.run.traced in
    let k = c.in-Ok.ensures.kept in
    let l = c.loop-at.invariant.kept in
    record {
      turning =
          turn_over g.B.Carrier.machine c.loop-at.invariant.turning c.loop-at-test.true c.entry_in-e.ensures c.in-Ok.ensures.is.same
          (g.met.B.Carrier.stops after 0 c.turn.new.words c.turn.new.to) (c.in-Ok.ensures.is.stays ∙ c.if-not-stays.true);
      sound = c.in-Ok.ensures.sound;
      kept = (kept_then l.0 k.0, k.1 ∙ l.1);
    }

pub loop-at-smaller : goal.loop-at-smaller
loop-at-smaller g c = omega (arith, one_more g (goal.at.loop-at-smaller g c).In-Ok)

pub loop-at-preserved : goal.loop-at-preserved
loop-at-preserved g c =
    let after = in_run c.turn.new.self (c.loop-at.entries + 1) c.args.run.traced in
    let k = c.in-Ok.ensures.kept in
    let l = c.loop-at.invariant.kept in
    record {
      turning =
          turn_further g.B.Carrier.machine c.loop-at.invariant.turning c.loop-at-test.true c.entry_in-e.ensures c.in-Ok.ensures.is.same
          (g.met.B.Carrier.stops after 0 c.turn.new.words c.turn.new.to) (c.in-Ok.ensures.is.stays ∙ c.if-not-stays.false);
      sound = c.in-Ok.ensures.sound;
      kept = (kept_then l.0 k.0, k.1 ∙ l.1);
    }

pub returns-in-Err-clause-over : goal.returns-in-Err-clause-over
returns-in-Err-clause-over g c =
    let after = in_run c.turn.new.self c.loop-at.entries c.args.run.traced in
    let stop = g.met.B.Carrier.stops after (refusal_number c.in-Err.refusal) c.turn.new.words c.turn.new.to in
    turn_ends g.B.Carrier.machine c.loop-at.invariant.turning c.loop-at-test.true c.entry_in-e.ensures c.in-Err.ensures.is.same
    (λ z. number_some c.in-Err.refusal (sym stop ∙ z))
