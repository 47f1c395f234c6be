use Rattle.std.proofs.Common.{◌≡◌, sym, ◌∙◌, get_or}
use Rattle.answers.specs.Gains.{no_sum, plus}
use Rattle.answers.proofs.WholeLaws.{room, goes_sums}
use Rattle.answers.proofs.whole.read_lines.Goals as goal

pub add_assign-requires : goal.add_assign-requires
add_assign-requires c = room c.requires c.loop-rest.invariant.going _ _ c.in_ok-gain.ensures

pub loop-rest-preserved : goal.loop-rest-preserved
loop-rest-preserved c =
    let l = c.loop-rest in
    let gain = c.in_ok-gain.gain in
    let e : c.add_assign.new.self ≡ plus (get_or l.sums gain.process no_sum) gain.sum = c.add_assign.ensures.after in
    rw e (goes_sums c.requires l.invariant _ _ c.in_ok-gain.ensures (sym c.begins_with_digit.ensures ∙ c.loop-rest-test.true))
