use Rattle.std.proofs.Common.{arith, ◌≤◌, ◌≡◌, length}
use Rattle.sums.specs.Season.{all_small, sums_refusal}
use Rattle.sums.proofs.RefusalLaws.{small_decided}
use Rattle.sums.proofs.refusals.sums_refusal.Goals as goal

pub returns : goal.returns
unfolding sums_refusal
returns c =
    let s = c.args.sums in
    let few : s.n ≤ length s.each = grind arith in
    let small : c.all_small-small.result ≡ all_small s.n s.each = small_decided _ s.n s.each few c.all_small-small.ensures in
    grind (arith, small)
