-- `moir_machine::setting_up::clear` meets its contract: the part that is written over is `sets`.
use Rattle.std.proofs.Common.{◌≡◌, ◌∙◌, ap, ℕ, length, take, replicate, arith}
use lib.ListN.{length-replicate, length-take}
use Rattle.words.proofs.RunLaws.{part_written}
use Rattle.moir_machine.proofs.setting_up.clear.Goals as goal

pub returns : goal.returns
returns c =
    let a = c.args in
    let n : length (take a.w a.tags.now) ≡ a.w = omega (arith, length-take a.w a.tags.now, c.requires) in
    let zeros = c.fill.ensures.after (λ y e. e) ∙ ap (λ (m : ℕ). replicate m 0) n in
    let all = length-replicate {A = ℕ} a.w 0 in
    part_written 0 a.w a.tags.now (replicate a.w 0) zeros (omega (arith, all)) (omega (arith, all, c.requires))
