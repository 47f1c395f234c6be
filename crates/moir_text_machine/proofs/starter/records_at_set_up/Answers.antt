-- `moir_text_machine::starter::records_at_set_up`: the part that is written over is `sets`.
use mathlib.Core.Path.{◌≡◌, sym, ap, ap₂, ◌∙◌}
use mathlib.Core.List.{List, ◌++◌}
use Prim.Native.Nat.{ℕ, ◌+◌}
use native.Mathlib.Omega.{arith}
use borrow.Author.Rules.{rules}
use lib.ListN.{length, take, drop, replicate, length-take, length-replicate}
use lib.Seq.{sets-eq}
use Rattle.moir_model.specs.declared.Process.{Process}
use Rattle.moir_model.specs.Records.{no_process}
use Rattle.moir_text_machine.proofs.starter.records_at_set_up.Goals as goal

pub returns-clause-is : goal.returns-clause-is
returns-clause-is c =
    let a = c.args in
    let sixteen : length a.all ≡ 16 = omega arith in
    let many : length (take a.n a.all) ≡ a.n = omega (arith, length-take a.n a.all, sixteen, c.requires) in
    let set : List Process = replicate a.n no_process in
    let end : a.n ≡ 0 + length set = omega (arith, length-replicate a.n no_process) in
    ap (λ (l : List Process). l ++ drop a.n a.all)
    (c.fill.ensures.after (λ y e. search rules) ∙ ap₂ (λ (k : ℕ) (q : Process). replicate k q) many c.process_at_set_up.ensures)
    ∙ ap (λ (k : ℕ). set ++ drop k a.all) end
    ∙ sym (sets-eq set a.all 0 (omega (arith, end, sixteen, c.requires)))
