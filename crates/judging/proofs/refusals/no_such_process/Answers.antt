-- `judging::refusals::no_such_process` meets its contract: the whole calls, then the one that is cut off.
use lib.Dec.{leb}
use Rattle.judging.specs.declared.heads.Head.{Head}
use Rattle.judging.proofs.RefusalLaws.{whole_strange, cut_strange, cut_known, none_cut}
use borrow.Author.Rules.{rules}
use Rattle.judging.proofs.refusals.no_such_process.Goals as goal

pub returns-in-Some : goal.returns-in-Some
returns-in-Some c =
    let a = c.args.calls.now in
    whole_strange c.args.n a.w a.log.now _ (c.first.ensures (λ (e : Head). leb c.args.n e.process) (λ e b p. search rules)) _ c.in-Some.is

pub returns-in-len1-up : goal.returns-in-len1-up
returns-in-len1-up c =
    let a = c.args.calls.now in
    cut_strange c.args.n a.w a.log.now _ (c.first.ensures (λ (e : Head). leb c.args.n e.process) (λ e b p. search rules)) c.in_default.is
    _ c.left_over.ensures.value c.in-len1-up.len_at_least c.if-n-process.true _ c.len.ensures

-- `_ => None`, where nothing is left over
pub returns-in_default-left_over : goal.returns-in_default-left_over
returns-in_default-left_over c =
    let a = c.args.calls.now in
    none_cut c.args.n a.w a.log.now _ (c.first.ensures (λ (e : Head). leb c.args.n e.process) (λ e b p. search rules)) c.in_default.is
    _ c.left_over.ensures.value c.in_default-left_over.len_below

-- `_ => None`, where the process of the call that is cut off is one of the n
pub returns-in_default-left_over-2 : goal.returns-in_default-left_over-2
returns-in_default-left_over-2 c =
    let a = c.args.calls.now in
    cut_known c.args.n a.w a.log.now _ (c.first.ensures (λ (e : Head). leb c.args.n e.process) (λ e b p. search rules)) c.in_default.is
    _ c.left_over.ensures.value c.if-n-process.false
