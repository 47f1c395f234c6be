-- `text_machine::text_run::run_by_value`: the generic run, on at most sixteen of the lent records.
use Rattle.text_machine.proofs.RunLaws.{text_ran}
use Rattle.text_machine.proofs.text_run.run_by_value.Goals as goal

pub returns : goal.returns
returns c =
    let out = c.run_text-out in
    rw c.holding.ensures (text_ran c.args.len c.args.held c.records_seen.ensures c.requires out.ensures.ran out.ensures.kept.0.1 out.ensures.kept.1)
