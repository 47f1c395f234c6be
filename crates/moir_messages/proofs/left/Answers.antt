-- `moir_messages::left`: each record gives its call.
use Rattle.std.proofs.Common.{rules}
use Rattle.std.specs.Prelude.{None}
use Rattle.moir_model.specs.Records.{no_process}
use Rattle.messages.proofs.CallLaws.{made_whole}
use Rattle.moir_messages.specs.MoirCalls.{call_of}
use Rattle.moir_messages.proofs.left.Goals as goal

pub returns-clause-calls : goal.returns-clause-calls
returns-clause-calls c =
    let i = c.map-calls.ensures.items in
    made_whole call_of no_process None _ _ (search rules) i.long (λ j h. let made = i.at j no_process None h in search rules)
