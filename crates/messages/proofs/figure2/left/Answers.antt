-- `messages::figure2::left`: each record gives its call.
use Rattle.std.proofs.Common.{rules}
use Rattle.std.specs.Prelude.{None}
use Rattle.model.specs.Records.{no_process}
use Rattle.messages.specs.OpenCalls.{call_of}
use Rattle.messages.proofs.CallLaws.{made_whole}
use Rattle.messages.proofs.figure2.left.Goals as goal

pub returns-clause-calls : goal.returns-clause-calls
returns-clause-calls c =
    let i = c.map-calls.ensures.items in
    made_whole call_of no_process None _ _ (search rules) i.long (λ j h. let made = i.at j no_process None h in search rules)
