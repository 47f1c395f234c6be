-- What a command to a station does (CR 13): `doings`' act on one item of one record, and what its process goes on with.
use Rattle.std.specs.Prelude.{ℕ}
use Rattle.llsc.specs.declared.ProcessNumber.{ProcessNumber}
use Rattle.model.specs.declared.Process.{Process}
use Rattle.model.specs.declared.Reply.{Reply}
use Rattle.station.specs.declared.RecordNumber.{RecordNumber}
use Rattle.station.specs.declared.StationProcess.{StationProcess}
use Rattle.station.specs.Station.{StationMemory}
use Rattle.station.specs.Projection.{process_of, put_process}
use Rattle.station.specs.StationRefusals.{StationOrder, record_about}
use Rattle.doings.specs.declared.Item.{Item}
use Rattle.doings.specs.Own.{Own}
use Rattle.doings.specs.Doings.{acted, seen, Touching, nothing, one, doing}
use Rattle.commuting_laws.specs.Parts.{StationItem, item_of, put_item, own_of, put_own}

-- what a process has for itself, as record j's bench has it; and put back, q being its process record before
abbrev pub own_at : RecordNumber → Own StationProcess → Own Process
own_at j o = record { process = process_of j o.process; returned = o.returned; offered = o.offered }

abbrev pub back_from : RecordNumber → StationProcess → Reply × Own Process → Reply × Own StationProcess
back_from j q out = (
  out.0,
  record { process = put_process j q out.1.process; returned = out.1.returned; offered = out.1.offered },
)

-- a doing on record j, seen in the station
abbrev pub on_record : RecordNumber → StationProcess → Touching Item Process → Touching StationItem StationProcess
on_record j q (nothing out) = nothing (back_from j q out)
on_record j q (one d) = one (record {
  item = record { number = j; item = d.item };
  act = d.act;
  next = λ s. back_from j q (d.next s);
})

abbrev pub number_of : StationOrder → ProcessNumber
number_of c = record { 0 = c.process }

-- what the command c does, from N, W and its own process alone
abbrev pub does_from : ℕ → ℕ → StationOrder → Own StationProcess → Touching StationItem StationProcess
does_from n w c o =
    let j = record_about c.order c.called o.process in
    on_record j o.process (doing c.order n w (number_of c) c.value (own_at j o))

abbrev pub does : StationMemory → StationOrder → Touching StationItem StationProcess
does s c = does_from s.n s.w c (own_of s (number_of c))

-- what p's doing makes of the shared part, and of its process
abbrev pub shared_after : Touching StationItem StationProcess → ProcessNumber → StationMemory → StationMemory
shared_after (nothing out) p s = s
shared_after (one d) p s = put_item d.item (acted d.act p (item_of d.item s)) s

abbrev pub outcome_of : Touching StationItem StationProcess → ProcessNumber → StationMemory → Reply × Own StationProcess
outcome_of (nothing out) p s = out
outcome_of (one d) p s = d.next (seen p (item_of d.item s))

abbrev pub effect_on : Touching StationItem StationProcess → ProcessNumber → StationMemory → Reply × StationMemory
effect_on t p s = ((outcome_of t p s).0, put_own p (outcome_of t p s).1 (shared_after t p s))
