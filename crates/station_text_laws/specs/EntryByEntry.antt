-- A text run as the station's own commands: the run of `text_runs` on a machine whose set-up is the station's for one record
-- and whose command is the station's on record 0, over all lent memory. "Text and listing keep to one record."
-- `station_run_text` takes record 0 out, runs the bench's text run on it and puts it back; here nothing is taken out.
use Rattle.std.specs.Prelude.{ℕ, ◌≡◌, List, [], false}
use Rattle.llsc.specs.declared.Order.{Order}
use Rattle.model.specs.declared.Reply.{Reply}
use Rattle.model.specs.declared.Reply.TheVariants.{Refused, Accepted, LlAnswered, ScAnswered, VlAnswered}
use Rattle.model.specs.Replies.{number_of}
use Rattle.notation.specs.Readings.{Reader}
use Rattle.listing.specs.Lines.{letter_s, letter_v, ll_line, truth_line}
use Rattle.access.specs.declared.Access.{Access}
use Rattle.access.specs.TraceLines.{step_line}
use Rattle.text_runs.specs.Machines.{Machine}
use Rattle.text_runs.specs.TextRun.{Ended, run_with}
use Rattle.text_model.specs.TextRun.{answers, access_now}
use Rattle.station.specs.Station.{StationMemory, process_at, return_area_of}
use Rattle.station.specs.Projection.{at_rest}
use Rattle.station.specs.StationRefusals.{StationOrder, StationShaped}
use Rattle.station.specs.StationCommand.{station_command}
use Rattle.station.specs.StationSetUp.{station_set_up}
use Rattle.station_laws.specs.OneRecord.{as_bench}
use Rattle.station_text_machine.specs.StationText.{StationEnded, station_run_text}

-- "The listing has a line for each answer": with the memory as the command left it
abbrev pub line_of : StationMemory → ℕ → Reply → List ℕ
line_of s p (Refused c) = []
line_of s p Accepted = []
line_of s p (LlAnswered k) = ll_line p k (return_area_of s (record { 0 = p }))
line_of s p (ScAnswered t k) = truth_line p letter_s k t
line_of s p (VlAnswered t k) = truth_line p letter_v k t

-- "A start names a record": record 0
abbrev pub on_record0 : ℕ → Order → List ℕ → StationOrder
on_record0 p o v = record { process = p; order = o; called = 0; value = v }

-- The machine of a station's record 0. (A trace would show the accesses of its bench; a station's run has a listing alone.)
abbrev pub station_machine : Machine
station_machine = record {
  Memory = StationMemory;
  Reply = Reply;
  set_up = λ s n w v. station_set_up s n w 1 v;
  command = λ s p o v. station_command s (on_record0 p o v);
  width = λ s. s.w;
  idle = λ s p. at_rest (process_at s p);
  number_of = number_of;
  answers = answers;
  line_of = line_of;
  Shown = Access;
  shows = λ s p. access_now (as_bench s) p;
  step_line = step_line;
}

-- "Every text run returns a number (0 at `end`), the entries done and the count of listing bytes written."
abbrev pub returned : Ended station_machine → StationEnded
returned e = record { number = e.number; entries = e.entries; written = e.written; memory = e.memory; listing = e.listing }

-- A text run on a station is this run: number, entries done, bytes written, listing and all lent memory, whatever the text
-- and the memory.
abbrev pub EntryByEntry : Type 0
EntryByEntry =
    (s : StationMemory) → StationShaped s → (r : Reader) (text listing : List ℕ)
    → station_run_text s text listing ≡ returned (run_with station_machine r false s text listing)
