-- The run of a board's trace file on a station (02, CR 12): "The bench also runs such a file on record 0 of the memory
-- lent, an SC's value in all W words, up to the first refusal".
use Rattle.std.specs.Prelude.{ℕ, suc, List, [], ◌∷◌, cond, eqb, replicate}
use Rattle.llsc.specs.declared.Order.{Order}
use Rattle.llsc.specs.declared.Order.TheVariants.{StartLl, StartSc, StartVl, Step}
use Rattle.model.specs.declared.Reply.{Reply}
use Rattle.model.specs.Replies.{number_of}
use Rattle.boards.specs.Files.{BoardRecord, decode, file_number}
use Rattle.station.specs.Station.{StationMemory}
use Rattle.station.specs.StationRefusals.{StationOrder}
use Rattle.station.specs.StationCommand.{station_command}
use Rattle.board_commands.specs.declared.FileRun.{FileRun}

-- "order (1: 0 step, 1 LL, 2 SC, 3 VL)"; row 26 has refused any other
abbrev pub order_of : ℕ → Order
order_of o = cond (eqb o 0) Step (cond (eqb o 1) StartLl (cond (eqb o 2) StartSc StartVl))

-- A record as a command: "on record 0 of the memory lent, an SC's value in all W words". A step goes to the record of
-- the open call, whichever that is.
abbrev pub command_of : ℕ → BoardRecord → StationOrder
command_of w r = record { process = r.process; order = order_of r.order; called = 0; value = replicate w r.value }

-- "up to the first refusal: memory, number (0 for none) and commands done are as if its records came one by one": the
-- records that are left are run after so many commands done, each on the memory that the one before it left
unfoldable pub run_records : ℕ → List BoardRecord → StationMemory → FileRun × StationMemory
run_records done [] s = (record { number = 0; done = done }, s)
run_records done (r ∷ rs) s =
    let out : Reply × StationMemory = station_command s (command_of s.w r) in
    let number : ℕ = number_of out.0 in
    cond (eqb number 0) (run_records (suc done) rs out.1) (record { number = number; done = done }, out.1)

-- "25 and 26 also before a run": then nothing is done. A run makes no set-up.
unfoldable pub run_file : List ℕ → StationMemory → FileRun × StationMemory
run_file file s =
    cond (eqb (file_number file) 0) (run_records 0 (decode file) s) (record { number = file_number file; done = 0 }, s)
