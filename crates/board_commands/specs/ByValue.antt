-- The run by value: `all` holds the first sixteen lent process records, with a filler where there are fewer, `len` is how
-- many were lent.
-- Inner: `StoredRun` proves that this, stored back, is `run_file`.
use Rattle.std.specs.Prelude.{ℕ, suc, List, [], ◌∷◌, None, Some, Ok, Err, cond, eqb, ltb, replicate, set}
use Rattle.boards.specs.Files.{BoardRecord, decode, file_number}
use Rattle.station.specs.declared.Station.{Station}
use Rattle.station.specs.declared.StationProcess.{StationProcess}
use Rattle.station.specs.Station.{StationMemory}
use Rattle.station_records.specs.Gathered.{left_stored}
use Rattle.station_machine.specs.declared.Outcome.{Outcome}
use Rattle.station_machine.specs.StationDecision.{Decided, station_decided}
use Rattle.board_commands.specs.declared.FileRun.{FileRun}
use Rattle.board_commands.specs.declared.RunLeft.{RunLeft}
use Rattle.board_commands.specs.BoardRun.{order_of}

-- the words that a value needs: where W is over 64 a command is refused before they are counted
abbrev pub at_most64 : ℕ → ℕ
at_most64 w = cond (ltb 64 w) 64 w

-- what a record's command comes to
unfoldable pub decided : Station → List StationProcess → ℕ → BoardRecord → List ℕ → Decided
decided s all len r ws =
    station_decided s all len r.process (order_of r.order) 0 (replicate s.w r.value) ws

-- a run that ends here: nothing is left to store where nothing was done
abbrev pub left_with : Station → List StationProcess → ℕ → ℕ → RunLeft
left_with s all number done = record {
  left = cond (ltb 0 done) (Some (record { station = s; all = all })) None;
  ran = record { number = number; done = done };
}

abbrev pub processes_after : List StationProcess → Outcome → List StationProcess
processes_after all out = set all out.at out.process

-- what comes after a command: one thing where it was obeyed, another where it was refused
abbrev pub after_one : {A : Type 0} → Decided → (Outcome → List ℕ → A) → (ℕ → List ℕ → A) → A
after_one (Ok out, ws) obeyed refused = obeyed out ws
after_one (Err number, ws) obeyed refused = refused number ws

-- the records that are left, after so many commands done
unfoldable pub records_run : ℕ → List BoardRecord → Station → List StationProcess → ℕ → List ℕ → RunLeft × List ℕ
records_run done [] s all len ws = (left_with s all 0 done, ws)
records_run done (r ∷ rs) s all len ws =
    after_one (decided s all len r ws)
    (λ out ws'. records_run (suc done) rs out.station (processes_after all out) len ws')
    (λ number ws'. (left_with s all number done, ws'))

unfoldable pub file_run : List ℕ → Station → List StationProcess → ℕ → List ℕ → RunLeft × List ℕ
file_run file s all len ws =
    cond (eqb (file_number file) 0) (records_run 0 (decode file) s all len ws) (left_with s all (file_number file) 0, ws)

-- what a run returns and leaves, once the caller has stored it back
abbrev pub stored_run : Station → List StationProcess → RunLeft × List ℕ → FileRun × StationMemory
stored_run s ps x = (x.0.ran, left_stored s ps x.1 x.0.left)
