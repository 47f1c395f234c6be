-- A board's trace file run on the bench, with a listing: 02, CR 12 ("The bench also runs such a file .. up to the first
-- refusal") with the listing of 01 ("The listing has a line for each answer"). Crate `board_laws` ties it to the run
-- on a station.
use Rattle.std.specs.Prelude.{ℕ, ◌-◌, List, [], ◌∷◌, false, cond, eqb, ltb, length, replicate}
use Rattle.model.specs.Machine.{Memory}
use Rattle.model.specs.SetUp.{set_up}
use Rattle.notation.specs.declared.Entry.{Entry}
use Rattle.notation.specs.declared.Entry.TheVariants.{StartLl, StartVl, StartSc, Step}
use Rattle.boards.specs.Files.{BoardRecord, decode, file_number}
use Rattle.text_runs.specs.TextRun.{room_needed}
use Rattle.text_model.specs.TextRun.{Progress, stopped, commanded, Ended, ended, begun}

-- a record as the entry of a text: "order (1: 0 step, 1 LL, 2 SC, 3 VL)", "an SC's value in all W words"
abbrev pub entry_of : BoardRecord → Entry
entry_of r =
    cond (eqb r.order 0) (Step r.process)
    (cond (eqb r.order 1) (StartLl r.process) (cond (eqb r.order 2) (StartSc r.process r.value) (StartVl r.process)))

-- One record: before each command 14, as before each entry of a text; then its command, with the line of its answer.
-- There is no 12: a file may have more than 60,000 records.
abbrev pub obeyed : BoardRecord → Progress → Progress
obeyed r s = cond (ltb (length s.listing - s.written) (room_needed false)) (stopped 14 s) (commanded (entry_of r) s)

-- "up to the first refusal"
unfoldable pub obey_all : List BoardRecord → Progress → Progress
obey_all [] s = s
obey_all (r ∷ rs) s = let next : Progress = obeyed r s in cond (eqb next.stop 0) (obey_all rs next) next

-- "25 and 26 also before a run": then no command is done
unfoldable pub run_listed : Memory → List ℕ → List ℕ → Ended
run_listed m file listing =
    cond (eqb (file_number file) 0) (ended (obey_all (decode file) (begun false m listing 0))) (ended (begun false m listing (file_number file)))

-- the set-up, refused or done
abbrev pub after_set_up : Memory → List ℕ → List ℕ → ℕ × Memory → Ended
after_set_up m file listing prepared =
    cond (eqb prepared.0 0) (run_listed prepared.1 file listing) (ended (begun false m listing prepared.0))

-- The whole: 14 at its start, which writes nothing, as a text run's; then a set-up for N = n and W = w with k in all W
-- words, "1, 2, 3"; then the file.
unfoldable pub board_listed : Memory → ℕ → ℕ → ℕ → List ℕ → List ℕ → Ended
board_listed m n w k file listing =
    cond (ltb (length listing) (room_needed false)) (record { number = 14; entries = 0; written = 0; memory = m; listing = listing })
    (after_set_up m file listing (set_up m n w (replicate w k)))
