-- A board's trace file run on a bench of its own (02, CR 12), for callers that lend a file and room for the listing and
-- nothing else.
use Rattle.std.specs.Prelude.{ℕ, List}
use Rattle.text_model.specs.TextRun.{Ended}
use Rattle.board_listing.specs.BoardListing.{board_listed}
use Rattle.besklaun.specs.declared.board_files.BoardRun.{BoardRun}
use Rattle.besklaun.specs.OwnBench.{all_words, own_memory}

-- "number (0 for none) and commands done", and the bytes written
abbrev pub board_seen : Ended → BoardRun × List ℕ
board_seen e = (record { number = e.number; done = e.entries; written = e.written }, e.listing)

-- a set-up for N = n and W = w with k in all W words, and then the file, its listing into these bytes
abbrev pub board_run : ℕ → ℕ → ℕ → List ℕ → List ℕ → BoardRun × List ℕ
board_run n w k file bytes = board_seen (board_listed (own_memory all_words) n w k file bytes)
