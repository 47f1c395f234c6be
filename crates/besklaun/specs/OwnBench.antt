-- A text run on a bench of its own, for callers that lend a text and room for the listing and nothing else.
use Rattle.std.specs.Prelude.{ℕ, List, Bool, replicate, cond, leb}
use Rattle.model.specs.Records.{no_process}
use Rattle.model.specs.Machine.{Memory}
use Rattle.model.specs.SetUp.{empty_bench}
use Rattle.notation.specs.Readings.{Reading, right, wrong}
use Rattle.notation.proofs.ReadingLaws.{reader}
use Rattle.text_model.specs.TextRun.{run_with}
use Rattle.text_runs.specs.Machines.{Machine}
use Rattle.text_runs.specs.TextRun.{Ended}
use Rattle.text_runs.specs.declared.returned.TextRun.{TextRun}

-- 5NW words for N = 16 and W = 64, enough for every text; and for N = 16 and W = 8
abbrev pub all_words : List ℕ
all_words = replicate 5120 0

abbrev pub few_words : List ℕ
few_words = replicate 640 0

-- the largest W for which these are enough
abbrev pub narrow : ℕ
narrow = 8

abbrev pub words_for : ℕ → List ℕ
words_for w = cond (leb w narrow) few_words all_words

-- what a right text needs; a wrong one is refused before the bench is looked at
abbrev pub words_of : Reading → List ℕ
words_of (right a) = words_for a.w
words_of (wrong k left) = all_words

abbrev pub own_words : List ℕ → List ℕ
own_words text = words_of (reader.read text)

-- with sixteen process records
abbrev pub own_memory : List ℕ → Memory
own_memory words = record { bench = empty_bench; records = replicate 16 no_process; words = words }

-- 01: "Every text run returns a number (0 at `end`), the entries done and the count of listing bytes written." The
-- caller sees these and the bytes that it lent, and nothing of the bench.
abbrev pub seen : {x : Machine} → Ended x → TextRun × List ℕ
seen e = (record { number = e.number; entries = e.entries; written = e.written }, e.listing)

-- a text run on a bench with these words
abbrev pub run_on : Bool → List ℕ → List ℕ → List ℕ → TextRun × List ℕ
run_on traced words text bytes = seen (run_with traced (own_memory words) text bytes)

-- a text run into these bytes, of its listing or, where `traced`, of its trace
abbrev pub text_run : Bool → List ℕ → List ℕ → TextRun × List ℕ
text_run traced text bytes = run_on traced (own_words text) text bytes
