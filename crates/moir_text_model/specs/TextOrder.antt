-- CR 8's order for the answers of every text on Moir's bench, with no hypothesis on the text: "60,000 entries already
-- done" refuse (01), so the commands of its run are fewer than the 65,535 successes of CR 8's bound.
use Rattle.std.specs.Prelude.{ℕ, ◌≤◌, ◌≡◌, List, Bool, length, replicate}
use Rattle.notation.specs.Grammar.{Text, Said, bytes, says, deepest}
use Rattle.notation.proofs.ReadingLaws.{reader}
use Rattle.moir_model.specs.Machine.{Memory, Shaped}
use Rattle.moir_model.specs.SetUp.{set_up}
use Rattle.moir_model.specs.History.{events}
use Rattle.moir_linearization.specs.Linearizable.{Claim}
use Rattle.text_runs.specs.TextRun.{room_needed, longest_text, run_with}
use Rattle.text_runs.specs.RunCommands.{Carries}
use Rattle.moir_text_model.specs.TextRun.{figure6, Ended}

-- the value that a text gives, in all W words, and its set-up of the lent memory m
abbrev pub value_of : Said → List ℕ
value_of a = replicate a.w a.initial

abbrev pub prepared : Memory → Said → ℕ × Memory
prepared m a = set_up m a.n a.w (value_of a)

-- What the run of a text that says a has come to: the memory and the listing of a list of commands after its set-up, and
-- "the Figure 1 order for its answers" (02, CR 8).
pub record Ordered (traced : Bool) (m : Memory) (a : Said) (listing : List ℕ) (r : Ended) : Type 0 where
  pub run : Carries figure6 traced (prepared m a).1 listing r
  pub order : Claim a.n (value_of a) (events (prepared m a).1 run.commands)

-- every right text whose set-up is accepted, with the listing or with the trace, whatever the lent memory held
abbrev pub TextOrder : Type 0
TextOrder =
    (traced : Bool) (m : Memory) → Shaped m → (text listing : List ℕ) → room_needed traced ≤ length listing → length text ≤ longest_text
    → (x : Text deepest) → bytes x ≡ text → (prepared m (says x)).0 ≡ 0
    → Ordered traced m (says x) listing (run_with figure6 reader traced m text listing)
