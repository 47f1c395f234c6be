-- Where two causes of a command's refusal hold at once, the row that comes first decides: 4, then 8, then 5, 6, 7. Computed.
use mathlib.Core.Path.{◌≡◌, refl}
use Prim.Native.Nat.{ℕ}
use mathlib.Core.List.{List, [], ◌∷◌}
use mathlib.Core.Bool.{Bool, true, false}
use lib.ListN.{replicate}
use Rattle.model.specs.declared.Process.{Process}
use Rattle.llsc.specs.declared.Order.TheVariants.{StartSc}
use Rattle.model.specs.declared.Reply.TheVariants.{Refused}
use Rattle.model.specs.Machine.{Memory}
use Rattle.model.specs.Records.{no_process}
use Rattle.model.specs.Refusals.{in_range}
use Rattle.model.specs.Command.{command, refusal}
use Rattle.model.specs.SetUp.{set_up, set_up_refusal}
use Rattle.model.proofs.Schedules.{dirty}

-- an SC with so many words by process p, where process 0 stands at a line and has or has not had an LL answered (N = 2, W = 2)
pub record Case : Type 0 where
  pub line : ℕ
  pub answered : Bool
  pub process : ℕ
  pub words : ℕ
  pub number : ℕ

abbrev at_line : ℕ → Bool → Process
at_line line answered =
    record { mybuf = record { 0 = 4 }; x = no_process.x; line = line; word = 0; count = 0; answered = answered; b = no_process.b; c = no_process.c; d = no_process.d; e = no_process.e }

abbrev memory_of : Case → Memory
memory_of c =
    let ready : Memory = (set_up dirty 2 2 (7 ∷ 7 ∷ [])).1 in
    record { bench = ready.bench; records = at_line c.line c.answered ∷ no_process ∷ []; words = ready.words }

-- each is refused with its number, and nothing in memory changes
abbrev Refuses : List Case → Type 0
Refuses [] = Unit {0}
Refuses (c ∷ cs) = (command (memory_of c) c.process StartSc (replicate c.words 9) ≡ (Refused c.number, memory_of c)) × Refuses cs

abbrev case : ℕ → Bool → ℕ → ℕ → ℕ → Case
case line answered process words number = record { line = line; answered = answered; process = process; words = words; number = number }

-- a wrong word count at a process that is busy, that never linked, that is both, that is neither
abbrev wrong_words : List Case
wrong_words = case 1 true 0 1 8 ∷ case 0 false 0 3 8 ∷ case 1 false 0 1 8 ∷ case 0 true 0 0 8 ∷ []

-- a wrong word count, and a right one, at a process not below N
abbrev no_processes : List Case
no_processes = case 0 true 2 1 4 ∷ case 1 false 2 3 4 ∷ case 0 true 2 2 4 ∷ []

-- a right word count
abbrev right_words : List Case
right_words = case 1 true 0 2 5 ∷ case 1 false 0 2 5 ∷ case 0 false 0 2 7 ∷ []

pub eight_before_five_and_seven : Refuses wrong_words
unfolding command refusal in_range set_up set_up_refusal
eight_before_five_and_seven = (refl, (refl, (refl, (refl, tt))))

pub four_before_eight : Refuses no_processes
unfolding command refusal in_range set_up set_up_refusal
four_before_eight = (refl, (refl, (refl, tt)))

pub five_and_seven_as_before : Refuses right_words
unfolding command refusal in_range set_up set_up_refusal
five_and_seven_as_before = (refl, (refl, (refl, tt)))
