-- CR 8's claims: the order that Figure 1's object serves, under the bound; what holds without it; and the counts.
use Rattle.std.specs.Prelude.{◌≡◌, true, false, ◌⊎◌, List, [], ◌∷◌, ◌++◌, ℕ, ◌+◌, ◌*◌, ◌≤◌, ◌<◌, length}
use Rattle.llsc.specs.Answers as R
use Rattle.llsc.specs.Object.{Kind, ll, sc, vl}
use Rattle.llsc.specs.History as H
use Rattle.llsc.specs.Linearizable as AnyBench
use Rattle.llsc.specs.Linearizable.{All, Linearization}
use Rattle.moir_model.specs.Sizes.{wll_most, sc_most}
use Rattle.moir_model.specs.Machine.{Memory, Shaped}
use Rattle.moir_model.specs.SetUp.{set_up}
use Rattle.moir_model.specs.Replies.{Answer, words, names, sc_truth, vl_truth}
use Rattle.moir_model.specs.History.{Event, events, Outcome, ended, pending, Call, calls, successes_up_to, WonFrom}
use Rattle.moir_linearization.specs.Bound.{Bounded}

-- What the object is fed: the answered calls, and "An open SC whose CAS on the header has succeeded counts as one that
-- answered true at its last step; other open calls count for nothing."
pub record Served : Type 0 where
  pub process : ℕ
  pub kind : Kind
  pub start : ℕ
  pub end : ℕ
  pub answer : Answer

abbrev pub served_as : Call → Outcome → List Served
served_as c (ended a n) = record { process = c.process; kind = c.kind; start = c.start; end = c.end; answer = a } ∷ []
served_as c (pending true) = record { process = c.process; kind = c.kind; start = c.start; end = c.end; answer = sc_truth true } ∷ []
served_as c (pending false) = []

abbrev pub served_calls : List Call → List Served
served_calls [] = []
served_calls (c ∷ cs) = served_as c c.outcome ++ served_calls cs

-- "a WLL that names a process counts as an LL whose value isn't compared"
abbrev pub Fits : Answer → R.Answer → Type 0
Fits (words w) a = a ≡ R.Answer.ll_words w
Fits (names q) a = Unit {0}
Fits (sc_truth b) a = a ≡ R.Answer.sc_truth b
Fits (vl_truth b) a = a ≡ R.Answer.vl_truth b

pub record Matches (c : Served) (d : H.Call) : Type 0 where
  pub process : d.process ≡ c.process
  pub kind : d.kind ≡ c.kind
  pub start : d.start ≡ c.start
  pub end : d.end ≡ c.end
  pub answer : Fits c.answer d.answer

abbrev pub AllMatch : List Served → List H.Call → Type 0
AllMatch [] [] = Unit {0}
AllMatch [] (d ∷ ds) = ⊥
AllMatch (c ∷ cs) [] = ⊥
AllMatch (c ∷ cs) (d ∷ ds) = Matches c d × AllMatch cs ds

-- There are words for each naming WLL such that the calls have moments as promise 3 says: the statement that both
-- benches share.
pub record Linearizable (places : ℕ) (value : List ℕ) (cs : List Served) : Type 0 where
  pub filled : List H.Call
  pub matches : AllMatch cs filled
  pub linearization : Linearization places value filled

-- the truth of an SC or VL, an open SC counted as it is fed
abbrev pub IsTrue : Outcome → Type 0
IsTrue (ended (words w) n) = ⊥
IsTrue (ended (names q) n) = ⊥
IsTrue (ended (sc_truth b) n) = b ≡ true
IsTrue (ended (vl_truth b) n) = b ≡ true
IsTrue (pending b) = b ≡ true

-- "the SC or VL after it must answer false": every SC and VL of a process between a WLL of it that named a process and its
-- next WLL
abbrev pub FalseAfterNaming : Call → Type 0
FalseAfterNaming c = c.named ≡ true → IsTrue c.outcome → ⊥

-- what is claimed of the events of one list, under the bound
pub record Claim (N : ℕ) (value : List ℕ) (es : List Event) : Type 0 where
  pub linearizable : (places : ℕ) → length (served_calls (calls N es)) ≤ places → Linearizable places value (served_calls (calls N es))
  pub false_after_naming : All FalseAfterNaming (calls N es)

-- CR 8's ORDER: over every list after every accepted set-up, whatever the lent memory held, within the bound
abbrev pub MoirOrder : Type 0
MoirOrder =
    (m : Memory) → Shaped m → (n w : ℕ) (value : List ℕ) (cs : List H.Command) → (set_up m n w value).0 ≡ 0
    → Bounded n (events (set_up m n w value).1 cs) → Claim n value (events (set_up m n w value).1 cs)

-- Own steps: c copies, of five steps in place of two, of at most `limit` words
pub record Copies (base limit steps : ℕ) : Type 0 where
  pub copies : ℕ
  pub few : copies ≤ limit
  pub steps_are : steps ≡ base + 3 * copies

-- Copy ended at its j-th word, 1 ≤ j ≤ W, of which c ≤ j were copied
pub record EndedAt (w base steps : ℕ) : Type 0 where
  pub begun : ℕ
  pub one : 1 ≤ begun
  pub within : begun ≤ w
  pub copied : Copies (base + 2 * begun) begun steps

-- WLL with words 2W+1+3c, c ≤ W; WLL naming 1+2j+3c; SC false 1 (line 15) or W+2 (line 19); SC true W+2+2j+3c; VL 1
abbrev pub OwnSteps : ℕ → Answer → ℕ → Type 0
OwnSteps w (words ws) k = Copies (2 * w + 1) w k
OwnSteps w (names q) k = EndedAt w 1 k
OwnSteps w (sc_truth true) k = EndedAt w (w + 2) k
OwnSteps w (sc_truth false) k = (k ≡ 1) ⊎ (k ≡ w + 2)
OwnSteps w (vl_truth b) k = k ≡ 1

abbrev pub largest : ℕ → Kind → ℕ
largest w ll = wll_most w
largest w (sc offered) = sc_most w
largest w vl = 1

-- "each answer brings the true count of own steps", "open calls have fewer than their kind's largest"
abbrev pub CountedAs : ℕ → Call → Outcome → Type 0
CountedAs w c (ended a n) = AnyBench.Counted (OwnSteps w a) n c.steps
CountedAs w c (pending b) = c.steps < largest w c.kind

abbrev pub Counted : ℕ → Call → Type 0
Counted w c = CountedAs w c c.outcome

-- "the number of a process that wrote during it": in a command after the WLL's start and not after its answer
pub record Wrote (es : List Event) (q from to : ℕ) : Type 0 where
  pub at : ℕ
  pub after : from < at
  pub by : at ≤ to
  pub won : WonFrom 1 es q at

abbrev pub NamedWroteAs : List Event → Call → Outcome → Type 0
NamedWroteAs es c (ended (words w) n) = Unit {0}
NamedWroteAs es c (ended (names q) n) = Wrote es q c.start c.end
NamedWroteAs es c (ended (sc_truth b) n) = Unit {0}
NamedWroteAs es c (ended (vl_truth b) n) = Unit {0}
NamedWroteAs es c (pending b) = Unit {0}

abbrev pub NamedWrote : List Event → Call → Type 0
NamedWrote es c = NamedWroteAs es c c.outcome

-- no SC or VL is wrongly false: one that answers false has a success between the first step of its process's last WLL,
-- which read the header, and its answer
abbrev pub FalseWithCauseAs : List Event → Call → Outcome → Type 0
FalseWithCauseAs es c (ended (words w) n) = Unit {0}
FalseWithCauseAs es c (ended (names q) n) = Unit {0}
FalseWithCauseAs es c (ended (sc_truth b) n) = b ≡ false → successes_up_to es c.read < successes_up_to es c.end
FalseWithCauseAs es c (ended (vl_truth b) n) = b ≡ false → successes_up_to es c.read < successes_up_to es c.end
FalseWithCauseAs es c (pending b) = Unit {0}

abbrev pub FalseWithCause : List Event → Call → Type 0
FalseWithCause es c = FalseWithCauseAs es c c.outcome

-- what is claimed without the bound
pub record Always (N w : ℕ) (es : List Event) : Type 0 where
  pub counted : All (Counted w) (calls N es)
  pub named_wrote : All (NamedWrote es) (calls N es)
  pub false_with_cause : All (FalseWithCause es) (calls N es)

-- CR 8 without the bound: over every list after every accepted set-up
abbrev pub MoirAlways : Type 0
MoirAlways =
    (m : Memory) → Shaped m → (n w : ℕ) (value : List ℕ) (cs : List H.Command) → (set_up m n w value).0 ≡ 0
    → Always n w (events (set_up m n w value).1 cs)
