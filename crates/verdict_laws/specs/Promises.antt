-- What is promised of the judge (02, CR 1).
use Rattle.std.specs.Prelude.{◌≡◌, ℕ, ◌≤◌, ◌<◌, ◌^◌, List, map, length}
use Rattle.model.specs.Machine.{Memory, Shaped}
use Rattle.model.specs.SetUp.{set_up}
use Rattle.llsc.specs.History.{Command, Call, calls}
use Rattle.model.specs.History.{events}
use Rattle.llsc.specs.Linearizable.{All, Timed, Linearization}
use Rattle.verdicts.specs.declared.Verdict.TheVariants.{Yes}
use Rattle.verdicts.specs.Log.{entries}
use Rattle.verdicts.specs.Verdicts.{call_of, timed_of, judged}
use Rattle.verdict_laws.specs.BenchLogs.{log_for}
use Rattle.verdict_laws.specs.CallFacts.{Loggable}

-- every number fits 64 bits
abbrev pub Fits : List ℕ → Type 0
Fits ns = All (λ k. k < 2 ^ 64) ns

-- "at most .. 2 to the 50th commands", "places being 1,024 times the command's number"
abbrev pub most_commands : ℕ
most_commands = 2 ^ 50

abbrev pub places : ℕ
places = 1024

-- moments for the answered calls that earn a yes; all numbers of the log fit where those of the value and of the
-- commands do
pub record EarnsYes (n w : ℕ) (value : List ℕ) (commands : List Command) (answered : List Call) : Type 0 where
  pub timed : List Timed
  pub same_calls : map (λ (t : Timed). t.call) timed ≡ answered
  pub yes : judged n w value (log_for w places timed) ≡ Yes
  pub fits : Fits value → All (λ (c : Command). Fits c.value) commands → Fits (log_for w places timed)

-- "every bench history from a set-up, of at most 512 answered calls and 2 to the 50th commands, .. has moments that
-- earn a yes"
abbrev pub EveryHistoryEarnsYes : Type 0
EveryHistoryEarnsYes =
    (m : Memory) → Shaped m → (n w : ℕ) (value : List ℕ) (cs : List Command) → (set_up m n w value).0 ≡ 0 → length cs ≤ most_commands
    → length (calls (events (set_up m n w value).1 cs)) ≤ 512 → EarnsYes n w value cs (calls (events (set_up m n w value).1 cs))

-- the same of any list of calls: what a linearization places earns a yes
abbrev pub LinearizedEarnsYes : Type 0
LinearizedEarnsYes =
    (places n w : ℕ) (value : List ℕ) (cs : List Call) → 0 < places → (1 ≤ n) × (n ≤ 16) → (1 ≤ w) × (w ≤ 64) → length value ≡ w → length cs ≤ 512 → Loggable n w cs
    → (l : Linearization places value cs) → judged n w value (log_for w places l.timed) ≡ Yes

-- a yes is never given wrongly: the log's own moments are a linearization of its calls
abbrev pub YesIsRight : Type 0
YesIsRight = (n w : ℕ) (value log : List ℕ) → judged n w value log ≡ Yes → (l : Linearization 1 value (map call_of (entries w log))) × (l.timed ≡ map timed_of (entries w log))
