-- The promises of README for Moir's bench (CR 8): "Promises 1 and 2 hold of its command, its set-up and its text run
-- as well", and the order of its answers under the bound. What its entries reply and leave is their contracts: `command`
-- and `set_up` at `moir_bench`'s two, `TextRan` of `moir_text_machine/specs/TextRan` at its text run.
use Rattle.std.specs.Prelude.{◌≡◌, ℕ, List, true, false, replicate}
use Rattle.llsc.specs.Rows.{first}
use Rattle.llsc.specs.History.{Command}
use Rattle.moir_model.specs.declared.Reply.TheVariants.{Refused}
use Rattle.moir_model.specs.Machine.{Memory, Shaped}
use Rattle.moir_model.specs.Refusals.{command_rows, set_up_rows}
use Rattle.moir_model.specs.Command.{refusal, command, obeyed}
use Rattle.moir_model.specs.SetUp.{at_set_up, set_up}
use Rattle.moir_model.specs.Replies.{number_of}
use Rattle.moir_linearization.specs.Linearizable.{MoirOrder, MoirAlways}
use Rattle.moir_linearization.specs.ShortRuns.{ShortOrder}
use Rattle.moir_linearization.specs.OwnDoing.{NeverForItsOwnDoing}
use Rattle.notation.specs.Grammar.{Said}
use Rattle.text_runs.specs.TextRun.{carry_all}
use Rattle.moir_text_model.specs.TextRun.{figure6}
use Rattle.moir_text_model.specs.TextOrder.{TextOrder}
use Rattle.moir_text_model.specs.TrueLines.{Told, trace_begun}
use Rattle.promises.specs.Promises.{some_cause}

-- PROMISE 1 of its command and its set-up. "Rows 1 to 9 serve this bench".
pub record RefusedExactly (m : Memory) (c : Command) : Type 0 where
  pub cause : some_cause (command_rows m c.process c.order c.value) ≡ true
      → command m c.process c.order c.value ≡ (Refused (first (command_rows m c.process c.order c.value)), m)
  pub told : some_cause (command_rows m c.process c.order c.value) ≡ true
      → first (command_rows m c.process c.order c.value) ≡ 0 → ⊥
  pub no_cause : some_cause (command_rows m c.process c.order c.value) ≡ false
      → number_of (command m c.process c.order c.value).0 ≡ 0

pub record SetUpRefusedExactly (m : Memory) (n w : ℕ) (value : List ℕ) : Type 0 where
  pub cause : some_cause (set_up_rows m n w value) ≡ true → set_up m n w value ≡ (first (set_up_rows m n w value), m)
  pub told : some_cause (set_up_rows m n w value) ≡ true → first (set_up_rows m n w value) ≡ 0 → ⊥
  pub no_cause : some_cause (set_up_rows m n w value) ≡ false → set_up m n w value ≡ (0, at_set_up m n w value)

abbrev pub MoirPromise1 : Type 0
MoirPromise1 =
    ((m : Memory) (c : Command) → RefusedExactly m c)
    × ((m : Memory) (n w : ℕ) (value : List ℕ) → SetUpRefusedExactly m n w value)

-- PROMISE 2. "Steps follow Figure 6 but for one gap", "one whole access to a step": `obeyed` is
-- `moir_model/specs/Machine`'s Figure 6, point by point.
abbrev pub MoirPromise2 : Type 0
MoirPromise2 =
    (m : Memory) (c : Command) → refusal m c.process c.order c.value ≡ 0
    → command m c.process c.order c.value ≡ obeyed m (record { 0 = c.process }) c.order c.value

-- PROMISE 3. "Prove the Figure 1 order for its answers over runs in which fewer than 65,535 SCs succeed during any
-- one call and from any WLL's start to the end of each later SC or VL of that process before its next WLL". Fewer
-- than 65,535 commands are always such a run, and so is every text.
abbrev pub MoirPromise3 : Type 0
MoirPromise3 = MoirOrder × ShortOrder × TextOrder

-- "The counts, that a named process wrote during that WLL, and that no SC or VL answers false wrongly, need none in
-- any run."
abbrev pub WithoutTheBound : Type 0
WithoutTheBound = MoirAlways × NeverForItsOwnDoing

-- THE TRACE: "each line of a trace is true of its step".
abbrev pub EveryMoirLineIsTrue : Type 0
EveryMoirLineIsTrue =
    (m : Memory) → Shaped m → (a : Said) (listing : List ℕ) → (set_up m a.n a.w (replicate a.w a.initial)).0 ≡ 0
    → Told (trace_begun m a listing) (carry_all figure6 a.entries (trace_begun m a listing))
