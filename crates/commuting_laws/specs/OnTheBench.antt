-- CR 13 for the bench of one record, which a text runs on: the same of its commands.
use Rattle.std.specs.Prelude.{◌≡◌, ◌≢◌, ℕ, List}
use Rattle.llsc.specs.declared.ProcessNumber.{ProcessNumber}
use Rattle.model.specs.declared.Process.{Process}
use Rattle.model.specs.declared.Reply.{Reply}
use Rattle.model.specs.Words.{one_record}
use Rattle.model.specs.Records.{record_at}
use Rattle.model.specs.Machine.{Memory, Shaped}
use Rattle.model.specs.Command.{refusal, command}
use Rattle.model.specs.SetUp.{set_up}
use Rattle.model.specs.History.{next, event_of}
use Rattle.llsc.specs.History.{Command}
use Rattle.after_commands.specs.After.{after}
use Rattle.doings.specs.declared.Item.{Item}
use Rattle.doings.specs.Own.{own_in}
use Rattle.doings.specs.Doings.{Touching, doing, Apart}

abbrev pub Admitted : Memory → Command → Type 0
Admitted m c = refusal m c.process c.order c.value ≡ 0

abbrev pub reply : Memory → Command → Reply
reply m c = (command m c.process c.order c.value).0

-- what the command c does in m
abbrev pub bench_does : Memory → Command → Touching Item Process
bench_does m c =
    let p : ProcessNumber = record { 0 = c.process } in
    doing c.order m.bench.n m.bench.w p c.value
    (own_in (one_record m.bench.n) m.bench.w p (record_at m.records p) m.words)

-- d before c: both are accepted, each is answered as in the other order, and the memory is the same
pub record BenchSwapped (m : Memory) (c d : Command) : Type 0 where
  pub admitted_d : Admitted m d
  pub admitted_c : Admitted (next m d) c
  pub reply_c : reply (next m d) c ≡ reply m c
  pub reply_d : reply m d ≡ reply (next m c) d
  pub said_c : (event_of (next m d) c).said ≡ (event_of m c).said
  pub said_d : (event_of m d).said ≡ (event_of (next m c) d).said
  pub memory : next (next m d) c ≡ next (next m c) d

abbrev pub CommuteOnTheBench : Type 0
CommuteOnTheBench =
    (m : Memory) → Shaped m → (n w : ℕ) (value : List ℕ) (cs : List Command) → (set_up m n w value).0 ≡ 0
    → let here = after (set_up m n w value).1 cs in
    (c d : Command) → c.process ≢ d.process → Admitted here c → Admitted (next here c) d
    → Apart (bench_does here c) (bench_does (next here c) d) → BenchSwapped here c d
