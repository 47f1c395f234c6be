-- Histories: the calls of a list of commands, answered or open, from the commands, what the replies say, and where the
-- header changes; from nothing else.
use Rattle.std.specs.Prelude.{◌≡◌, ◌⊎◌, ℕ, zero, suc, ◌+◌, List, [], ◌∷◌, ◌++◌, Bool, true, false, not, ◌&&◌, ◌||◌, cond, leb}
use Rattle.llsc.specs.declared.Order.{Order}
use Rattle.llsc.specs.declared.Order.TheVariants.{StartLl, StartSc, StartVl, Step}
use Rattle.llsc.specs.Object.{Kind, ll, sc, vl, set_at}
use Rattle.llsc.specs.History.{Command, along_all}
use Rattle.moir_model.specs.Machine.{Memory}
use Rattle.moir_model.specs.Lines.{same_header}
use Rattle.moir_model.specs.Command.{command}
use Rattle.llsc.specs.Answers.{refused, accepted, answered}
use Rattle.moir_model.specs.Replies.{Answer, words, names, sc_truth, vl_truth, Said, says}

-- a command, what its reply said, and whether an SC succeeded in it, its "CAS on the header": the header differs after it
pub record Event : Type 0 where
  pub command : Command
  pub said : Said
  pub won : Bool

abbrev pub header_changes : Memory → Memory → Bool
header_changes before after = not (same_header after.bench.header before.bench.header)

-- the memory that one command leaves
abbrev pub next : Memory → Command → Memory
next m c = (command m c.process c.order c.value).1

abbrev pub event_of : Memory → Command → Event
event_of m c =
    let said = says (next m c) (record { 0 = c.process }) (command m c.process c.order c.value).0 in
    record { command = c; said = said; won = header_changes m (next m c) }

-- "each gets the memory that the one before it left"
unfoldable pub events : Memory → List Command → List Event
events m cs = along_all next event_of m cs

-- no call, or an open one: its kind, the numbers of its start and of its last step ("an open call ending at its last
-- step": its start while it has none), its own steps so far, and whether its CAS on the header has succeeded
pub data Slot : Type 0 where
  none : Slot
  running : Kind → ℕ → ℕ → ℕ → Bool → Slot

-- what is known of one process: its open call; the number of the start of its last WLL, whether that WLL has yet to make
-- its first step, and the number of the last first step of a WLL, which reads the header (line 10); and whether its last
-- answered WLL named a process
pub record Known : Type 0 where
  pub slot : Slot
  pub wll : ℕ
  pub unread : Bool
  pub read : ℕ
  pub named : Bool

-- how a call ended: with an answer and the count that the reply brought; or it is open, its CAS on the header done or not
pub data Outcome : Type 0 where
  ended : Answer → ℕ → Outcome
  pending : Bool → Outcome

-- a call: its process, its kind, the numbers of its start and of its last step, its own steps; the numbers of the start
-- and of the first step of its process's last WLL (its own, if it is one), and whether that WLL was answered with a process
pub record Call : Type 0 where
  pub process : ℕ
  pub kind : Kind
  pub start : ℕ
  pub end : ℕ
  pub steps : ℕ
  pub wll : ℕ
  pub read : ℕ
  pub named : Bool
  pub outcome : Outcome

-- an accepted step with no answer, as command number n
abbrev pub stepped : ℕ → Bool → Slot → Slot
stepped n won none = none
stepped n won (running kind start last steps w) = running kind start n (steps + 1) (w || won)

-- the first step of a WLL, where command number n is a step
abbrev pub read_by : ℕ → Known → ℕ
read_by n k = cond k.unread n k.read

-- an accepted command with no answer. "A call runs from its accepted start"
abbrev pub known_accepted : ℕ → Order → List ℕ → Bool → Known → Known
known_accepted n StartLl value won k =
    record { slot = running ll n n 0 false; wll = n; unread = true; read = k.read; named = k.named }
known_accepted n StartSc value won k =
    record { slot = running (sc value) n n 0 false; wll = k.wll; unread = false; read = k.read; named = k.named }
known_accepted n StartVl value won k =
    record { slot = running vl n n 0 false; wll = k.wll; unread = false; read = k.read; named = k.named }
known_accepted n Step value won k =
    record { slot = stepped n won k.slot; wll = k.wll; unread = false; read = read_by n k; named = k.named }

-- after an answer
abbrev pub named_by : Bool → Answer → Bool
named_by b (words w) = false
named_by b (names q) = true
named_by b (sc_truth t) = b
named_by b (vl_truth t) = b

abbrev pub known_after : ℕ → Event → Said → Known → Known
known_after n e (refused c) k = k
known_after n e accepted k = known_accepted n e.command.order e.command.value e.won k
known_after n e (answered a m) k =
    record { slot = none; wll = k.wll; unread = false; read = read_by n k; named = named_by k.named a }

-- of all processes, after the event of command number n
abbrev pub watch : ℕ → Event → (ℕ → Known) → ℕ → Known
watch n e x = set_at e.command.process (known_after n e e.said (x e.command.process)) x

-- the call that an answer ends, as command number n. (An answer where no call is open would be a call that starts where it
-- ends: no moment is after the one and not after the other.)
abbrev pub ended_by : ℕ → ℕ → Answer → ℕ → Known → Slot → Call
ended_by p n a m k none =
    record {
      process = p;
      kind = ll;
      start = n;
      end = n;
      steps = 1;
      wll = n;
      read = n;
      named = false;
      outcome = ended a m;
    }
ended_by p n a m k (running kind start last steps w) =
    record {
      process = p;
      kind = kind;
      start = start;
      end = n;
      steps = steps + 1;
      wll = k.wll;
      read = k.read;
      named = k.named;
      outcome = ended a m;
    }

abbrev pub call_of : ℕ → ℕ → Said → Known → List Call
call_of p n (refused c) k = []
call_of p n accepted k = []
call_of p n (answered a m) k = ended_by p n a m k k.slot ∷ []

-- the open call of process q
abbrev pub open_of : ℕ → Known → Slot → List Call
open_of q k none = []
open_of q k (running kind start last steps w) =
    record {
      process = q;
      kind = kind;
      start = start;
      end = last;
      steps = steps;
      wll = k.wll;
      read = k.read;
      named = k.named;
      outcome = pending w;
    } ∷ []

-- the open calls of the first m processes
abbrev pub open_calls : ℕ → (ℕ → Known) → List Call
open_calls zero x = []
open_calls (suc m) x = open_calls m x ++ open_of m (x m) (x m).slot

-- the answered calls in the order of their answers, then the open ones; n is the number of the first event, N that of the
-- processes
unfoldable pub calls_from : ℕ → ℕ → List Event → (ℕ → Known) → List Call
calls_from N n [] x = open_calls N x
calls_from N n (e ∷ es) x = call_of e.command.process n e.said (x e.command.process) ++ calls_from N (suc n) es (watch n e x)

-- "the list's k-th command (refused ones counted)": numbers begin at 1, with no call open
abbrev pub nothing_known : ℕ → Known
nothing_known p = record { slot = none; wll = 0; unread = false; read = 0; named = false }

abbrev pub calls : ℕ → List Event → List Call
calls N es = calls_from N 1 es nothing_known

-- how many SCs succeed in commands up to number k; n is the number of the first event
abbrev pub successes_from : ℕ → List Event → ℕ → ℕ
successes_from n [] k = 0
successes_from n (e ∷ es) k = cond (e.won && leb n k) 1 0 + successes_from (suc n) es k

abbrev pub successes_up_to : List Event → ℕ → ℕ
successes_up_to es k = successes_from 1 es k

-- process q's SC succeeds in command number k
abbrev pub WonFrom : ℕ → List Event → ℕ → ℕ → Type 0
WonFrom n [] q k = ⊥
WonFrom n (e ∷ es) q k = ((n ≡ k) × ((e.won ≡ true) × (e.command.process ≡ q))) ⊎ WonFrom (suc n) es q k
