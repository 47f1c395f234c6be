-- The definitions of `specs/Changes` and `specs/WordsStay` on runs, computed: a failed SC changes nothing, and after 2N
-- changes of X the words of a success, or the set-up value, are written over. So 2N is the most that can be promised.
use mathlib.Core.Path.{◌≡◌, refl}
use Prim.Native.Nat.{ℕ, ◌+◌}
use mathlib.Core.List.{List, [], ◌∷◌, ◌++◌}
use lib.Dec.{lit<}
use native.Mathlib.Omega.{arith}
use Rattle.llsc.specs.declared.Order.TheVariants.{Step}
use Rattle.model.specs.Machine.{Memory, Shaped, step_at, obey}
use Rattle.model.specs.Refusals.{in_range}
use Rattle.model.specs.Command.{command, refusal}
use Rattle.model.specs.SetUp.{set_up, set_up_refusal}
use Rattle.llsc.specs.History.{Command, calls_from, calls, slots_from}
use Rattle.model.specs.History.{events}
use Rattle.model.proofs.Schedules.{l, s, steps, dirty}
use Rattle.after_commands.specs.After.{after}
use Rattle.after_commands.specs.Changes.{changes, successes}
use Rattle.after_commands.specs.WordsStay.{buffer_words, Writes, lasting, SetUpValueStays, WrittenWordsStay}

-- a set-up for N = n, W = 1 and the initial value 5
abbrev begun : ℕ → Memory
begun n = (set_up dirty n 1 (5 ∷ [])).1

-- Process 0 alone: an LL; an SC of k up to its last step, for the first success and for a later one; a success.
abbrev alone_ll : List Command
alone_ll = l 0 ++ steps 10 0

abbrev step : Command
step = record { process = 0; order = Step; value = [] }

abbrev before_first : List Command
before_first = alone_ll ++ s 1 0 7 ++ steps 5 0

abbrev first_success : List Command
first_success = before_first ++ step ∷ []

abbrev again : ℕ → List Command
again k = alone_ll ++ s 1 0 k ++ steps 8 0

-- an SC of k, up to the end of its line 17
abbrev writes_over : ℕ → List Command
writes_over k = alone_ll ++ s 1 0 k ++ steps 6 0

-- One success and an SC that fails: X changes once, and one SC succeeds.
abbrev then_fails : List Command
then_fails = first_success ++ s 1 0 8 ++ steps 6 0

pub changed_once : changes (begun 1) then_fails ≡ 1
unfolding command refusal in_range step_at obey set_up set_up_refusal after changes
changed_once = refl

pub succeeded_once : successes (calls (events (begun 1) then_fails)) ≡ 1
unfolding command refusal in_range step_at obey set_up set_up_refusal events calls_from
succeeded_once = refl

-- The set-up value, N = 1: two successes and a third SC up to its line 17. X has changed 2N times, and buffer 0, which X
-- named at the set-up, is written anew.
abbrev third_writes : List Command
third_writes = first_success ++ again 8 ++ writes_over 9

changed_twice : changes (begun 1) third_writes ≡ 2
unfolding command refusal in_range step_at obey set_up set_up_refusal changes
changed_twice = refl

pub value_for_2n_changes : changes (begun 1) third_writes ≡ lasting 1
value_for_2n_changes = changed_twice

pub value_written_over : buffer_words (after (begun 1) third_writes) (begun 1).bench.x.content.buf ≡ 9 ∷ []
unfolding command refusal in_range step_at obey set_up set_up_refusal after
value_written_over = refl

-- The words of a success, N = 2: the first success writes 7, four more follow, and a sixth SC up to its line 17. X has
-- changed 2N times since the first, and its words are written over.
abbrev written : Memory
written = after (begun 2) first_success

abbrev sixth_writes : List Command
sixth_writes = again 8 ++ again 9 ++ again 10 ++ again 11 ++ writes_over 12

first_writes : Writes (begun 2) before_first step (7 ∷ [])
unfolding command refusal in_range step_at obey set_up set_up_refusal after events slots_from
first_writes = record { start = 12; steps = 5; count = 6; running_sc = refl; ends = refl }

changed_four_times : changes written sixth_writes ≡ 4
unfolding command refusal in_range step_at obey set_up set_up_refusal after changes
changed_four_times = refl

pub words_for_2n_changes : changes written sixth_writes ≡ lasting 2
words_for_2n_changes = changed_four_times

pub words_written_over : buffer_words (after written sixth_writes) written.bench.x.content.buf ≡ 12 ∷ []
unfolding command refusal in_range step_at obey set_up set_up_refusal after
words_written_over = refl

shaped : Shaped dirty
shaped = record { bank = refl; help = refl }

-- so neither stays for one change more
pub value_no_longer : SetUpValueStays (λ n. lasting n + 1) → ⊥
unfolding command refusal in_range step_at obey set_up set_up_refusal after changes
value_no_longer stay =
    let same : ◌≡◌ {A = List ℕ} (9 ∷ []) (5 ∷ []) = stay dirty shaped 1 1 (5 ∷ []) refl third_writes (lit< tt) in
    let z : ◌≡◌ {A = ℕ} 9 5 = cc in
    omega arith

pub words_no_longer : WrittenWordsStay (λ n. lasting n + 1) → ⊥
unfolding command refusal in_range step_at obey set_up set_up_refusal after changes
words_no_longer stay =
    let same : ◌≡◌ {A = List ℕ} (12 ∷ []) (7 ∷ []) = stay dirty shaped 2 1 (5 ∷ []) refl before_first step (7 ∷ []) first_writes sixth_writes (lit< tt) in
    let z : ◌≡◌ {A = ℕ} 12 7 = cc in
    omega arith
