-- The words of a success, and the set-up value, stay in their buffer until X has changed 2N more times.
use mathlib.Core.Path.{◌≡◌, sym, ap, ap₂, ◌∙◌}
use mathlib.Core.Bool.{true}
use mathlib.Core.List.{List, [], ◌∷◌, ◌++◌, map}
use Prim.Native.Nat.{ℕ, suc, ◌+◌, ◌*◌, ◌≤◌, ◌<◌}
use native.Mathlib.Nat.{mul-le-mul_right}
use native.Mathlib.Omega.{arith}
use lib.ListN.{get_or}
use Rattle.model.specs.Sizes.{halves}
use Rattle.model.specs.Words.{word_of, half}
use Rattle.model.specs.Machine.{Memory, Shaped}
use Rattle.model.specs.SetUp.{set_up}
use Rattle.llsc.specs.Answers.{answered, sc_truth}
use Rattle.llsc.specs.Object.{sc}
use Rattle.llsc.specs.History.{Command, Slot, running, call_of, calls_from, calls, slots_after, slots_from}
use Rattle.model.specs.History.{event_of, events}
use Rattle.model.specs.History.{next}
use Rattle.after_commands.specs.After.{after}
use Rattle.after_commands.specs.Changes.{changes}
use Rattle.after_commands.specs.WordsStay.{buffer_words, lasting, SetUpValueStays, WrittenWordsStay, WordsStay}
use Rattle.linearization.proofs.GhostMachine.{State}
use Rattle.linearization.proofs.WordLists.{words_of, words_of_ext, cells}
use Rattle.linearization.proofs.GhostRuns.{setup}
use Rattle.linearization.proofs.InvariantRuns.{execs, number_after}
use Rattle.linearization.proofs.Retention.{execs_grow, success_kept}
use Rattle.linearization.proofs.Successes.{last_written, last_written_append, all_wrote}
use Rattle.linearization.proofs.ListFacts.{cut_words, words_whole}
use Rattle.linearization.proofs.Relation.{Related}
use Rattle.linearization.proofs.SetUpSimulation.{set_up_admits, set_up_halves}
use Rattle.linearization.proofs.Outcome.{to_f}
use Rattle.linearization.proofs.CommandRuns.{holds_along, holds_after_all}
use Rattle.linearization.proofs.PromiseThree.{same_calls}
use Rattle.linearization.proofs.XChanges.{changes_along}

-- the words of a buffer, in related memory
words_same : (N W : ℕ) (m : Memory) (z : State) → Related N W m z → (b : ℕ) → b < 3 * N → buffer_words m (record { 0 = b }) ≡ words_of (halves W) (z.sh.buf b)
words_same N W m z r b hb =
    let y : suc b * W ≤ 5 * N * W = mul-le-mul_right W (omega arith) in let l = r.places.words.len in
    rw r.w (cut_words W (b * W + 0) m.words (omega arith)
    ∙ words_of_ext (halves W) _ _ (λ k hk.
    ap (λ i. half k (get_or m.words i 0)) (let e : b * W + 0 + word_of k ≡ b * W + word_of k = omega arith in e) ∙ r.places.words.buf b k hb hk))

-- an SC with these words that ends with the answer true is the last success of its history
last_success : (cs : List Command) (c : Command) (k : ℕ) (m : Memory) (sl : ℕ → Slot) (before offered : List ℕ) (start steps count : ℕ)
    → slots_from k (events m cs) sl c.process ≡ running (sc offered) start steps → (event_of (after m cs) c).said ≡ answered (sc_truth true) count
    → last_written before (calls_from k (events m (cs ++ c ∷ [])) sl) ≡ offered
unfolding events calls_from slots_from after
last_success [] c k m sl before offered start steps count e f = ap₂ (λ s t. last_written before (call_of k c t s ++ [])) e f
last_success (d ∷ cs) c k m sl before offered start steps count e f =
    last_written_append before (call_of k d (event_of m d).said (sl d.process)) (calls_from (k + 1) (events (next m d) (cs ++ c ∷ [])) (slots_after k (event_of m d) sl))
    ∙ last_success cs c (k + 1) (next m d) (slots_after k (event_of m d) sl) _ offered start steps count e f

module _ (m : Memory) (shaped : Shaped m) (n w : ℕ) (value : List ℕ) (e : (set_up m n w value).0 ≡ 0) where
  h_w : 0 < halves w
  h_w = set_up_halves m n w value e

  abbrev m₀ : Memory
  m₀ = (set_up m n w value).1

  abbrev state : List Command → State
  state cs = execs n (halves w) 1 (map (to_f n w) cs) (setup n (halves w) (cells value))

  -- the history tells the machine's present value
  value_is : (cs : List Command) → last_written value (calls (events m₀ cs)) ≡ words_of (halves w) ((state cs).sh.values (state cs).sh.successes)
  value_is cs =
      ap₂ last_written (sym (words_whole w value (set_up_admits m n w value e).value_length)) (same_calls m shaped n w value cs e)
      ∙ (all_wrote n (halves w) 1 (map (to_f n w) cs) (setup n (halves w) (cells value))).words

  -- after the commands `cs` X names a buffer with the words of the last success, and it has them while fewer than 2N
  -- changes follow
  stays : (cs more : List Command) → changes (after m₀ cs) more < 2 * n
      → buffer_words (after (after m₀ cs) more) (after m₀ cs).bench.x.content.buf ≡ last_written value (calls (events m₀ cs))
  stays cs more few =
      let s : State = state cs in let k : ℕ = number_after 1 (map (to_f n w) cs) in let t : State = execs n (halves w) k (map (to_f n w) more) s in
      let a = holds_along m shaped n w value e h_w cs in let b = holds_after_all n w h_w more k _ s a in
      let changed = changes_along n w h_w more k _ s a in
      ap (λ i. buffer_words (after (after m₀ cs) more) (record { 0 = i })) a.related.places.x.buf
      ∙ words_same n w _ t b.related s.sh.xbuf a.range.all.xbuf
      ∙ words_of_ext (halves w) _ _ (λ j hj. ap (λ i. t.sh.buf i j) a.inv.all.x_buf
      ∙ success_kept n (halves w) _ s t b.inv (execs_grow n (halves w) k (map (to_f n w) more) s) s.sh.successes (omega arith) (omega arith) j hj)
      ∙ sym (value_is cs)

set_up_value_stays : SetUpValueStays lasting
unfolding after events calls_from
set_up_value_stays m shaped n w value e more few = stays m shaped n w value e [] more (omega arith)

written_words_stay : WrittenWordsStay lasting
written_words_stay m shaped n w value e cs c offered x more few =
    stays m shaped n w value e (cs ++ c ∷ []) more (omega arith)
    ∙ last_success cs c 1 (set_up m n w value).1 _ value offered x.start x.steps x.count x.running_sc x.ends

pub words_stay : WordsStay
words_stay = record { of_set_up = set_up_value_stays; of_writes = written_words_stay }
