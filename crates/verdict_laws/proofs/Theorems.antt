-- The theorems about the judge, each about model's and verdicts' own definitions.
use mathlib.Core.Path.{◌≡◌, sym, subst}
use mathlib.Core.Bool.{Bool, true, false, cond}
use mathlib.Core.List.{List, [], ◌∷◌, map}
use Prim.Native.Nat.{ℕ, zero, suc, ◌*◌, ◌^◌, ◌≤◌, ◌<◌}
use native.Mathlib.Nat.{mul-le-mul_right}
use native.Mathlib.Omega.{arith}
use lib.ListN.{length, replicate}
use Rattle.model.specs.Machine.{Memory, Shaped}
use Rattle.model.specs.SetUp.{set_up}
use Rattle.llsc.specs.Answers.{Answer, ll_words, sc_truth, vl_truth}
use Rattle.llsc.specs.Object.{Kind, ll, sc, vl}
use Rattle.llsc.specs.History.{Command, Call, calls}
use Rattle.model.specs.History.{events}
use Rattle.llsc.specs.Linearizable.{All, Timed, Inside, Linearization}
use Rattle.linearization.proofs.Outcome.{to_f}
use Rattle.linearization.proofs.WordLists.{cells}
use Rattle.linearization.proofs.SetUpSimulation.{set_up_admits}
use Rattle.linearization.proofs.PromiseThree
use Rattle.linearization.proofs.Theorems.{promise_3}
use Rattle.laws.proofs.AllLaws.{all_of, all_both, all_join, map_all}
use Rattle.verdict_laws.specs.BenchLogs.{kind_number, truth_for, words_for, entry_for, numbers_of, log_for}
use Rattle.verdict_laws.specs.CallFacts.{InTurn, Led, WellFormed, Loggable}
use Rattle.verdict_laws.specs.Promises.{Fits, most_commands, places, EveryHistoryEarnsYes, LinearizedEarnsYes, YesIsRight}
use Rattle.verdict_laws.proofs.Turns.{in_turn, end_by}
use Rattle.verdict_laws.proofs.Offers.{OfKind, OfAnswer, offers, answered_words_lem}
use Rattle.verdict_laws.proofs.BenchCalls.{set_up_formed, set_up_led}
use Rattle.verdict_laws.proofs.Yes
use Rattle.verdict_laws.proofs.Sound

-- the numbers of an entry fit
zeros_fit : (w : ℕ) → Fits (replicate w 0)
zeros_fit zero = tt
zeros_fit (suc w) = (omega arith, zeros_fit w)

kind_fits : (k : Kind) → kind_number k < 2 ^ 64
kind_fits ll = omega arith
kind_fits (sc v) = omega arith
kind_fits vl = omega arith

bit_fits : (b : Bool) → cond b 1 0 < 2 ^ 64
bit_fits true = omega arith
bit_fits false = omega arith

truth_fits : (a : Answer) → truth_for a < 2 ^ 64
truth_fits (ll_words v) = omega arith
truth_fits (sc_truth t) = bit_fits t
truth_fits (vl_truth t) = bit_fits t

words_fit : (w : ℕ) (k : Kind) (a : Answer) → OfKind Fits k → OfAnswer Fits a → Fits (words_for w k a)
words_fit w ll (ll_words v) x y = y
words_fit w ll (sc_truth t) x y = zeros_fit w
words_fit w ll (vl_truth t) x y = zeros_fit w
words_fit w (sc v) a x y = x
words_fit w vl a x y = zeros_fit w

record Small (n : ℕ) (t : Timed) : Type 0 where
  process : t.call.process < n
  inside : Inside places t
  end : t.call.end ≤ most_commands
  kind : OfKind Fits t.call.kind
  answer : OfAnswer Fits t.call.answer

log_fits : (n w : ℕ) → n ≤ 16 → (ts : List Timed) → All (Small n) ts → Fits (log_for w places ts)
log_fits n w hn [] a = tt
log_fits n w hn (t ∷ ts) a =
    let s = a.0 in let p = s.process in let x = s.inside.after_start in let y = s.inside.by_answer in
    let z : t.call.end * places ≤ most_commands * places = mul-le-mul_right places s.end in
    let words = words_fit w t.call.kind t.call.answer s.kind s.answer in
    all_join (λ k. k < 2 ^ 64) (numbers_of (entry_for w places t)) (log_for w places ts)
    (omega arith, (kind_fits t.call.kind, (omega arith, (omega arith, (truth_fits t.call.answer, (omega arith, words)))))) (log_fits n w hn ts a.1)

-- a bench history, after an accepted set-up
module _ (m : Memory) (shaped : Shaped m) (n w : ℕ) (value : List ℕ) (cs : List Command) (e : (set_up m n w value).0 ≡ 0) where
  abbrev at : Memory
  at = (set_up m n w value).1

  abbrev answered : List Call
  answered = calls (events at cs)

  -- Calls of one process do not overlap, and each SC or VL has an earlier answered LL of its process.
  pub loggable : Loggable n w answered
  loggable =
      let is = PromiseThree.same_calls m shaped n w value cs e in let turns = in_turn (events at cs) in
      record {
        formed = subst (All (WellFormed n w)) (sym is) (set_up_formed n w (cells value) (map (to_f n w) cs));
        in_turn = turns;
        led = subst Led (sym is) (set_up_led n w (cells value) (map (to_f n w) cs) (subst InTurn is turns));
      }

  -- what holds of the calls holds of the timed calls of a linearization
  of_timed : (P : Call → Type 0) (l : Linearization places value answered) → All P answered → All (λ (t : Timed). P t.call) l.timed
  of_timed P l a = map_all (λ (t : Timed). t.call) P l.timed (subst (All P) (sym l.same_calls) a)

  fits : length cs ≤ most_commands → n ≤ 16 → (l : Linearization places value answered) → Fits value → All (λ (c : Command). Fits c.value) cs → Fits (log_for w places l.timed)
  fits hc hn l fv fc =
      let formed = of_timed (WellFormed n w) l loggable.formed in let ends = of_timed (λ c. c.end ≤ length cs) l (end_by at cs) in
      let words = answered_words_lem Fits places value answered l fv (offers Fits cs at fc) in
      log_fits n w hn l.timed
      (all_of _ (Small n) (λ t z. record { process = z.0.process; inside = z.1.0; end = let y = z.1.1.0 in omega arith; kind = z.1.1.1.0; answer = z.1.1.1.1 }) l.timed
      (all_both _ _ l.timed formed (all_both _ _ l.timed l.inside (all_both _ _ l.timed ends words))))

-- EVERY BENCH HISTORY, within the request's bounds, HAS MOMENTS THAT EARN A YES.
pub every_history_earns_yes : EveryHistoryEarnsYes
every_history_earns_yes m shaped n w value cs e hc hl =
    let admits = set_up_admits m n w value e in let sizes = admits.sizes in let facts = loggable m shaped n w value cs e in
    let l = (promise_3 m shaped n w value cs e).linearization places (omega arith) in
    record {
      timed = l.timed;
      same_calls = l.same_calls;
      yes = Yes.linearized_earns_yes places n w value _ (omega arith) (sizes.n_low, sizes.n_high) (sizes.w_low, sizes.w_high) admits.value_length hl facts l;
      fits = fits m shaped n w value cs e hc sizes.n_high l;
    }

-- So has any list of calls that a linearization places: the yes-lemma.
pub linearized_earns_yes : LinearizedEarnsYes
linearized_earns_yes = Yes.linearized_earns_yes

-- A YES IS NEVER GIVEN WRONGLY.
pub yes_is_right : YesIsRight
yes_is_right = Sound.yes_is_right
