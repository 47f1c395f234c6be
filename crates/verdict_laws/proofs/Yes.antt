-- THE YES-LEMMA: answered calls that have a linearization, of which those of one process do not overlap and each SC or
-- VL has an earlier LL, have a log that earns a yes.
use mathlib.Core.Path.{◌≡◌, refl, sym, ap, ap₂, subst, ◌∙◌}
use mathlib.Core.Bool.{Bool, true, false, not, ◌||◌, cond}
use mathlib.Core.List.{List, [], ◌∷◌, map}
use Prim.Native.Nat.{ℕ, ◌*◌, ◌≤◌, ◌<◌}
use native.Mathlib.Nat.{mul-lt-mul_of_pos_right}
use native.Mathlib.Omega.{arith}
use lib.Dec.{eqb, ltb, leb}
use lib.ListN.{length, length-map}
use borrow.Author.Tests.{eq-eqb, ne_eqb, lt-ltb, le-ltb, le-leb, lt-leb}
use Rattle.llsc.specs.Answers.{Answer, ll_words, sc_truth, vl_truth}
use Rattle.llsc.specs.Object.{Kind, ll, sc, vl, fresh, serve}
use Rattle.llsc.specs.History.{Call}
use Rattle.llsc.specs.Linearizable.{All, Timed, Distinct, Inside, in_moment_order, fed}
use Rattle.llsc.specs.Rows.{Row, first, every, some, between}
use Rattle.laws.proofs.Updates.{Split, same, other, split, contra}
use Rattle.laws.proofs.AllLaws.{and_both, or_left, or_right, all_of, all_both, all_map, map_all, all_every, all_none, map_map}
use Rattle.laws.specs.Lists.{Pairs, Any}
use Rattle.laws.proofs.AllLaws.{map_pairs, pairs_map, pairs_of, any_of, any_map, map_any, any_some, all_any}
use Rattle.verdicts.specs.declared.Verdict.TheVariants.{Yes, No}
use Rattle.verdicts.specs.Log.{Entry, entries}
use Rattle.verdicts.specs.Verdicts.{timed_of, each_two, kind_known, apart, differ, inside, truth_told, served_alike, in_order, answers_of, leads, ll_before}
use Rattle.verdicts.specs.Verdicts.{conditions, earns_yes, log_rows, log_refusal}
use Rattle.verdicts.proofs.VerdictLaws.{judged_earns}
use Rattle.verdict_laws.specs.BenchLogs.{kind_number, truth_for, words_for, entry_for, log_for}
use Rattle.verdict_laws.specs.CallFacts.{Formed, WellFormed, Follows, needs_ll, Leads, Led}
use Rattle.verdict_laws.specs.Promises.{LinearizedEarnsYes}
use Rattle.verdict_laws.proofs.Offers.{sorted_all}
use Rattle.verdict_laws.proofs.Rows.{Wide, words_wide, log_whole, log_entries, log_begun}
use Rattle.verdict_laws.proofs.Answers.{answers_equal, order_map}

abbrev to_call : Timed → Call
to_call t = t.call

-- an entry tells the call that it was written for
kind_back : (w : ℕ) (k : Kind) (a : Answer) → cond (eqb (kind_number k) 1) ll (cond (eqb (kind_number k) 2) (sc (words_for w k a)) vl) ≡ k
kind_back w ll a = refl
kind_back w (sc o) a = refl
kind_back w vl a = refl

abbrev answer_back : ℕ → Kind → Answer → Answer
answer_back w k a = cond (eqb (kind_number k) 1) (ll_words (words_for w k a)) (cond (eqb (kind_number k) 2) (sc_truth (eqb (truth_for a) 1)) (vl_truth (eqb (truth_for a) 1)))

answer_back_lem : (w : ℕ) (k : Kind) (a : Answer) → Formed w k a → (answer_back w k a ≡ a) × ((eqb (kind_number k) 1 || leb (truth_for a) 1) ≡ true)
answer_back_lem w ll (ll_words v) f = (refl, refl)
answer_back_lem w ll (sc_truth t) f = absurd f
answer_back_lem w ll (vl_truth t) f = absurd f
answer_back_lem w (sc o) (ll_words v) f = absurd f
answer_back_lem w (sc o) (sc_truth true) f = (refl, refl)
answer_back_lem w (sc o) (sc_truth false) f = (refl, refl)
answer_back_lem w (sc o) (vl_truth t) f = absurd f
answer_back_lem w vl (ll_words v) f = absurd f
answer_back_lem w vl (sc_truth t) f = absurd f
answer_back_lem w vl (vl_truth true) f = (refl, refl)
answer_back_lem w vl (vl_truth false) f = (refl, refl)

known : (k : Kind) → between 1 3 (kind_number k) ≡ true
known ll = refl
known (sc o) = refl
known vl = refl

is_one : (k : Kind) → needs_ll k ≡ false → eqb (kind_number k) 1 ≡ true
is_one ll e = refl
is_one (sc o) e = absurd (contra refl e)
is_one vl e = absurd (contra refl e)

each_two_lem : (r : Entry → Entry → Bool) (es : List Entry) → Pairs (λ e f. r e f ≡ true) es → each_two r es ≡ true
each_two_lem r [] p = refl
each_two_lem r (e ∷ es) p = and_both (all_every (r e) es p.0) (each_two_lem r es p.1)

distinct_pairs : (ms : List ℕ) → Distinct ms → Pairs (λ m k. m ≡ k → ⊥) ms
distinct_pairs [] d = tt
distinct_pairs (m ∷ ms) d = (d.0, distinct_pairs ms d.1)

first_none : (rs : List Row) → All (λ r. r.holds ≡ false) rs → first rs ≡ 0
first_none [] a = refl
first_none (r ∷ rs) a = ap (λ b. cond b r.number (first rs)) a.0 ∙ first_none rs a.1

module _ (places : ℕ) (pos : 0 < places) (n w : ℕ) (value : List ℕ) (ts : List Timed) (formed : All (λ t. WellFormed n w (to_call t)) ts) (within : All (Inside places) ts) where
  abbrev entry : Timed → Entry
  entry t = entry_for w places t

  abbrev es : List Entry
  es = map entry ts

  abbrev log : List ℕ
  log = log_for w places ts

  wide : All (Wide w places) ts
  wide = all_of _ (Wide w places) (λ t f. words_wide w t.call.kind t.call.answer f.formed) ts formed

  -- a test of each entry, from what holds of each call; and of each two
  on_each : (f : Entry → Bool) (P : Timed → Type 0) → ((t : Timed) → P t → f (entry t) ≡ true) → All P ts → every f es ≡ true
  on_each f P g a = all_every f es (all_map entry (λ e. f e ≡ true) ts (all_of P (λ t. f (entry t) ≡ true) g ts a))

  on_no : (f : Entry → Bool) (P : Timed → Type 0) → ((t : Timed) → P t → f (entry t) ≡ false) → All P ts → some f es ≡ false
  on_no f P g a = all_none f es (all_map entry (λ e. f e ≡ false) ts (all_of P (λ t. f (entry t) ≡ false) g ts a))

  on_two : (r : Entry → Entry → Bool) (R : Timed → Timed → Type 0) → ((t u : Timed) → R t u → r (entry t) (entry u) ≡ true) → Pairs R ts → each_two r es ≡ true
  on_two r R g p = each_two_lem r es (pairs_map entry (λ e f. r e f ≡ true) ts (pairs_of R (λ t u. r (entry t) (entry u) ≡ true) g ts p))

  turns : Pairs (λ t u. Follows (to_call t) (to_call u)) ts → each_two apart es ≡ true
  turns p = on_two apart _ one p
    where
      one : (t u : Timed) → Follows (to_call t) (to_call u) → apart (entry t) (entry u) ≡ true
      one t u f = go (split t.call.process u.call.process)
        where
          go : Split t.call.process u.call.process → apart (entry t) (entry u) ≡ true
          go (same e) = or_right (not (eqb t.call.process u.call.process)) (or_left _ (lt-ltb _ _ (mul-lt-mul_of_pos_right (f e) pos)))
          go (other ne) = or_left _ (ap not (ne_eqb _ _ ne))

  moments : Distinct (map (λ (t : Timed). t.moment) ts) → each_two differ es ≡ true
  moments d =
      on_two differ (λ t u. t.moment ≡ u.moment → ⊥) (λ t u ne. ap not (ne_eqb _ _ ne))
      (map_pairs (λ (t : Timed). t.moment) (λ m k. m ≡ k → ⊥) ts (distinct_pairs (map (λ (t : Timed). t.moment) ts) d))

  -- the entry's call in the place of the call: served alike
  abbrev back : Timed → Timed
  back t = timed_of (entry t)

  order : in_order es ≡ map back (in_moment_order ts)
  order = ap in_moment_order (map_map timed_of entry ts) ∙ order_map back (λ t. refl) ts

  fed_back : (us : List Timed) → map fed (map back us) ≡ map fed us
  fed_back [] = refl
  fed_back (u ∷ us) = ap₂ ◌∷◌ (ap (λ k. record { process = u.call.process; kind = k }) (kind_back w u.call.kind u.call.answer)) (fed_back us)

  answers_back : (us : List Timed) → All (λ t. WellFormed n w (to_call t)) us → answers_of (map back us) ≡ answers_of us
  answers_back [] a = refl
  answers_back (u ∷ us) a = ap₂ ◌∷◌ (answer_back_lem w u.call.kind u.call.answer a.0.formed).0 (answers_back us a.1)

  alike : serve (fresh value) (map fed (in_moment_order ts)) ≡ answers_of (in_moment_order ts) → served_alike value es ≡ true
  alike s =
      let sorted = in_moment_order ts in
      let fed_so = ap (λ us. serve (fresh value) (map fed us)) order ∙ ap (serve (fresh value)) (fed_back sorted) in
      let answered = ap answers_of order ∙ answers_back sorted (sorted_all _ ts [] formed tt) in
      and_both (on_each truth_told _ (λ t f. (answer_back_lem w t.call.kind t.call.answer f.formed).1) formed) (answers_equal _ _ (fed_so ∙ s ∙ sym answered))

  -- each SC or VL has its LL
  abbrev HasLl : Timed → Type 0
  HasLl t = needs_ll t.call.kind ≡ true → Any (λ u. Leads (to_call t) (to_call u)) ts

  earlier : All HasLl ts → every (ll_before es) es ≡ true
  earlier b = on_each (ll_before es) (λ t. Inside places t × HasLl t) (λ t z. go t z.0 z.1 (needs_ll t.call.kind) refl) (all_both (Inside places) HasLl ts within b)
    where
      found : (t : Timed) → Inside places t → (u : Timed) → Inside places u × Leads (to_call t) (to_call u) → leads (entry t) (entry u) ≡ true
      found t i u z =
          let x : u.call.end * places < t.call.start * places = mul-lt-mul_of_pos_right z.1.answered pos in let y = z.0.by_answer in let v = i.after_start in
          and_both (eq-eqb _ _ z.1.process) (and_both (is_one u.call.kind z.1.is_ll_is) (lt-ltb u.moment t.moment (omega arith)))

      go : (t : Timed) → Inside places t → HasLl t → (b : Bool) → needs_ll t.call.kind ≡ b → ll_before es (entry t) ≡ true
      go t i f true e =
          let both = all_any (Inside places) (λ u. Leads (to_call t) (to_call u)) within (f e) in
          or_right (eqb (kind_number t.call.kind) 1) (any_some (leads (entry t)) (any_map entry (λ f. leads (entry t) f ≡ true) (any_of _ _ (found t i) both)))
      go t i f false e = or_left _ (is_one t.call.kind e)

  forward : (t : Timed) → Inside places t → leb (t.call.end * places) (t.call.start * places) ≡ false
  forward t i = lt-leb (t.call.end * places) (t.call.start * places) (let x = i.after_start in let y = i.by_answer in omega arith)

  refuses_not : (1 ≤ n) × (n ≤ 16) → (1 ≤ w) × (w ≤ 64) → length value ≡ w → length ts ≤ 512 → log_refusal n w value log ≡ 0
  unfolding log_refusal
  refuses_not hn hw hv hl =
      let is = log_entries w places ts wide in
      let not_4 = ap (some (λ (e : Entry). leb n e.process)) (log_begun w places ts wide) ∙ on_no _ _ (λ t f. lt-leb _ _ f.process) formed in
      let not_8 = ap₂ (λ a b. not a || not b) (eq-eqb _ _ hv) (eq-eqb _ 0 (log_whole w places ts wide)) in
      let not_16 = ap (λ es. ltb 512 (length es)) is ∙ le-ltb 512 (length es) (let z = length-map ts entry in omega arith) in
      let not_17 = ap (some (λ (e : Entry). leb e.answer e.start)) is ∙ on_no _ (Inside places) forward within in
      let not_1 = ap not (and_both (le-leb _ _ hn.0) (le-leb _ _ hn.1)) in
      let not_2 = ap not (and_both (le-leb _ _ hw.0) (le-leb _ _ hw.1)) in
      first_none (log_rows n w value log) (not_1, (not_2, (not_4, (not_8, (not_16, (not_17, tt))))))

  earns : Pairs (λ t u. Follows (to_call t) (to_call u)) ts → Distinct (map (λ (t : Timed). t.moment) ts)
      → serve (fresh value) (map fed (in_moment_order ts)) ≡ answers_of (in_moment_order ts) → All HasLl ts → earns_yes value es ≡ true
  unfolding earns_yes
  earns p d s b =
      let kinds = on_each kind_known _ (λ t f. known t.call.kind) formed in
      let inside_all = on_each inside (Inside places) (λ t i. and_both (lt-ltb _ _ i.after_start) (le-leb _ _ i.by_answer)) within in
      all_every (λ b. b) (conditions value es) (kinds, (turns p, (moments d, (inside_all, (alike s, (earlier b, tt))))))

-- from the calls to the timed calls
led_back : (ts : List Timed) → Led (map to_call ts) → All (λ t. needs_ll t.call.kind ≡ true → Any (λ u. Leads (to_call t) (to_call u)) ts) ts
led_back ts a =
    all_of (λ t. needs_ll t.call.kind ≡ true → Any (Leads (to_call t)) (map to_call ts)) _ (λ t g z. map_any to_call (Leads (to_call t)) ts (g z)) ts
    (map_all to_call (λ c. needs_ll c.kind ≡ true → Any (Leads c) (map to_call ts)) ts a)

pub linearized_earns_yes : LinearizedEarnsYes
linearized_earns_yes places n w value cs pos hn hw hv hl facts l =
    let ts = l.timed in let log = log_for w places ts in
    let f : All (λ t. WellFormed n w (to_call t)) ts = map_all to_call (WellFormed n w) ts (subst (All (WellFormed n w)) (sym l.same_calls) facts.formed) in
    let p : Pairs (λ t u. Follows (to_call t) (to_call u)) ts = map_pairs to_call Follows ts (subst (Pairs Follows) (sym l.same_calls) facts.in_turn) in
    let b = led_back ts (subst Led (sym l.same_calls) facts.led) in
    let len : length ts ≤ 512 = let x = length-map ts to_call in let y = ap length l.same_calls in omega arith in
    let no_refusal = refuses_not places pos n w value ts f l.inside hn hw hv len in
    let is = log_entries w places ts (wide places pos n w value ts f l.inside) in
    let y : earns_yes value (entries w log) ≡ true = ap (earns_yes value) is ∙ earns places pos n w value ts f l.inside p l.distinct l.served b in
    judged_earns n w value log no_refusal ∙ ap (λ b. cond b Yes No) y
