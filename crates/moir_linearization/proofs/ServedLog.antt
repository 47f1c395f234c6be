-- The log of the calls that are fed, kept in the order of the commands at which they take effect: what holds of it, and how it grows.
use mathlib.Core.Path.{◌≡◌, refl, sym, ap, subst, ◌∙◌}
use mathlib.Core.Bool.{true, false}
use mathlib.Core.List.{List, [], ◌∷◌, ◌++◌}
use Prim.Native.Nat.{ℕ, suc, ◌+◌, ◌≤◌, ◌<◌}
use native.Mathlib.Decide.{dec_lt}
use native.Mathlib.Omega.{arith}
use borrow.Author.Tests.{ne_eqb}
use Rattle.llsc.specs.Answers.{ll_words}
use Rattle.llsc.specs.Object.{ll, Object, fresh}
use Rattle.llsc.specs.Linearizable.{All, Timed, insert}
use Rattle.laws.proofs.Claimed.{On}
use Rattle.laws.proofs.Parts.{tab}
use Rattle.serving.proofs.Serving.{tells, feeds, after, Served, Free, successes, after_append, served_append, successes_append}
use Rattle.serving.proofs.Sorting.{Sorted, sorted_insert, all_map, all_insert, upto, past, upto_past, insert_end, upto_all, upto_before, free_past}
use Rattle.serving.proofs.Insertion.{Inserted, insert_ll}
use Rattle.moir_model.specs.Points.{Point}
use Rattle.moir_linearization.proofs.GhostMachine.{Local, Shared}
use Rattle.moir_linearization.proofs.PointRanges.{lines}

-- process p's calls in the log are not past m
abbrev pub Mine : ℕ → ℕ → Timed → Type 0
Mine p m t = t.call.process ≡ p → t.moment ≤ m

module _ (W : ℕ) (v0 : List ℕ) (log : List Timed) where
  -- the log before command n
  pub record LogAll (n : ℕ) (h : Shared) : Type 0 where
    pub sorted : Sorted log
    pub served : Served (fresh v0) log
    -- the object ends with the words of the last success, after as many successes
    pub words : (after (fresh v0) log).words ≡ tab W h.value
    pub count : successes (fresh v0) log ≡ h.successes
    -- the last success stands at wonAt
    pub lag : (m : ℕ) → m < h.won_at → successes (fresh v0) (upto m log) < h.successes
    pub low : All (λ t. t.moment < n) log

  -- P1: outside a WLL, the object's link of q says that q has an answered WLL and read the present version
  pub record LogEach (n : ℕ) (y : Point) (h : Shared) (q : ℕ) (l : Local) : Type 0 where
    pub linked_current : On (lines 5 15 y) ((after (fresh v0) log).link q ≡ true → l.read_version ≡ h.successes)
    pub current_linked : On (lines 5 15 y) (l.mark ≡ true → l.read_version ≡ h.successes → (after (fresh v0) log).link q ≡ true)
    -- in a WLL, q's calls are past
    pub calls_past : On (lines 0 5 y) (All (Mine q l.start) log)

  pub log_later : (n : ℕ) (h : Shared) → LogAll n h → LogAll (suc n) h
  log_later n h g =
      let z : All (λ t. t.moment < suc n) log = all_map (λ t. t.moment < n) (λ t. t.moment < suc n) (λ t x. omega arith) log g.low in
      record { sorted = g.sorted; served = g.served; words = g.words; count = g.count; lag = g.lag; low = z }

-- another process's calls, with a call of p in the log
pub mine_other : (W : ℕ) (p q m : ℕ) (t : Timed) (log : List Timed) → t.call.process ≡ p → (q ≡ p → ⊥) → All (Mine q m) log → All (Mine q m) (insert t log)
mine_other W p q m t log of_p ne a = all_insert (Mine q m) t log (λ e. absurd (ne (sym e ∙ of_p))) a

module _ (W : ℕ) (v0 : List ℕ) (log : List Timed) (n : ℕ) (h : Shared) (g : LogAll W v0 log n h) where
  abbrev o : Object
  o = fresh v0

  abbrev fin : Object
  fin = after o log

  -- the successes behind a place
  pub behind : (m : ℕ) → successes o (upto m log) + successes (after o (upto m log)) (past m log) ≡ h.successes
  behind m =
      let a = successes_append o (upto m log) (past m log) in
      let c : successes o (upto m log ++ past m log) ≡ h.successes = ap (successes o) (upto_past m log) ∙ g.count in omega arith

  -- A CALL APPENDED
  module _ (t : Timed) (now : t.moment ≡ n) (an : tells t fin ≡ t.call.answer) where
    at_end_is : insert t log ≡ log ++ t ∷ []
    at_end_is = insert_end t log (all_map (λ u. u.moment < n) (λ u. u.moment ≤ t.moment) (λ u x. omega arith) log g.low)

    pub end_after : after o (insert t log) ≡ feeds t fin
    end_after = ap (after o) at_end_is ∙ after_append o log (t ∷ [])

    end_served : Served o (insert t log)
    end_served = rw at_end_is (served_append o log (t ∷ []) g.served (an, tt))

    end_count : (k : ℕ) → successes fin (t ∷ []) ≡ k → successes o (insert t log) ≡ h.successes + k
    end_count k e = ap (successes o) at_end_is ∙ successes_append o log (t ∷ []) ∙ (let z = g.count in omega arith)

    end_low : All (λ u. u.moment < suc n) (insert t log)
    end_low = all_insert (λ u. u.moment < suc n) t log (omega arith) (all_map (λ u. u.moment < n) (λ u. u.moment < suc n) (λ u x. omega arith) log g.low)

    -- of a call that changes no words
    pub append_same : (feeds t fin).words ≡ fin.words → successes fin (t ∷ []) ≡ 0 → h.won_at < n → LogAll W v0 (insert t log) (suc n) h
    append_same ew es wp = record {
      sorted = sorted_insert t log g.sorted;
      served = end_served;
      words = ap (λ x. x.words) end_after ∙ ew ∙ g.words;
      count = let z = end_count 0 es in omega arith;
      lag = λ m hm. rw (upto_before m t log (omega arith)) (g.lag m hm);
      low = end_low;
    }

    -- of an SC that succeeds
    pub append_success : (h' : Shared) → h'.successes ≡ suc h.successes → h'.won_at ≡ n
        → (feeds t fin).words ≡ tab W h'.value → successes fin (t ∷ []) ≡ 1 → LogAll W v0 (insert t log) (suc n) h'
    append_success h' hs hw ew es = record {
      sorted = sorted_insert t log g.sorted;
      served = end_served;
      words = ap (λ x. x.words) end_after ∙ ew;
      count = let z = end_count 1 es in omega arith;
      lag = λ m hm. rw (upto_before m t log (omega arith)) (let z = behind m in omega arith);
      low = end_low;
    }

  -- AN LL INSERTED, whose value is what the object holds there; a success stands behind it
  module _ (p : ℕ) (t : Timed) (of_p : t.call.process ≡ p) (is_ll_is : t.call.kind ≡ ll)
      (an : t.call.answer ≡ ll_words (after o (upto t.moment log)).words)
      (b : ℕ) (bl : b < t.moment) (mine : All (Mine p b) log) (lt : t.moment < n) (won : t.moment < h.won_at) where
    free : Free t.call.process (past t.moment log)
    free = free_past t.call.process b t.moment log bl (all_map (Mine p b) (Mine t.call.process b) (λ u y z. y (z ∙ of_p)) log mine) g.sorted

    inserted : Inserted o log t
    inserted = insert_ll o log t (after o (upto t.moment log)).words is_ll_is an g.served free refl

    low : All (λ u. u.moment < suc n) (insert t log)
    low = all_insert (λ u. u.moment < suc n) t log (omega arith) (all_map (λ u. u.moment < n) (λ u. u.moment < suc n) (λ u x. omega arith) log g.low)

    whole : (us : List Timed) → All (λ u. u.moment < suc n) us → upto n us ≡ us
    whole us a = upto_all n us (all_map (λ u. u.moment < suc n) (λ u. u.moment ≤ n) (λ u x. omega arith) us a)

    counted : successes o (insert t log) ≡ successes o log
    counted =
        ap (successes o) (sym (whole (insert t log) low)) ∙ (inserted.part n (omega arith)).1
        ∙ ap (successes o) (whole log (all_map (λ u. u.moment < n) (λ u. u.moment < suc n) (λ u x. omega arith) log g.low))

    pub insert_all : LogAll W v0 (insert t log) (suc n) h
    insert_all = record {
      sorted = sorted_insert t log g.sorted;
      served = inserted.served;
      words = sym inserted.alike.words ∙ g.words;
      count = counted ∙ g.count;
      lag = λ m hm. lagging m hm (dec_lt m t.moment);
      low = low;
    }
      where
        lagging : (m : ℕ) → m < h.won_at → Dec (m < t.moment) → successes o (upto m (insert t log)) < h.successes
        lagging m hm (yes x) = rw (upto_before m t log x) (g.lag m hm)
        lagging m hm (no x) = let z = (inserted.part m (omega arith)).1 in let y = g.lag m hm in omega arith

    -- p's link ends not set, the others' as they were
    pub insert_own : (after o (insert t log)).link p ≡ false
    insert_own =
        subst (λ q. (after o (insert t log)).link q ≡ false) of_p
        (inserted.link ∙ ne_eqb (successes (after o (upto t.moment log)) (past t.moment log)) 0
        (λ z. let y = behind t.moment in let x = g.lag t.moment won in omega arith))

    pub insert_others : (q : ℕ) → (q ≡ p → ⊥) → (after o (insert t log)).link q ≡ fin.link q
    insert_others q ne = sym (inserted.alike.link q (λ z. ne (z ∙ of_p)))
