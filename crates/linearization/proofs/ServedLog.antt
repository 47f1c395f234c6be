-- The log of answered calls, kept in moment order: what holds of it, and the three ways in which it grows.
use mathlib.Core.Path.{◌≡◌, refl, sym, ap, subst, ◌∙◌}
use mathlib.Core.Bool.{Bool, true, false}
use mathlib.Core.List.{List, [], ◌∷◌, ◌++◌}
use Prim.Native.Nat.{ℕ, suc, ◌+◌, ◌≤◌, ◌<◌}
use native.Mathlib.Decide.{dec_lt}
use native.Mathlib.Omega.{arith}
use lib.Dec.{eqb}
use borrow.Author.Tests.{eqb-true, eq-eqb}
use Rattle.llsc.specs.Answers.{ll_words}
use Rattle.llsc.specs.Object.{ll, Object, fresh}
use Rattle.llsc.specs.Linearizable.{All, Timed, insert}
use Rattle.laws.proofs.Updates.{upd, upd_same, upd_other, Split, same, other, split, contra, is_false}
use Rattle.linearization.proofs.WordLists.{words_of}
use Rattle.serving.proofs.Serving.{tells, feeds, after, Served, Free, successes, after_append, served_append, successes_append}
use Rattle.serving.proofs.Sorting.{Sorted, sorted_insert, all_map, all_insert, upto, past, upto_past, insert_end, upto_all, upto_before, free_past}
use Rattle.serving.proofs.Insertion.{Inserted, insert_ll}

-- before command number n, and not after the last moment of its process
abbrev pub Low : ℕ → (ℕ → ℕ) → Timed → Type 0
Low n last t = (t.moment < n) × (t.moment ≤ last t.call.process)

-- at moment m the object holds value number i
abbrev pub Holds : ℕ → List ℕ → (ℕ → ℕ → ℕ) → List Timed → ℕ → ℕ → Type 0
Holds W v0 Val log m i = ((after (fresh v0) (upto m log)).words ≡ words_of W (Val i)) × (successes (fresh v0) (upto m log) ≡ i)

-- the log before command number n: S successes so far, number i at T i with the words Val i; the links and the last moments of the processes
pub record Logged (W : ℕ) (v0 : List ℕ) (n S : ℕ) (Val : ℕ → ℕ → ℕ) (T : ℕ → ℕ) (lnk : ℕ → Bool) (last : ℕ → ℕ) (log : List Timed) : Type 0 where
  pub sorted : Sorted log
  pub served : Served (fresh v0) log
  pub link : (q : ℕ) → (after (fresh v0) log).link q ≡ lnk q
  pub words : (after (fresh v0) log).words ≡ words_of W (Val S)
  pub count : successes (fresh v0) log ≡ S
  pub old : (m i : ℕ) → m < n → i ≤ S → T i ≤ m → (i < S → m < T (suc i)) → Holds W v0 Val log m i
  pub top : All (Low n last) log

module _ {W : ℕ} {v0 : List ℕ} {n S : ℕ} {Val : ℕ → ℕ → ℕ} {T : ℕ → ℕ} {lnk : ℕ → Bool} {last : ℕ → ℕ} {log : List Timed}
    (successes_past : (j : ℕ) → j ≤ S → T j < n) (g : Logged W v0 n S Val T lnk last log) where
  abbrev o : Object
  o = fresh v0

  abbrev fin : Object
  fin = after o log

  -- at moment n only the last value lives
  only : (i : ℕ) → i ≤ S → (i < S → n < T (suc i)) → i ≡ S
  only i a b = go (dec_lt i S)
    where
      go : Dec (i < S) → i ≡ S
      go (yes x) = absurd (let y = b x in let z = successes_past (suc i) x in omega arith)
      go (no x) = omega arith

  -- what holds of moments before n and of n holds of moments before suc n
  grown : (log' : List Timed) → ((m i : ℕ) → m < n → Holds W v0 Val log m i → Holds W v0 Val log' m i) → Holds W v0 Val log' n S
      → (m i : ℕ) → m < suc n → i ≤ S → T i ≤ m → (i < S → m < T (suc i)) → Holds W v0 Val log' m i
  grown log' f now m i a b c d = go (dec_lt m n)
    where
      go : Dec (m < n) → Holds W v0 Val log' m i
      go (yes x) = f m i x (g.old m i x b c d)
      go (no x) =
          let z : m ≡ n = omega arith in let y : i ≡ S = only i b (subst (λ u. i < S → u < T (suc i)) z d) in
          rw (z, y) now

  -- no call of a log is past its last moment
  whole : (k : ℕ) (last' : ℕ → ℕ) (log' : List Timed) → All (Low (suc k) last') log' → upto k log' ≡ log'
  whole k last' log' a = upto_all k log' (all_map (Low (suc k) last') (λ t. t.moment ≤ k) (λ t x. let y = x.0 in omega arith) log' a)

  top_tick : All (Low (suc n) last) log
  top_tick = all_map (Low n last) (Low (suc n) last) (λ t x. (let y = x.0 in omega arith, x.1)) log g.top

  -- a command that answers nothing
  pub log_tick : Logged W v0 (suc n) S Val T lnk last log
  log_tick = record {
    sorted = g.sorted;
    served = g.served;
    link = g.link;
    words = g.words;
    count = g.count;
    top = top_tick;
    old = grown log (λ m i x h. h) (rw (whole n last log top_tick) (g.words, g.count));
  }

  -- the last moments after a call of p
  module _ (p : ℕ) (t : Timed) (of_p : t.call.process ≡ p) where
    top_in : t.moment < suc n → last p ≤ t.moment → All (Low (suc n) (upd last p t.moment)) (insert t log)
    top_in h b =
        all_insert (Low (suc n) (upd last p t.moment)) t log (h, rw of_p (rw (upd_same last p t.moment) (omega arith)))
        (all_map (Low n last) (Low (suc n) (upd last p t.moment)) (λ u y. (let z = y.0 in omega arith, go u y.1 (split u.call.process p))) log g.top)
      where
        go : (u : Timed) → u.moment ≤ last u.call.process → Split u.call.process p → u.moment ≤ upd last p t.moment u.call.process
        go u y (same z) = rw z (rw (upd_same last p t.moment) (let w : u.moment ≤ last p = subst (λ q. u.moment ≤ last q) z y in omega arith))
        go u y (other ne) = rw (upd_other last p u.call.process t.moment ne) y

  -- an SC or a VL, at the end
  module _ (p : ℕ) (t : Timed) (of_p : t.call.process ≡ p) (now : t.moment ≡ n) (lp : last p < n) (an : tells t fin ≡ t.call.answer) where
    at_end_is : insert t log ≡ log ++ t ∷ []
    at_end_is = insert_end t log (all_map (Low n last) (λ u. u.moment ≤ t.moment) (λ u x. let y = x.0 in omega arith) log g.top)

    end_after : after o (insert t log) ≡ feeds t fin
    end_after = ap (after o) at_end_is ∙ after_append o log (t ∷ [])

    end_served : Served o (insert t log)
    end_served = rw at_end_is (served_append o log (t ∷ []) g.served (an, tt))

    end_count : (k : ℕ) → successes fin (t ∷ []) ≡ k → successes o (insert t log) ≡ S + k
    end_count k e = ap (successes o) at_end_is ∙ successes_append o log (t ∷ []) ∙ (let z = g.count in omega arith)

    end_top : All (Low (suc n) (upd last p n)) (insert t log)
    end_top = subst (λ m. All (Low (suc n) (upd last p m)) (insert t log)) now (top_in p t of_p (omega arith) (omega arith))

    end_whole : upto n (insert t log) ≡ insert t log
    end_whole = whole n (upd last p n) (insert t log) end_top

    -- SC that fails, VL: the object is as it was
    pub log_same : (x : Bool) → lnk p ≡ x → feeds t fin ≡ fin → successes fin (t ∷ []) ≡ 0 → Logged W v0 (suc n) S Val T (upd lnk p x) (upd last p n) (insert t log)
    log_same x ex ef ew = record {
      sorted = sorted_insert t log g.sorted;
      served = end_served;
      link = λ q. ap (λ o. o.link q) (end_after ∙ ef) ∙ g.link q ∙ linked q (split q p);
      words = held;
      count = counted;
      top = end_top;
      old = grown (insert t log) (λ m i x h. rw (upto_before m t log (omega arith)) h) (rw end_whole (held, counted));
    }
      where
        linked : (q : ℕ) → Split q p → lnk q ≡ upd lnk p x q
        linked q (same z) = ap lnk z ∙ ex ∙ sym (upd_same lnk p x) ∙ ap (upd lnk p x) (sym z)
        linked q (other ne) = sym (upd_other lnk p q x ne)

        held : (after o (insert t log)).words ≡ words_of W (Val S)
        held = ap (λ o. o.words) (end_after ∙ ef) ∙ g.words

        counted : successes o (insert t log) ≡ S
        counted = let z = end_count 0 ew in omega arith

    -- SC that succeeds
    pub log_success : (w : ℕ → ℕ) → feeds t fin ≡ fresh (words_of W w) → successes fin (t ∷ []) ≡ 1
        → Logged W v0 (suc n) (suc S) (upd Val (suc S) w) (upd T (suc S) n) (upd (λ q. false) p false) (upd last p n) (insert t log)
    log_success w ef ew = record {
      sorted = sorted_insert t log g.sorted;
      served = end_served;
      link = λ q. ap (λ o. o.link q) (end_after ∙ ef) ∙ linked q (split q p);
      words = held;
      count = counted;
      top = end_top;
      old = λ m i a b c d. go m i a b c d (split i (suc S));
    }
      where
        linked : (q : ℕ) → Split q p → false ≡ upd (λ (q : ℕ). false) p false q
        linked q (same z) = sym (ap (upd (λ (q : ℕ). false) p false) z ∙ upd_same (λ (q : ℕ). false) p false)
        linked q (other ne) = sym (upd_other (λ (q : ℕ). false) p q false ne)

        held : (after o (insert t log)).words ≡ words_of W (upd Val (suc S) w (suc S))
        held = ap (λ o. o.words) (end_after ∙ ef) ∙ ap (words_of W) (sym (upd_same Val (suc S) w))

        counted : successes o (insert t log) ≡ suc S
        counted = let z = end_count 1 ew in omega arith

        go : (m i : ℕ) → m < suc n → i ≤ suc S → upd T (suc S) n i ≤ m → (i < suc S → m < upd T (suc S) n (suc i))
            → Split i (suc S) → Holds W v0 (upd Val (suc S) w) (insert t log) m i
        go m i a b c d (same z) =
            let y : n ≤ m = subst (◌≤ m) (ap (upd T (suc S) n) z ∙ upd_same T (suc S) n) c in let u : m ≡ n = omega arith in
            rw (u, z, end_whole) (held, counted)
        go m i a b c d (other ne) =
            let c' : T i ≤ m = rw (upd_other T (suc S) i n ne) at c in
            let lt : m < n = early (split i S) in
            rw (upto_before m t log (omega arith), upd_other Val (suc S) i w ne)
            (g.old m i lt (omega arith) c' (λ h. rw (upd_other T (suc S) (suc i) n (λ q. ne (omega arith))) at (d (omega arith))))
          where
            early : Split i S → m < n
            early (same q) = let x = d (omega arith) in subst (m <◌) (ap (λ j. upd T (suc S) n (suc j)) q ∙ upd_same T (suc S) n) x
            early (other q) = let x = rw (upd_other T (suc S) (suc i) n (λ z. q (omega arith))) at (d (omega arith)) in let y = successes_past (suc i) (omega arith) in omega arith

  -- an LL, at its moment: value number ver was held there; x is p's link, set if ver is the last
  module _ (p : ℕ) (t : Timed) (of_p : t.call.process ≡ p) (is_ll_is : t.call.kind ≡ ll) (ver b : ℕ) (an : t.call.answer ≡ ll_words (words_of W (Val ver)))
      (lt : t.moment < n) (lv : ver ≤ S) (w1 : T ver ≤ t.moment) (w2 : ver < S → t.moment < T (suc ver)) (lb : last p ≤ b) (bl : b < t.moment)
      (x : Bool) (x1 : x ≡ true → ver ≡ S) (x2 : ver ≡ S → x ≡ true) where
    free : Free t.call.process (past t.moment log)
    free =
        free_past t.call.process b t.moment log bl
        (all_map (Low n last) (λ u. u.call.process ≡ t.call.process → u.moment ≤ b)
        (λ u y z. let w : u.moment ≤ last p = subst (λ k. u.moment ≤ last k) (z ∙ of_p) y.1 in omega arith) log g.top)
        g.sorted

    here : Holds W v0 Val log t.moment ver
    here = g.old t.moment ver lt lv w1 w2

    inserted : Inserted o log t
    inserted = insert_ll o log t (words_of W (Val ver)) is_ll_is an g.served free here.0

    -- the successes behind it
    behind : ver + successes (after o (upto t.moment log)) (past t.moment log) ≡ S
    behind =
        let a = successes_append o (upto t.moment log) (past t.moment log) in
        let c : successes o (upto t.moment log ++ past t.moment log) ≡ S = ap (successes o) (upto_past t.moment log) ∙ g.count in
        let d = here.1 in omega arith

    linked : (w : ℕ) → ver + w ≡ S → eqb w 0 ≡ x
    linked w h = go x x1 x2
      where
        go : (x : Bool) → (x ≡ true → ver ≡ S) → (ver ≡ S → x ≡ true) → eqb w 0 ≡ x
        go true a c = eq-eqb w 0 (let z = a refl in omega arith)
        go false a c = is_false _ (λ z. contra (c (let y = eqb-true w 0 z in omega arith)) refl)

    -- a part that reaches the moment holds what it held
    kept : (m i : ℕ) → Holds W v0 Val log m i → Dec (m < t.moment) → Holds W v0 Val (insert t log) m i
    kept m i h (yes y) = rw (upto_before m t log y) h
    kept m i h (no y) = let z = inserted.part m (omega arith) in (z.0 ∙ h.0, z.1 ∙ h.1)

    pub log_ll : Logged W v0 (suc n) S Val T (upd lnk p x) (upd last p t.moment) (insert t log)
    log_ll = record {
      sorted = sorted_insert t log g.sorted;
      served = inserted.served;
      link = λ q. link q (split q p);
      words = sym inserted.alike.words ∙ g.words;
      count = rw (whole n (upd last p t.moment) (insert t log) top') at at_n.1;
      top = top';
      old = grown (insert t log) (λ m i y h. kept m i h (dec_lt m t.moment)) at_n;
    }
      where
        top' : All (Low (suc n) (upd last p t.moment)) (insert t log)
        top' = top_in p t of_p (omega arith) (omega arith)

        at_n : Holds W v0 Val (insert t log) n S
        at_n = kept n S (rw (whole n last log top_tick) (g.words, g.count)) (dec_lt n t.moment)

        link : (q : ℕ) → Split q p → (after o (insert t log)).link q ≡ upd lnk p x q
        link q (same z) =
            ap (after o (insert t log)).link (z ∙ sym of_p)
            ∙ inserted.link ∙ linked _ behind ∙ sym (upd_same lnk p x) ∙ ap (upd lnk p x) (sym z)
        link q (other ne) = sym (inserted.alike.link q (λ z. ne (z ∙ of_p))) ∙ g.link q ∙ sym (upd_other lnk p q x ne)
