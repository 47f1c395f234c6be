-- The calls in the order in which they become known are those in the order of their answers, with the open SCs that have succeeded.
use mathlib.Core.Path.{◌≡◌, refl, sym, ap, subst, ◌∙◌}
use mathlib.Core.Bool.{Bool, true, false, cond}
use mathlib.Core.List.{List, [], ◌∷◌, ◌++◌, append_assoc, map}
use Prim.Native.Nat.{ℕ, zero, suc, ◌<◌}
use native.Mathlib.Omega.{arith}
use lib.Dec.{ltb, eqb}
use lib.ListN.{length}
use borrow.Author.Tests.{ltb-true, eq-eqb}
use Rattle.laws.proofs.Updates.{upd, upd_same, upd_other, Split, same, other, split, by_test, by_test₂}
use Rattle.laws.proofs.Parts.{tab}
use Rattle.moir_model.specs.Points.{Point, idle, ll10, ll2, ll4, ll5, ll6, ll7, sc14, sc17, sc19, sc2, sc4, sc5, sc6, sc7, vl13}
use Rattle.moir_linearization.proofs.PointRanges.{copying}
use Rattle.moir_linearization.proofs.GhostMachine.{Local, Shared, State, quiet, noisy, begin, prev, eq_pair, to, rest, set_h, set_key, w_header}
use Rattle.moir_linearization.proofs.GhostMachine.{step, step_at}
use Rattle.moir_linearization.proofs.GhostRuns.{Cmd, WLL, VL, SC, go, exec, starts, started, Effect, sc_effect, effect_at, effect_of, effects}
use Rattle.moir_linearization.proofs.GhostRuns.{latest_step, is_step, set_up}
use Rattle.moir_linearization.specs.Linearizable.{Served}
use Rattle.moir_linearization.proofs.GhostHistories.{sc_call, answer_at, answer_of, concat, last_by, fed_from, fed_calls, AnswerOrder}
use Rattle.moir_linearization.proofs.InvariantRuns.{by_starts}
use Rattle.moir_linearization.proofs.StepShape.{shape}
use Rattle.moir_linearization.proofs.Permutations.{Perm, both, perm_refl, perm_eq, perm_left, perm_right, perm_over, perm_length}
use Rattle.moir_linearization.proofs.Reordering.{reordered}
use Rattle.moir_linearization.proofs.EffectOrder.{moir_order}

by_test₃ : {A B C : Type 0} (P : A → B → C → Type 0) (b : Bool) {x y : A} {u v : B} {r t : C} → P x u r → P y v t → P (cond b x y) (cond b u v) (cond b r t)
by_test₃ P true f g = f
by_test₃ P false f g = g

abbrev calls_of : List Effect → List Served
calls_of es = map (λ (e : Effect). e.call) es

calls_append : (es fs : List Effect) → calls_of (es ++ fs) ≡ calls_of es ++ calls_of fs
calls_append [] fs = refl
calls_append (e ∷ es) fs = ap (e.call ∷◌) (calls_append es fs)

module _ (W : ℕ) where
  pub concat_same : (m : ℕ) (f g : ℕ → List Served) → ((q : ℕ) → q < m → f q ≡ g q) → concat W m f ≡ concat W m g
  concat_same zero f g e = refl
  concat_same (suc m) f g e = let a = concat_same m f g (λ q h. e q (omega arith)) in let b = e m (omega arith) in rw (a, b)

  -- two families that differ at p only
  concat_one : (m p : ℕ) (f g : ℕ → List Served) (xs ys : List Served) → p < m → ((q : ℕ) → (q ≡ p → ⊥) → f q ≡ g q)
      → Perm (xs ++ f p) (ys ++ g p) → Perm (xs ++ concat W m f) (ys ++ concat W m g)
  concat_one zero p f g xs ys h e r = absurd (omega arith)
  concat_one (suc m) p f g xs ys h e r = go (λ k. concat_one m p f g xs ys k e r) (split m p)
    where
      go : (p < m → Perm (xs ++ concat W m f) (ys ++ concat W m g)) → Split m p → Perm (xs ++ (concat W m f ++ f m)) (ys ++ (concat W m g ++ g m))
      go below (same z) =
          let c : concat W m f ≡ concat W m g = concat_same m f g (λ q hq. e q (omega arith)) in
          both (perm_over xs (concat W m f) (f m))
          (both (perm_eq (ap (λ u. u ++ (xs ++ f m)) c))
          (both (perm_left (concat W m g) (subst (λ j. Perm (xs ++ f j) (ys ++ g j)) (sym z) r))
          (perm_over (concat W m g) ys (g m))))
      go below (other ne) =
          both (perm_eq (sym (append_assoc xs (concat W m f) (f m))))
          (both (perm_right (below (omega (arith, ne))) (f m))
          (perm_eq (append_assoc ys (concat W m g) (f m) ∙ ap (λ u. ys ++ (concat W m g ++ u)) (e m ne))))

module _ (N M W : ℕ) where
  -- the SC of q that has succeeded and is open in s, with its last step among the commands to come
  abbrev pending : ℕ → List Cmd → State → (ℕ → ℕ) → ℕ → List Served
  pending n cs s last q = cond (copying (s.loc q).point) (sc_call W q true (latest_step N M W q n cs s (last q)) (s.loc q) ∷ []) []

  -- of a process whose Copy is over
  last_over : (p n : ℕ) (cs : List Cmd) (s : State) (d : ℕ) → copying (s.loc p).point ≡ false → latest_step N M W p n cs s d ≡ d
  unfolding latest_step
  last_over p n [] s d e = refl
  last_over p n (c ∷ cs) s d e = ap (λ b. cond b (latest_step N M W p (suc n) cs (exec N M W n c s) (cond (is_step p c) n d)) d) e

  last_on : (p n : ℕ) (c : Cmd) (cs : List Cmd) (s : State) (d : ℕ) → copying (s.loc p).point ≡ true
      → latest_step N M W p n (c ∷ cs) s d ≡ latest_step N M W p (suc n) cs (exec N M W n c s) (cond (is_step p c) n d)
  unfolding latest_step
  last_on p n c cs s d e = ap (λ b. cond b (latest_step N M W p (suc n) cs (exec N M W n c s) (cond (is_step p c) n d)) d) e

  -- a command that leaves q's record
  pending_other : (n : ℕ) (c : Cmd) (cs : List Cmd) (s : State) (last : ℕ → ℕ) (q : ℕ)
      → (exec N M W n c s).loc q ≡ s.loc q → pending n (c ∷ cs) s last q ≡ pending (suc n) cs (exec N M W n c s)
      (last_by n c last) q
  pending_other n c cs s last q e = go (copying (s.loc q).point) refl
    where
      go : (b : Bool) → copying (s.loc q).point ≡ b → pending n (c ∷ cs) s last q ≡ pending (suc n) cs (exec N M W n c s) (last_by n c last) q
      go true x =
          ap (λ b. cond b (sc_call W q true (latest_step N M W q n (c ∷ cs) s (last q)) (s.loc q) ∷ []) []) x
          ∙ ap (λ d. sc_call W q true d (s.loc q) ∷ []) (last_on q n c cs s (last q) x)
          ∙ sym (ap (λ (u : Local). cond (copying u.point)
          (sc_call W q true (latest_step N M W q (suc n) cs (exec N M W n c s) (last_by n c last q)) u ∷ []) []) e
          ∙ ap (λ b. cond b (sc_call W q true (latest_step N M W q (suc n) cs (exec N M W n c s) (last_by n c last q)) (s.loc q) ∷ []) []) x)
      go false x =
          ap (λ b. cond b (sc_call W q true (latest_step N M W q n (c ∷ cs) s (last q)) (s.loc q) ∷ []) []) x
          ∙ sym (ap (λ (u : Local). cond (copying u.point)
          (sc_call W q true (latest_step N M W q (suc n) cs (exec N M W n c s) (last_by n c last q)) u ∷ []) []) e
          ∙ ap (λ b. cond b (sc_call W q true (latest_step N M W q (suc n) cs (exec N M W n c s) (last_by n c last q)) (s.loc q) ∷ []) []) x)

  module _ (n : ℕ) (cs : List Cmd) (s : State) (p : ℕ) where
    abbrev l : Local
    l = s.loc p

    abbrev h : Shared
    h = s.sh

    abbrev k : ℕ
    k = l.word

    -- p's last step, if u is the state after its step
    abbrev last_in : State → ℕ
    last_in u = latest_step N M W p (suc n) cs u n

    abbrev won : State
    won = noisy s p (w_header l.new_tag l.new_pid l.offered n h) (set_key n (to sc2 l))

    abbrev lost : State
    lost = quiet s p (rest l)

    -- what is pending of p before the step, at point y, and after it
    record Owed (y : Point) (es : List Effect) (xs : List Served) (u : State) : Type 0 where
      perm : Perm (calls_of es ++ cond (copying y) (sc_call W p true (last_in u) l ∷ []) [])
          (xs ++ cond (copying (u.loc p).point) (sc_call W p true (last_in u) (u.loc p) ∷ []) [])

    -- after a step that leaves p with the record c
    owed : (y : Point) (es : List Effect) (xs : List Served) (h' : Shared) (c : Local)
        → Perm (calls_of es ++ cond (copying y) (sc_call W p true (last_in (noisy s p h' c)) l ∷ []) [])
        (xs ++ cond (copying c.point) (sc_call W p true (last_in (noisy s p h' c)) c ∷ []) [])
        → Owed y es xs (noisy s p h' c)
    owed y es xs h' c d = record {
      perm =
          subst (λ (x : Local). Perm (calls_of es ++ cond (copying y)
          (sc_call W p true (last_in (noisy s p h' c)) l ∷ []) [])
          (xs ++ cond (copying x.point) (sc_call W p true (last_in (noisy s p h' c)) x ∷ []) []))
          (sym (upd_same s.loc p c)) d;
    }

    -- and answers an SC that has succeeded
    over : (h' : Shared) (c : Local) → copying c.point ≡ false → last_in (noisy s p h' c) ≡ n
    over h' c e = last_over p (suc n) cs (noisy s p h' c) n (ap (λ (x : Local). copying x.point) (upd_same s.loc p c) ∙ e)

    -- a success, and a failure at the header's CAS
    owed_19 : (b : Bool) → Owed sc19 (cond b (sc_effect W true n (last_in (cond b won lost)) p s ∷ [])
        (sc_effect W false n n p s ∷ [])) (cond b [] (sc_call W p false n l ∷ [])) (cond b won lost)
    owed_19 true = owed sc19 _ [] _ _ (perm_refl _)
    owed_19 false = owed sc19 _ _ h _ (perm_refl _)

    -- the answer of an SC that has succeeded
    owed_7 : Owed sc7 [] (sc_call W p true n l ∷ []) (quiet s p (rest (set_h h.tag h.pid l)))
    owed_7 = owed sc7 [] _ h _ (perm_eq (ap (λ d. sc_call W p true d l ∷ []) (over h (rest (set_h h.tag h.pid l)) refl)))

    owed_at : (y : Point) → l.point ≡ y → Owed y (effect_at W y n (last_in (step_at M W y n p s)) p s) (answer_at W y n p s) (step_at M W y n p s)
    unfolding step_at
    owed_at idle e = record { perm = perm_eq (sym (ap (λ y. cond (copying y) (sc_call W p true (last_in s) l ∷ []) []) e)) }
    owed_at ll10 e = owed ll10 [] [] h _ (perm_refl _)
    owed_at ll2 e = by_test (Owed ll2 [] []) (eqb (h.seg_tag k) (prev M l.x_tag))
        (λ _. owed ll2 [] [] h _ (perm_refl _)) (λ _. owed ll2 [] [] h _ (perm_refl _))
    owed_at ll4 e = owed ll4 [] [] h _ (perm_refl _)
    owed_at ll5 e = by_test (Owed ll5 [] []) (eq_pair (h.seg_tag k) (h.seg_val k) l.y_tag l.y_val)
        (λ _. owed ll5 [] [] _ _ (perm_refl _)) (λ _. owed ll5 [] [] h _ (perm_refl _))
    owed_at ll6 e = owed ll6 [] [] h _ (perm_refl _)
    owed_at ll7 e =
        by_test₃ (Owed ll7) (eq_pair h.tag h.pid l.x_tag l.x_pid)
        (by_test₃ (Owed ll7) (ltb (suc k) W) (owed ll7 [] [] h _ (perm_refl _)) (owed ll7 _ _ h _ (perm_refl _))) (owed ll7 _ _ h _ (perm_refl _))
    owed_at sc14 e = by_test₃ (Owed sc14) (eqb h.tag l.keep) (owed sc14 [] [] h _ (perm_refl _)) (owed sc14 _ _ h _ (perm_refl _))
    owed_at sc17 e = by_test (Owed sc17 [] []) (ltb (suc k) W) (λ _. owed sc17 [] [] _ _ (perm_refl _)) (λ _. owed sc17 [] [] _ _ (perm_refl _))
    owed_at sc19 e = owed_19 (eq_pair h.tag h.pid l.old_tag l.old_pid)
    owed_at sc2 e = by_test (Owed sc2 [] []) (eqb (h.seg_tag k) (prev M l.new_tag))
        (λ _. owed sc2 [] [] h _ (perm_refl _)) (λ _. owed sc2 [] [] h _ (perm_refl _))
    owed_at sc4 e = owed sc4 [] [] h _ (perm_refl _)
    owed_at sc5 e = by_test (Owed sc5 [] []) (eq_pair (h.seg_tag k) (h.seg_val k) l.y_tag l.y_val)
        (λ _. owed sc5 [] [] _ _ (perm_refl _)) (λ _. owed sc5 [] [] h _ (perm_refl _))
    owed_at sc6 e = owed sc6 [] [] h _ (perm_refl _)
    owed_at sc7 e =
        by_test₂ (λ u xs. Owed sc7 [] xs u) (eq_pair h.tag h.pid l.new_tag l.new_pid)
        (λ _. by_test₂ (λ u xs. Owed sc7 [] xs u) (ltb (suc k) W) (λ _. owed sc7 [] [] h _ (perm_refl _)) (λ _. owed_7)) (λ _. owed_7)
    owed_at vl13 e = owed vl13 _ _ h _ (perm_refl _)

  -- a process's record is left, or it is in no Copy before and after
  data Quiet (s u : State) (q : ℕ) : Type 0 where
    left : u.loc q ≡ s.loc q → Quiet s u q
    none : copying (s.loc q).point ≡ false → copying (u.loc q).point ≡ false → Quiet s u q

  pending_quiet : (n : ℕ) (c : Cmd) (cs : List Cmd) (s : State) (last : ℕ → ℕ) (q : ℕ)
      → Quiet s (exec N M W n c s) q → pending n (c ∷ cs) s last q ≡ pending (suc n) cs (exec N M W n c s)
      (last_by n c last) q
  pending_quiet n c cs s last q (left e) = pending_other n c cs s last q e
  pending_quiet n c cs s last q (none a b) =
      ap (λ b. cond b (sc_call W q true (latest_step N M W q n (c ∷ cs) s (last q)) (s.loc q) ∷ []) []) a
      ∙ sym (ap (λ b. cond b (sc_call W q true (latest_step N M W q (suc n) cs (exec N M W n c s) (last_by n c last q)) ((exec N M W n c s).loc q) ∷ []) []) b)

  start_quiet : (n p : ℕ) (y : Point) (v : ℕ) (w : ℕ → ℕ) (f ok : Bool) (s : State) → copying y ≡ false → (q : ℕ) → Quiet s (starts N M W n p y v w f ok s) q
  start_quiet n p y v w f ok s e q = by_starts N M W (λ u. Quiet s u q) n p y v w f ok s (left refl) (λ _ _ i _. go i (split q p))
    where
      go : (s.loc p).point ≡ idle → Split q p → Quiet s (started N M W n p y v w s) q
      go i (same z) =
          none (ap (λ j. copying (s.loc j).point) z ∙ ap copying i)
          (ap (λ j. copying (upd s.loc p (begin y n v w (s.loc p)) j).point) z
          ∙ ap (λ (x : Local). copying x.point) (upd_same s.loc p (begin y n v w (s.loc p))) ∙ e)
      go i (other ne) = left (upd_other s.loc p q _ ne)

  owed_quiet : (n : ℕ) (c : Cmd) (cs : List Cmd) (s : State) (last : ℕ → ℕ)
      → ((q : ℕ) → Quiet s (exec N M W n c s) q) → Perm (concat W N (pending n (c ∷ cs) s last))
      (concat W N (pending (suc n) cs (exec N M W n c s) (last_by n c last)))
  owed_quiet n c cs s last f = perm_eq (concat_same W N _ _ (λ q _. pending_quiet n c cs s last q (f q)))

  -- the process that steps
  owed_own : (n p : ℕ) (cs : List Cmd) (s : State) (last : ℕ → ℕ) → exec N M W n (go p) s ≡ step_at M W (s.loc p).point n p s
      → Perm (calls_of (effect_at W (s.loc p).point n
      (latest_step N M W p (suc n) cs (exec N M W n (go p) s) n) p s) ++ pending n (go p ∷ cs) s last p)
      (answer_at W (s.loc p).point n p s ++ pending (suc n) cs (exec N M W n (go p) s) (last_by n (go p) last) p)
  owed_own n p cs s last e =
      both (perm_eq (ap (calls_of (effect_at W (s.loc p).point n (last_in n cs s p u) p s) ++◌) (before (copying (s.loc p).point) refl)))
      (both (subst (λ x. Owed n cs s p (s.loc p).point (effect_at W (s.loc p).point n (last_in n cs s p x) p s)
      (answer_at W (s.loc p).point n p s) x) (sym e) (owed_at n cs s p (s.loc p).point refl)).perm
      (perm_eq (ap (λ d. answer_at W (s.loc p).point n p s ++ cond (copying (u.loc p).point)
      (sc_call W p true (latest_step N M W p (suc n) cs u d) (u.loc p) ∷ []) []) (sym now))))
    where
      u : State
      u = exec N M W n (go p) s

      now : cond (eqb p p) n (last p) ≡ n
      now = ap (λ b. cond b n (last p)) (eq-eqb p p refl)

      before : (b : Bool) → copying (s.loc p).point ≡ b → pending n (go p ∷ cs) s last p ≡ cond
          (copying (s.loc p).point) (sc_call W p true (last_in n cs s p u) (s.loc p) ∷ []) []
      before true x = ap (λ d. cond (copying (s.loc p).point) (sc_call W p true d (s.loc p) ∷ []) [])
          (last_on p n (go p) cs s (last p) x ∙ ap (latest_step N M W p (suc n) cs u) now)
      before false x = ap (λ b. cond b (sc_call W p true (latest_step N M W p n (go p ∷ cs) s (last p)) (s.loc p) ∷ [])
          []) x ∙ sym (ap (λ b. cond b (sc_call W p true (last_in n cs s p u) (s.loc p) ∷ []) []) x)

  exec_is : (n p : ℕ) (s : State) → ltb p N ≡ true → exec N M W n (go p) s ≡ step_at M W (s.loc p).point n p s
  unfolding exec step
  exec_is n p s e = ap (λ b. cond b (step M W n p s) s) e

  exec_not : (n p : ℕ) (s : State) → ltb p N ≡ false → exec N M W n (go p) s ≡ s
  unfolding exec
  exec_not n p s e = ap (λ b. cond b (step M W n p s) s) e

  effect_is : (n p : ℕ) (cs : List Cmd) (s : State) (b : Bool) → ltb p N ≡ b → effect_of N M W n (go p) cs s ≡ cond b
      (effect_at W (s.loc p).point n (latest_step N M W p (suc n) cs (exec N M W n (go p) s) n) p s) []
  unfolding effect_of
  effect_is n p cs s b e = ap (λ b. cond b (effect_at W (s.loc p).point n (latest_step N M W p (suc n) cs (exec N M W n (go p) s) n) p s) []) e

  answer_is : (n p : ℕ) (s : State) (b : Bool) → ltb p N ≡ b → answer_of N M W n (go p) s ≡ cond b (answer_at W (s.loc p).point n p s) []
  unfolding answer_of
  answer_is n p s b e = ap (λ b. cond b (answer_at W (s.loc p).point n p s) []) e

  -- a command
  abbrev OwedBy : ℕ → Cmd → List Cmd → State → (ℕ → ℕ) → List Effect → List Served → Type 0
  OwedBy n c cs s last es xs = Perm (calls_of es ++ concat W N (pending n (c ∷ cs) s last))
      (xs ++ concat W N (pending (suc n) cs (exec N M W n c s) (last_by n c last)))

  owed_step : (n p : ℕ) (cs : List Cmd) (s : State) (last : ℕ → ℕ) (b : Bool) → ltb p N ≡ b
      → OwedBy n (go p) cs s last (effect_of N M W n (go p) cs s) (answer_of N M W n (go p) s)
  owed_step n p cs s last true e =
      rw (effect_is n p cs s true e, answer_is n p s true e)
      (concat_one W N p (pending n (go p ∷ cs) s last)
      (pending (suc n) cs (exec N M W n (go p) s) (last_by n (go p) last))
      (calls_of (effect_at W (s.loc p).point n (latest_step N M W p (suc n) cs (exec N M W n (go p) s) n) p s))
      (answer_at W (s.loc p).point n p s) (ltb-true p N e)
      (λ q ne. pending_other n (go p) cs s last q (ap (λ (u : State). u.loc q) (exec_is n p s e) ∙ (shape M W n s p (s.loc p).point).others q ne))
      (owed_own n p cs s last (exec_is n p s e)))
  owed_step n p cs s last false e =
      rw (effect_is n p cs s false e, answer_is n p s false e) (owed_quiet n (go p) cs s last (λ q. left (ap (λ (u : State). u.loc q) (exec_not n p s e))))

  owed_exec : (n : ℕ) (c : Cmd) (cs : List Cmd) (s : State) (last : ℕ → ℕ) → OwedBy n c cs s last (effect_of N M W n c cs s) (answer_of N M W n c s)
  unfolding effect_of answer_of exec
  owed_exec n (WLL p) cs s last = owed_quiet n (WLL p) cs s last (start_quiet n p ll10 _ _ true true s refl)
  owed_exec n (VL p) cs s last = owed_quiet n (VL p) cs s last (start_quiet n p vl13 _ _ true (s.loc p).mark s refl)
  owed_exec n (SC p w f) cs s last = owed_quiet n (SC p w f) cs s last (start_quiet n p sc14 _ w f (s.loc p).mark s refl)
  owed_exec n (go p) cs s last = owed_step n p cs s last (ltb p N) refl

  owed_run : (n : ℕ) (cs : List Cmd) (s : State) (last : ℕ → ℕ)
      → Perm (calls_of (effects N M W n cs s) ++ concat W N (pending n cs s last)) (fed_from N M W n cs s last)
  unfolding effects fed_from latest_step
  owed_run n [] s last = perm_refl _
  owed_run n (c ∷ cs) s last =
      let es = effect_of N M W n c cs s in let fs = effects N M W (suc n) cs (exec N M W n c s) in let xs = answer_of N M W n c s in
      let now = concat W N (pending n (c ∷ cs) s last) in let then = concat W N (pending (suc n) cs (exec N M W n c s) (last_by n c last)) in
      both (perm_eq (ap (◌++ now) (calls_append es fs) ∙ append_assoc (calls_of es) (calls_of fs) now))
      (both (perm_over (calls_of es) (calls_of fs) now)
      (both (perm_left (calls_of fs) (owed_exec n c cs s last))
      (both (perm_over (calls_of fs) xs then) (perm_left xs (owed_run (suc n) cs (exec N M W n c s) (last_by n c last))))))

  none_pending : (m : ℕ) → concat W m (λ q. []) ≡ []
  none_pending zero = refl
  none_pending (suc m) = ap (◌++ []) (none_pending m)

  pub fed_perm : (v : ℕ → ℕ) (cs : List Cmd) → Perm (calls_of (effects N M W 1 cs (set_up v))) (fed_calls N M W v cs)
  fed_perm v cs = both (perm_eq (sym (nil_right (calls_of (effects N M W 1 cs (set_up v))))
      ∙ ap (calls_of (effects N M W 1 cs (set_up v)) ++◌) (sym (none_pending N)))) (owed_run 1 cs (set_up v) (λ q. 0))
    where
      nil_right : (us : List Served) → us ++ [] ≡ us
      nil_right [] = refl
      nil_right (u ∷ us) = ap (u ∷◌) (nil_right us)

calls_length : (es : List Effect) → length (calls_of es) ≡ length es
calls_length [] = refl
calls_length (e ∷ es) = ap suc (calls_length es)

-- CR 8'S ORDER STATEMENT
pub answer_order : AnswerOrder
answer_order N M W h_w v cs b places h =
    reordered places (tab W v) (fed_perm N M W v cs)
    (moir_order N M W h_w v cs b places (let z = perm_length (fed_perm N M W v cs) in let y = calls_length (effects N M W 1 cs (set_up v)) in omega arith))
