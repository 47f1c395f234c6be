-- Every step keeps the log.
use mathlib.Core.Path.{◌≡◌, refl, sym, ap, ◌∙◌}
use mathlib.Core.Bool.{Bool, true, false, cond}
use mathlib.Core.List.{List, [], ◌∷◌}
use Prim.Native.Nat.{ℕ, suc, ◌+◌, ◌≤◌, ◌<◌}
use native.Mathlib.Omega.{arith}
use lib.Dec.{ltb, eqb}
use borrow.Author.Tests.{ltb-false, eqb-true, eqb-false}
use Rattle.llsc.specs.Answers as R
use Rattle.llsc.specs.Object.{Object, fresh}
use Rattle.llsc.specs.Linearizable.{Timed, insert, sort_into}
use Rattle.laws.proofs.Updates.{upd, by_test, by_test₂, contra, is_false, ifb_eq, ifb_ne}
use Rattle.laws.proofs.Claimed.{on_map}
use Rattle.laws.proofs.Parts.{tab, tab_ext}
use Rattle.serving.proofs.Serving.{feeds, tells, after, successes}
use Rattle.moir_model.specs.Points.{Point, idle, ll10, ll2, ll4, ll5, ll6, ll7, sc14, sc17, sc19, sc2, sc4, sc5, sc6, sc7, vl13}
use Rattle.moir_linearization.proofs.PointRanges.{busy, lines}
use Rattle.moir_linearization.proofs.GhostMachine.{Local, Shared, State, quiet, noisy, step, step_at, prev, eq_pair, w_seg, w_row, w_header, to}
use Rattle.moir_linearization.proofs.GhostMachine.{rest_lL, rest, set_h, set_returned, set_key, Bounded}
use Rattle.moir_linearization.proofs.GhostRuns.{effect_at, ll_effect, sc_effect, vl_effect}
use Rattle.moir_model.specs.Replies.{words, names}
use Rattle.moir_linearization.proofs.Frame.{Holds, frame, frame_to}
use Rattle.moir_linearization.proofs.Numbers.{ProcessNumbers, Numbers}
use Rattle.moir_linearization.proofs.Contents.{ProcessContents, Contents}
use Rattle.moir_linearization.proofs.ContentSteps.{answers_value}
use Rattle.moir_linearization.proofs.TagLemmas.{back_ll7, back_sc19, back_keep, same_ll7, suc_sc19, keep_vl13}
use Rattle.moir_linearization.proofs.StepShape.{Few, bound_before}
use Rattle.moir_linearization.proofs.ServedLog.{LogAll, LogEach, log_later, mine_other, append_same, append_success, end_after, insert_all}
use Rattle.moir_linearization.proofs.ServedLog.{insert_own, insert_others}
use Rattle.moir_linearization.proofs.Filling.{placed, fill_all}

module _ (N M W : ℕ) (v0 : List ℕ) where
  abbrev pub Logged : List Timed → ℕ → State → Type 0
  Logged log = Holds (LogAll W v0 log) (LogEach W v0 log)

  module _ (n : ℕ) (h_w : 0 < W) (s : State) (p : ℕ) (log : List Timed) (i : Numbers M W n s) (j : Contents M W n s) (z : Logged log n s) where
    abbrev l : Local
    l = s.loc p

    abbrev h : Shared
    h = s.sh

    abbrev k : ℕ
    k = l.word

    abbrev o : Object
    o = fresh v0

    abbrev fin : Object
    fin = after o log

    abbrev Each : Point → Type 0
    Each y = LogEach W v0 log n y h p l

    -- a step that makes no call known: h' has the same ghosts
    still : (h' : Shared) → h'.value ≡ h.value → h'.successes ≡ h.successes → h'.won_at ≡ h.won_at → (c : Local)
        → LogEach W v0 log (suc n) c.point h' p c → Logged log (suc n) (noisy s p h' c)
    still h' ev es ew c me =
        frame (LogAll W v0 log) (LogEach W v0 log) n s p h' c z
        (let g = log_later W v0 log n h z.all
        in record {
          sorted = g.sorted;
          served = g.served;
          words = g.words ∙ ap (tab W) (sym ev);
          count = g.count ∙ sym es;
          lag = λ m hm. rw es (g.lag m (rw ew at hm));
          low = g.low;
        })
        me (λ q ne a. same_ghosts q (s.loc q) (s.loc q).point a)
      where
        same_ghosts : (q : ℕ) (c : Local) (y : Point) → LogEach W v0 log n y h q c → LogEach W v0 log (suc n) y h' q c
        same_ghosts q c y a = record {
          linked_current = on_map (lines 5 15 y) (λ f x. f x ∙ sym es) a.linked_current;
          current_linked = on_map (lines 5 15 y) (λ f x r. f x (r ∙ es)) a.current_linked;
          calls_past = a.calls_past;
        }

    q! : (c : Local) → LogEach W v0 log (suc n) c.point h p c → Logged log (suc n) (quiet s p c)
    q! c me = still h refl refl refl c me

    -- a call of p is added, and no other process's link changes
    grown : (t : Timed) → t.call.process ≡ p → LogAll W v0 (insert t log) (suc n) h → ((q : ℕ) → (q ≡ p → ⊥) → (after o (insert t log)).link q ≡ fin.link q)
        → (c : Local) → LogEach W v0 (insert t log) (suc n) c.point h p c → Logged (insert t log) (suc n) (quiet s p c)
    grown t of_p g links c me =
        let r = frame_to (LogAll W v0 log) (LogEach W v0 log) (LogAll W v0 (insert t log))
        (LogEach W v0 (insert t log)) n s p h c z g me (λ q ne x. others q ne (s.loc q) (s.loc q).point x) in
        record { all = r.0; each = r.1 }
      where
        others : (q : ℕ) → (q ≡ p → ⊥) → (c : Local) (y : Point) → LogEach W v0 log n y h q c → LogEach W v0 (insert t log) (suc n) y h q c
        others q ne c y x = record {
          linked_current = on_map (lines 5 15 y) (λ f e. f (sym (links q ne) ∙ e)) x.linked_current;
          current_linked = on_map (lines 5 15 y) (λ f e r. links q ne ∙ f e r) x.current_linked;
          calls_past = on_map (lines 0 5 y) (mine_other W p q c.start t log of_p ne) x.calls_past;
        }

    -- an SC that fails, or a VL: the object is as it was
    asks : (t : Timed) → t.moment ≡ n → t.call.process ≡ p → tells t fin ≡ t.call.answer → feeds t fin ≡ fin
        → successes fin (t ∷ []) ≡ 0 → (c : Local) → c.point ≡ idle → c.mark ≡ l.mark
        → c.read_version ≡ l.read_version
        → (fin.link p ≡ true → l.read_version ≡ h.successes)
        → (l.mark ≡ true → l.read_version ≡ h.successes → fin.link p ≡ true)
        → Logged (insert t log) (suc n) (quiet s p c)
    asks t now of_p an ef es c ep em er x y =
        let ea : after o (insert t log) ≡ fin = end_after W v0 log n h z.all t now an ∙ ef in
        grown t of_p (append_same W v0 log n h z.all t now an (ap (λ u. u.words) ef) es i.all.won_past) (λ q ne. ap (λ u. u.link q) ea) c
        (rw ep (record {
          linked_current = λ e. er ∙ x (sym (ap (λ u. u.link p) ea) ∙ e);
          current_linked =
              λ e r. ap (λ u. u.link p) ea ∙ y (sym em ∙ e) (sym er ∙ r);
          calls_past = tt;
        }))

    -- a VL tells whether the tag is still the one kept
    log_vl : Few M W n s p → ProcessNumbers M W n vl13 h p l → Each vl13
        → Logged (insert (placed v0 log (vl_effect W (eqb h.tag l.keep) n n p s)) log) (suc n) (quiet s p (rest l))
    log_vl few a b = asks (placed v0 log (vl_effect W (eqb h.tag l.keep) n n p s)) refl refl
        (ap R.Answer.vl_truth (link (eqb h.tag l.keep) refl)) refl refl (rest l) refl refl refl
        b.linked_current b.current_linked
      where
        link : (x : Bool) → eqb h.tag l.keep ≡ x → fin.link p ≡ x
        link true e = b.current_linked a.marked (keep_vl13 M W n h p l i.all few a (eqb-true _ _ e))
        link false e = is_false _ (λ x. eqb-false _ _ e (back_keep M W n h p l i.all vl13 a (b.linked_current x)))

    -- an SC that fails
    log_fails : (fin.link p ≡ true → l.read_version ≡ h.successes)
        → (l.mark ≡ true → l.read_version ≡ h.successes → fin.link p ≡ true)
        → (l.read_version ≡ h.successes → ⊥) → (c : Local) → c.point ≡ idle → c.mark ≡ l.mark
        → c.read_version ≡ l.read_version
        → Logged (insert (placed v0 log (sc_effect W false n n p s)) log) (suc n) (quiet s p c)
    log_fails x y ne c ep em er =
        let f : fin.link p ≡ false = is_false _ (λ e. ne (x e)) in
        asks (placed v0 log (sc_effect W false n n p s)) refl refl (ap R.Answer.sc_truth f)
        (ap (λ b. cond b (fresh (tab W l.offered)) fin) f) (ap (λ b. cond b 1 0 + 0) f) c ep em er x y

    -- an SC that succeeds
    log_succeeds : (e : ℕ) → Few M W n s p → ProcessNumbers M W n sc19 h p l → Each sc19 → eq_pair h.tag h.pid l.old_tag l.old_pid ≡ true
        → Logged (insert (placed v0 log (sc_effect W true n e p s)) log) (suc n)
        (noisy s p (w_header l.new_tag l.new_pid l.offered n h) (set_key n (to sc2 l)))
    log_succeeds e few a b f =
        let t = placed v0 log (sc_effect W true n e p s) in
        let h' = w_header l.new_tag l.new_pid l.offered n h in
        let x : fin.link p ≡ true = b.current_linked a.marked (suc_sc19 M W n h p l i.all few a f) in
        let ef : feeds t fin ≡ fresh (tab W l.offered) = ap (λ b. cond b (fresh (tab W l.offered)) fin) x in
        let an : tells t fin ≡ t.call.answer = ap R.Answer.sc_truth x in
        let ea : after o (insert t log) ≡ fresh (tab W l.offered) = end_after W v0 log n h z.all t refl an ∙ ef in
        let r = frame_to (LogAll W v0 log) (LogEach W v0 log) (LogAll W v0 (insert t log)) (LogEach W v0 (insert t log)) n s p h' (set_key n (to sc2 l)) z
        (append_success W v0 log n h z.all t refl an h' refl refl (ap (λ u. u.words) ef) (ap (λ b. cond b 1 0 + 0) x))
        (record {
          linked_current = λ y. absurd (contra y (ap (λ u. u.link p) ea));
          current_linked =
              λ _ y. absurd (let k = a.read_made in omega arith);
          calls_past = tt;
        })
        (λ q ne x. others q ne (s.loc q) (s.loc q).point ea (i.each q) x) in
        record { all = r.0; each = r.1 }
      where
        others : (q : ℕ) → (q ≡ p → ⊥) → (c : Local) (y : Point)
            → after o (insert (placed v0 log (sc_effect W true n e p s)) log) ≡ fresh (tab W l.offered)
            → ProcessNumbers M W n y h q c → LogEach W v0 log n y h q c
            → LogEach W v0 (insert (placed v0 log (sc_effect W true n e p s)) log) (suc n) y (w_header l.new_tag l.new_pid l.offered n h) q c
        others q ne c y ea d x = record {
          linked_current = on_map (lines 5 15 y) (λ _ e. absurd (contra e (ap (λ u. u.link q) ea))) x.linked_current;
          current_linked = on_map (lines 5 15 y) (λ _ _ r. absurd (let k = d.read_made in omega arith)) x.current_linked;
          calls_past = on_map (lines 0 5 y) (mine_other W p q c.start (placed v0 log (sc_effect W true n e p s)) log refl ne) x.calls_past;
        }

    -- line 7
    abbrev seen : Local
    seen = set_h h.tag h.pid l

    -- a WLL that answers words
    log_words : Few M W n s p → W ≤ suc k → ProcessNumbers M W n ll7 h p l → ProcessContents M W n ll7 h p l
        → eq_pair h.tag h.pid l.x_tag l.x_pid ≡ true
        → Logged (insert (placed v0 log (ll_effect W (words (tab W (upd l.returned k l.y_val))) n n p s)) log)
        (suc n) (quiet s p (rest_lL false (set_returned k l.y_val seen)))
    log_words few full a m f =
        let t = placed v0 log (ll_effect W (words (tab W (upd l.returned k l.y_val))) n n p s) in
        let r = same_ll7 M W n h p l i.all few a f in
        let an : tells t fin ≡ t.call.answer =
        ap R.Answer.ll_words (z.all.words ∙ sym
        (tab_ext W _ _ (answers_value M W n h p l h_w i.all j.all few full r m))) in
        let ea : after o (insert t log) ≡ feeds t fin = end_after W v0 log n h z.all t refl an in
        let own : (after o (insert t log)).link p ≡ true = ap (λ u. u.link p) ea ∙ ifb_eq p p true (fin.link p) refl in
        grown t refl (append_same W v0 log n h z.all t refl an refl refl i.all.won_past)
        (λ q ne. ap (λ u. u.link q) ea ∙ ifb_ne q p true (fin.link q) ne)
        (rest_lL false (set_returned k l.y_val seen))
        (record { linked_current = λ _. r; current_linked = λ _ _. own; calls_past = tt })

    -- a WLL that names a process: a success came since its line 10
    log_names : ProcessNumbers M W n ll7 h p l → Each ll7 → eq_pair h.tag h.pid l.x_tag l.x_pid ≡ false
        → Logged (insert (placed v0 log (ll_effect W (names h.pid) l.key n p s)) log) (suc n) (quiet s p (rest_lL true seen))
    log_names a b f =
        let t = placed v0 log (ll_effect W (names h.pid) l.key n p s) in
        let ne : l.read_version ≡ h.successes → ⊥ = λ r. contra (back_ll7 M W n h p l i.all a r) f in
        let won : l.key < h.won_at = a.ll_before_win (let y = a.read_made in omega (arith, ne)) in
        let own = insert_own W v0 log n h z.all p t refl refl refl l.start a.ll_in_call b.calls_past a.key_past won in
        grown t refl (insert_all W v0 log n h z.all p t refl refl refl l.start a.ll_in_call b.calls_past a.key_past won)
        (insert_others W v0 log n h z.all p t refl refl refl l.start a.ll_in_call b.calls_past a.key_past won) (rest_lL true seen)
        (record { linked_current = λ y. absurd (contra y own); current_linked = λ _ r. absurd (ne r); calls_past = tt })

    log_at : (y : Point) (e : ℕ) → (busy y ≡ true → Few M W n s p) → ProcessNumbers M W n y h p l → ProcessContents M W n y h p l → Each y
        → Logged (sort_into (fill_all v0 (effect_at W y n e p s) log) log) (suc n) (step_at M W y n p s)
    unfolding step_at
    log_at idle e few a m b = record { all = log_later W v0 log n h z.all; each = λ q. go q (z.each q) }
      where
        go : (q : ℕ) → LogEach W v0 log n (s.loc q).point h q (s.loc q) → LogEach W v0 log (suc n) (s.loc q).point h q (s.loc q)
        go q x = record { linked_current = x.linked_current; current_linked = x.current_linked; calls_past = x.calls_past }
    log_at ll10 e few a m b = q! _ search
    log_at ll2 e few a m b =
        by_test (Logged log (suc n)) (eqb (h.seg_tag k) (prev M l.x_tag)) (λ f. q! _ search) (λ f. q! _ search)
    log_at ll4 e few a m b = q! _ search
    log_at ll5 e few a m b =
        by_test (Logged log (suc n)) (eq_pair (h.seg_tag k) (h.seg_val k) l.y_tag l.y_val)
        (λ f. still (w_seg k l.z_tag l.z_val h) refl refl refl _ search) (λ f. q! _ search)
    log_at ll6 e few a m b = q! _ search
    log_at ll7 e few a m b =
        by_test₂ (λ u es. Logged (sort_into (fill_all v0 es log) log) (suc n) u) (eq_pair h.tag h.pid l.x_tag l.x_pid)
        (λ f. by_test₂ (λ u es. Logged (sort_into (fill_all v0 es log) log) (suc n) u) (ltb (suc k) W)
        (λ d. q! _ search) (λ d. log_words (few refl) (ltb-false _ _ d) a m f))
        (λ f. log_names a b f)
    log_at sc14 e few a m b =
        by_test₂ (λ u es. Logged (sort_into (fill_all v0 es log) log) (suc n) u) (eqb h.tag l.keep)
        (λ f. q! _ search) (λ f. log_fails b.linked_current b.current_linked
        (λ r. eqb-false _ _ f (back_keep M W n h p l i.all sc14 a r)) _ refl refl refl)
    log_at sc17 e few a m b =
        by_test (Logged log (suc n)) (ltb (suc k) W)
        (λ f. still (w_row p k (l.offered k) h) refl refl refl _ search)
        (λ f. still (w_row p k (l.offered k) h) refl refl refl _ search)
    log_at sc19 e few a m b =
        by_test₂ (λ u es. Logged (sort_into (fill_all v0 es log) log) (suc n) u)
        (eq_pair h.tag h.pid l.old_tag l.old_pid) (λ f. log_succeeds e (few refl) a b f)
        (λ f. log_fails b.linked_current b.current_linked
        (λ r. contra (back_sc19 M W n h p l i.all a r) f) _ refl refl refl)
    log_at sc2 e few a m b =
        by_test (Logged log (suc n)) (eqb (h.seg_tag k) (prev M l.new_tag)) (λ f. q! _ search) (λ f. q! _ search)
    log_at sc4 e few a m b = q! _ search
    log_at sc5 e few a m b =
        by_test (Logged log (suc n)) (eq_pair (h.seg_tag k) (h.seg_val k) l.y_tag l.y_val)
        (λ f. still (w_seg k l.z_tag l.z_val h) refl refl refl _ search) (λ f. q! _ search)
    log_at sc6 e few a m b = q! _ search
    log_at sc7 e few a m b =
        by_test (Logged log (suc n)) (eq_pair h.tag h.pid l.new_tag l.new_pid)
        (λ f. by_test (Logged log (suc n)) (ltb (suc k) W) (λ d. q! _ search) (λ d. q! _ search))
        (λ f. q! _ search)
    log_at vl13 e few a m b = log_vl (few refl) a b

    pub step_log : (e : ℕ) → (busy l.point ≡ true → Bounded M W n p s)
        → Logged (sort_into (fill_all v0 (effect_at W l.point n e p s) log) log) (suc n) (step M W n p s)
    unfolding step
    step_log e few = log_at l.point e (λ b. bound_before M W n s p (few b)) (i.each p) (j.each p) (z.each p)
