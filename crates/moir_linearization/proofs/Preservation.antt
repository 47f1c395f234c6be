-- Every step keeps the invariants: the numbers always, the contents within the bound.
use mathlib.Core.Path.{◌≡◌, refl, sym, ap, ◌∙◌}
use mathlib.Core.Bool.{true}
use Prim.Native.Nat.{ℕ, suc, ◌%◌, ◌<◌}
use native.Mathlib.Nat.{suc-mod}
use lib.Dec.{ltb, eqb}
use borrow.Author.Tests.{ltb-true, ltb-false, eqb-true, eqb-false}
use Rattle.laws.proofs.Updates.{by_test, contra}
use Rattle.moir_model.specs.Points.{Point, idle, ll10, ll2, ll4, ll5, ll6, ll7, sc14, sc17, sc19, sc2, sc4, sc5, sc6, sc7, vl13}
use Rattle.moir_linearization.proofs.PointRanges.{busy}
use Rattle.moir_linearization.proofs.GhostMachine.{Local, Shared, State, quiet, noisy, step, step_at, prev, eq_pair, w_seg}
use Rattle.moir_linearization.proofs.GhostMachine.{w_row, w_header, Bounded}
use Rattle.moir_linearization.proofs.StepShape.{Few, bound_before}
use Rattle.moir_linearization.proofs.Frame.{frame}
use Rattle.moir_linearization.proofs.Numbers.{ProcessNumbers, SharedNumbers, Numbers, numbers_later, numbers_later_all}
use Rattle.moir_linearization.proofs.NumberSteps.{n_ll10, n_ll2, n_ll2', n_ll4, n_ll5, n_ll6, n_ll7, n_ll7_words, n_ll7_names, n_sc14, n_sc14'}
use Rattle.moir_linearization.proofs.NumberSteps.{n_sc17, n_sc17', n_sc19, n_sc19', n_sc2, n_sc2', n_sc4, n_sc5, n_sc6, n_sc7, n_sc7', n_vl13}
use Rattle.moir_linearization.proofs.NumberSteps.{n_seg, n_seg_all, n_row, n_row_all, n_header, n_header_all}
use Rattle.moir_linearization.proofs.Contents.{contents_later, contents_later_all, ProcessContents, SharedContents, Contents, Right}
use Rattle.moir_linearization.proofs.ContentSteps.{c_ll10, c_ll2, c_ll2', c_ll4, c_ll5', c_ll6, c_ll7, c_ll7_words, c_ll7_names, c_sc14}
use Rattle.moir_linearization.proofs.ContentSteps.{c_sc14', c_sc19', c_sc2, c_sc2', c_sc4, c_sc5', c_sc6, c_sc7, c_sc7', c_vl13}
use Rattle.moir_linearization.proofs.ContentWrites.{c_seg, c_seg_all, c_ll5, c_sc5, c_row, c_row_all, c_sc17, c_sc17', c_sc19, c_header, c_header_all}
use Rattle.moir_linearization.proofs.TagLemmas.{same_get, back_ll7, suc_sc19, cas_ll5, cas_sc5, two}

module _ (M W n : ℕ) (h_w : 0 < W) (s : State) (p : ℕ) where
  abbrev l : Local
  l = s.loc p

  abbrev h : Shared
  h = s.sh

  abbrev k : ℕ
  k = l.word

  module _ (i : Numbers M W n s) where
    abbrev gn : SharedNumbers M W n h
    gn = i.all

    -- a quiet step, from p's own facts after it
    q! : (c : Local) → ProcessNumbers M W (suc n) c.point h p c → Numbers M W (suc n) (quiet s p c)
    q! c me = frame (SharedNumbers M W) (ProcessNumbers M W) n s p h c i (numbers_later_all M W n h gn) me (λ q ne a. numbers_later M W n _ h q _ a)

    -- the writes
    seg! : (t v : ℕ) (c : Local) → ProcessNumbers M W (suc n) c.point h p c → Numbers M W (suc n) (noisy s p (w_seg k t v h) c)
    seg! t v c me =
        frame (SharedNumbers M W) (ProcessNumbers M W) n s p (w_seg k t v h) c i
        (n_seg_all M W (suc n) h k t v (numbers_later_all M W n h gn)) (n_seg M W (suc n) h k t v _ p c me)
        (λ q ne a. n_seg M W (suc n) h k t v _ q _ (numbers_later M W n _ h q _ a))

    row! : (v : ℕ) (c : Local) → ProcessNumbers M W (suc n) c.point (w_row p k v h) p c → Numbers M W (suc n) (noisy s p (w_row p k v h) c)
    row! v c me =
        frame (SharedNumbers M W) (ProcessNumbers M W) n s p (w_row p k v h) c i (n_row_all M W (suc n) h p k v (numbers_later_all M W n h gn)) me
        (λ q ne a. n_row M W (suc n) h p k v _ q _ ne (numbers_later M W n _ h q _ a))

    numbers_at : (y : Point) → ProcessNumbers M W n y h p l → Numbers M W (suc n) (step_at M W y n p s)
    unfolding step_at
    numbers_at idle a = record { all = numbers_later_all M W n h gn; each = λ q. numbers_later M W n _ h q _ (i.each q) }
    numbers_at ll10 a = q! _ (n_ll10 M W n h p l h_w gn a)
    numbers_at ll2 a =
        by_test (Numbers M W (suc n)) (eqb (h.seg_tag k) (prev M l.x_tag))
        (λ e. q! _ (n_ll2 M W n h p l h_w gn _ _ (eqb-true _ _ e) a)) (λ e. q! _ (n_ll2' M W n h p l h_w gn _ _ a))
    numbers_at ll4 a = q! _ (n_ll4 M W n h p l h_w gn _ _ a)
    numbers_at ll5 a =
        by_test (Numbers M W (suc n)) (eq_pair (h.seg_tag k) (h.seg_val k) l.y_tag l.y_val)
        (λ e. seg! _ _ _ (n_ll5 M W n h p l h_w gn a)) (λ e. q! _ (n_ll5 M W n h p l h_w gn a))
    numbers_at ll6 a = q! _ (n_ll6 M W n h p l h_w gn _ _ a)
    numbers_at ll7 a =
        by_test (Numbers M W (suc n)) (eq_pair h.tag h.pid l.x_tag l.x_pid)
        (λ e. by_test (Numbers M W (suc n)) (ltb (suc k) W)
        (λ f. q! _ (n_ll7 M W n h p l h_w gn _ _ (ltb-true _ _ f) a))
        (λ f. q! _ (n_ll7_words M W n h p l h_w gn _ _ a)))
        (λ e. q! _ (n_ll7_names M W n h p l h_w gn (λ r. contra (back_ll7 M W n h p l gn a r) e) a))
    numbers_at sc14 a =
        by_test (Numbers M W (suc n)) (eqb h.tag l.keep)
        (λ e. q! _ (n_sc14 M W n h p l h_w gn (eqb-true _ _ e) a)) (λ e. q! _ (n_sc14' M W n h p l h_w gn _ _ a))
    numbers_at sc17 a =
        by_test (Numbers M W (suc n)) (ltb (suc k) W) (λ e. row! _ _ (n_sc17 M W n h p l h_w gn (ltb-true _ _ e) a))
        (λ e. row! _ _ (n_sc17' M W n h p l h_w gn (ltb-false _ _ e) a))
    numbers_at sc19 a =
        by_test (Numbers M W (suc n)) (eq_pair h.tag h.pid l.old_tag l.old_pid)
        (λ e.
        let t : l.new_tag ≡ suc h.successes % M =
        a.new_tag_is ∙ suc-mod l.read_version M
        ∙ ap (λ t. suc t % M) (sym a.old_tag_is ∙ sym (same_get h.tag h.pid l.old_tag l.old_pid e).0
        ∙ gn.header_tag) ∙ sym (suc-mod h.successes M) in
        frame (SharedNumbers M W) (ProcessNumbers M W) n s p (w_header l.new_tag l.new_pid l.offered n h) _ i
        (n_header_all M W n h _ _ _ t gn) (n_sc19 M W n h p l h_w gn a) (λ q ne b. n_header M W n h _ _ _ _ q _ b))
        (λ e. q! _ (n_sc19' M W n h p l h_w gn a))
    numbers_at sc2 a =
        by_test (Numbers M W (suc n)) (eqb (h.seg_tag k) (prev M l.new_tag))
        (λ e. q! _ (n_sc2 M W n h p l h_w gn _ _ (eqb-true _ _ e) a)) (λ e. q! _ (n_sc2' M W n h p l h_w gn _ _ a))
    numbers_at sc4 a = q! _ (n_sc4 M W n h p l h_w gn _ _ a)
    numbers_at sc5 a =
        by_test (Numbers M W (suc n)) (eq_pair (h.seg_tag k) (h.seg_val k) l.y_tag l.y_val)
        (λ e. seg! _ _ _ (n_sc5 M W n h p l h_w gn a)) (λ e. q! _ (n_sc5 M W n h p l h_w gn a))
    numbers_at sc6 a = q! _ (n_sc6 M W n h p l h_w gn _ _ a)
    numbers_at sc7 a =
        by_test (Numbers M W (suc n)) (eq_pair h.tag h.pid l.new_tag l.new_pid)
        (λ e. by_test (Numbers M W (suc n)) (ltb (suc k) W) (λ f. q! _ (n_sc7 M W n h p l h_w gn (ltb-true _ _ f) a)) (λ f. q! _ (n_sc7' M W n h p l h_w gn a)))
        (λ e. q! _ (n_sc7' M W n h p l h_w gn a))
    numbers_at vl13 a = q! _ (n_vl13 M W n h p l h_w gn a)

    pub step_numbers : Numbers M W (suc n) (step M W n p s)
    unfolding step
    step_numbers = numbers_at l.point (i.each p)

    module _ (j : Contents M W n s) where
      abbrev gc : SharedContents M W n h
      gc = j.all

      c! : (c : Local) → ProcessContents M W (suc n) c.point h p c → Contents M W (suc n) (quiet s p c)
      c! c me = frame (SharedContents M W) (ProcessContents M W) n s p h c j (contents_later_all M W n h gc) me (λ q ne a. contents_later M W n _ h q _ a)

      cas! : (t v : ℕ) (c : Local) → Right h k t v → ProcessContents M W (suc n) c.point (w_seg k t v h) p c
          → Contents M W (suc n) (noisy s p (w_seg k t v h) c)
      cas! t v c r me =
          frame (SharedContents M W) (ProcessContents M W) n s p (w_seg k t v h) c j (contents_later_all M W n _ (c_seg_all M W n h k t v r gc)) me
          (λ q ne a. contents_later M W n _ _ q _ (c_seg M W n h k t v r _ q _ a))

      word! : (v : ℕ) (c : Local) → ProcessContents M W n sc17 h p l → ProcessContents M W (suc n) c.point
          (w_row p k v h) p c → Contents M W (suc n) (noisy s p (w_row p k v h) c)
      word! v c m me =
          frame (SharedContents M W) (ProcessContents M W) n s p (w_row p k v h) c j (contents_later_all M W n _ (c_row_all M W n h p k v l m gc)) me
          (λ q ne a. contents_later M W n _ _ q _ (c_row M W n h p k v _ q _ a))

      contents_at : (y : Point) → (busy y ≡ true → Few M W n s p) → ProcessNumbers M W n y h p l
          → ProcessContents M W n y h p l → Contents M W (suc n) (step_at M W y n p s)
      unfolding step_at
      contents_at idle few a m = record { all = contents_later_all M W n h gc; each = λ q. contents_later M W n _ h q _ (j.each q) }
      contents_at ll10 few a m = c! _ (c_ll10 M W n h p l h_w gn gc (few refl) a m)
      contents_at ll2 few a m =
          by_test (Contents M W (suc n)) (eqb (h.seg_tag k) (prev M l.x_tag))
          (λ e. c! _ (c_ll2 M W n h p l h_w gn gc (few refl) a m))
          (λ e. c! _ (c_ll2' M W n h p l h_w gn gc (few refl) (eqb-false _ _ e) a m))
      contents_at ll4 few a m = c! _ (c_ll4 M W n h p l h_w gn gc (few refl) a m)
      contents_at ll5 few a m =
          by_test (Contents M W (suc n)) (eq_pair (h.seg_tag k) (h.seg_val k) l.y_tag l.y_val)
          (λ e.
          let z = cas_ll5 M W n h p l gn (few refl) a (h.seg_tag k)
          (same_get (h.seg_tag k) (h.seg_val k) l.y_tag l.y_val e).0 (gc.seg_tag_is k a.in_ll) in
          let r = m.z_ll z.0 z.1 in cas! _ _ _ r (c_ll5 M W n h k _ _ r p l refl m))
          (λ e. c! _ (c_ll5' M W n h p l h_w gn gc (few refl) e a m))
      contents_at ll6 few a m = c! _ (c_ll6 M W n h p l h_w gn gc (few refl) a m)
      contents_at ll7 few a m =
          by_test (Contents M W (suc n)) (eq_pair h.tag h.pid l.x_tag l.x_pid)
          (λ e. by_test (Contents M W (suc n)) (ltb (suc k) W)
          (λ f. c! _ (c_ll7 M W n h p l h_w gn gc (few refl) (ltb-true _ _ f) a m))
          (λ f. c! _ (c_ll7_words M W n h p l h_w gn gc (few refl) (ltb-false _ _ f) a m)))
          (λ e. c! _ (c_ll7_names M W n h p l h_w gn gc (few refl) (λ r. contra (back_ll7 M W n h p l gn a r) e) a m))
      contents_at sc14 few a m =
          by_test (Contents M W (suc n)) (eqb h.tag l.keep)
          (λ e. c! _ (c_sc14 M W n h p l h_w gn gc (few refl) (eqb-true _ _ e) a m))
          (λ e. c! _ (c_sc14' M W n h p l h_w gn gc (few refl) _ _ m))
      contents_at sc17 few a m =
          by_test (Contents M W (suc n)) (ltb (suc k) W) (λ e. word! _ _ m (c_sc17 M W n h p k _ l _ m)) (λ e. word! _ _ m (c_sc17' M W n h p k _ l _ _ m))
      contents_at sc19 few a m =
          by_test (Contents M W (suc n)) (eq_pair h.tag h.pid l.old_tag l.old_pid)
          (λ e.
          let r = suc_sc19 M W n h p l gn (few refl) a e in let t = two M W n h p l gn (few refl) a.begun_made in
          frame (SharedContents M W) (ProcessContents M W) n s p
          (w_header l.new_tag l.new_pid l.offered n h) _ j (c_header_all M W n h p l t gn a r m gc)
          (c_sc19 M W n h p l t gn a r m)
          (λ q ne b. c_header M W n h p l t gn a r _ q _ ne (i.each q) b))
          (λ e. c! _ (c_sc19' M W n h p l h_w gn gc (few refl) m))
      contents_at sc2 few a m =
          by_test (Contents M W (suc n)) (eqb (h.seg_tag k) (prev M l.new_tag))
          (λ e. c! _ (c_sc2 M W n h p l h_w gn gc (few refl) _ _ m))
          (λ e. c! _ (c_sc2' M W n h p l h_w gn gc (few refl) _ _ m))
      contents_at sc4 few a m = c! _ (c_sc4 M W n h p l h_w gn gc (few refl) a m)
      contents_at sc5 few a m =
          by_test (Contents M W (suc n)) (eq_pair (h.seg_tag k) (h.seg_val k) l.y_tag l.y_val)
          (λ e.
          let z = cas_sc5 M W n h p l gn (few refl) a (h.seg_tag k)
          (same_get (h.seg_tag k) (h.seg_val k) l.y_tag l.y_val e).0 (gc.seg_tag_is k a.in_copy) in
          let r = m.z_sc z.0 z.1 in cas! _ _ _ r (c_sc5 M W n h k _ _ r p l m))
          (λ e. c! _ (c_sc5' M W n h p l h_w gn gc (few refl) m))
      contents_at sc6 few a m = c! _ (c_sc6 M W n h p l h_w gn gc (few refl) _ _ m)
      contents_at sc7 few a m =
          by_test (Contents M W (suc n)) (eq_pair h.tag h.pid l.new_tag l.new_pid)
          (λ e. by_test (Contents M W (suc n)) (ltb (suc k) W)
          (λ f. c! _ (c_sc7 M W n h p l h_w gn gc (few refl) _ m))
          (λ f. c! _ (c_sc7' M W n h p l h_w gn gc (few refl) m)))
          (λ e. c! _ (c_sc7' M W n h p l h_w gn gc (few refl) m))
      contents_at vl13 few a m = c! _ (c_vl13 M W n h p l h_w gn gc (few refl) m)

      pub step_contents : (busy l.point ≡ true → Bounded M W n p s) → Contents M W (suc n) (step M W n p s)
      unfolding step
      step_contents b = contents_at l.point (λ e. bound_before M W n s p (b e)) (i.each p) (j.each p)
