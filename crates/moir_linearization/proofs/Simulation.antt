-- A step on lent memory follows a step of the machine with its ghosts: a clause for each point.
use mathlib.Core.Path.{◌≡◌, refl, sym, ap, ap₂, subst, ◌∙◌}
use mathlib.Core.Bool.{Bool, true, false, cond}
use mathlib.Core.List.{List, []}
use Prim.Native.Nat.{ℕ, suc, ◌+◌, ◌*◌, ◌≤◌, ◌<◌}
use native.Mathlib.Nat.{mul-le-mul_right}
use native.Mathlib.Numerals.{add-one}
use native.Mathlib.Omega.{arith}
use lib.Dec.{ltb, eqb}
use lib.ListN.{length, get_or, set, take, drop, length-set}
use lib.Seq.{get_or-set_same, get_or-set_other, set-get_or}
use Rattle.llsc.specs.declared.ProcessNumber.{ProcessNumber}
use Rattle.laws.proofs.Updates.{upd, upd_same, upd_other, Split, same, other, split, by_test₂, contra}
use Rattle.laws.proofs.ListFacts.{cut_tab}
use Rattle.laws.proofs.Parts.{tab, tab_ext}
use Rattle.moir_model.specs.declared.Header.{Header}
use Rattle.moir_model.specs.declared.Segment.{Segment}
use Rattle.moir_model.specs.declared.Bench.{Bench}
use Rattle.moir_model.specs.declared.Process.{Process}
use Rattle.moir_model.specs.declared.Reply.{Reply}
use Rattle.moir_model.specs.declared.Reply.TheVariants.{Accepted}
use Rattle.moir_model.specs.declared.LineStep.{LineStep}
use Rattle.moir_model.specs.declared.Moved.{Moved}
use Rattle.moir_model.specs.Tags.{tag_values}
use Rattle.moir_model.specs.Points.{Point, idle, ll10, ll2, ll4, ll5, ll6, ll7, sc14, sc17, sc19, sc2, sc4, sc5, sc6, sc7, vl13}
use Rattle.moir_model.specs.Words.{put_tag, put_value, put_header}
use Rattle.moir_model.specs.Machine as L
use Rattle.llsc.specs.Answers.{answered}
use Rattle.moir_model.specs.Replies.{words, says}
use Rattle.moir_linearization.specs.Linearizable.{Served}
use Rattle.moir_linearization.proofs.PointRanges.{busy}
use Rattle.moir_linearization.proofs.GhostMachine as G
use Rattle.moir_linearization.proofs.GhostMachine.{Local, Shared, State, quiet, noisy, prev, eq_pair, w_seg, w_row, w_header}
use Rattle.moir_linearization.proofs.GhostHistories.{answer_at}
use Rattle.moir_linearization.proofs.GhostEvents.{said_by}
use Rattle.moir_linearization.proofs.Numbers.{ProcessNumbers}
use Rattle.moir_linearization.proofs.Ranges.{LowNumbers}
use Rattle.moir_linearization.proofs.Relation.{header_of, record_of, WordsLike, BenchLike, words_same, words_val, words_row, words_return}

by_test₃ : {A B C : Type 0} (P : A → B → C → Type 0) (b : Bool) {x y : A} {u v : B} {r t : C} → (b ≡ true → P x u r)
    → (b ≡ false → P y v t) → P (cond b x y) (cond b u v) (cond b r t)
by_test₃ P true f g = f refl
by_test₃ P false f g = g refl

by_test₄ : {A B C D : Type 0} (P : A → B → C → D → Type 0) (b : Bool) {x y : A} {u v : B} {r t : C} {i j : D}
    → (b ≡ true → P x u r i) → (b ≡ false → P y v t j) → P (cond b x y) (cond b u v) (cond b r t) (cond b i j)
by_test₄ P true f g = f refl
by_test₄ P false f g = g refl

module _ (N W n : ℕ) (ts ws : List ℕ) (rs : List Process) (s : State) (p : ℕ) (hp : p < N) (len : W ≤ length ts)
    (tags : (k : ℕ) → k < W → get_or ts k 0 ≡ s.sh.seg_tag k)
    (r : WordsLike N W ws s.sh.rows s.sh.seg_val (λ q. (s.loc q).returned) (λ q. (s.loc q).offered)) where
  abbrev l : Local
  l = s.loc p

  abbrev h : Shared
  h = s.sh

  abbrev k : ℕ
  k = l.word

  abbrev me : ProcessNumber
  me = record { 0 = p }

  abbrev pub b : Bench
  b = record { n = N; w = W; header = header_of h.tag h.pid; tags = ts }

  -- what the step leaves and says, against the machine after it and the calls that it answers
  pub record Made (o : Moved × List ℕ) (cs : List Served) (u : State) : Type 0 where
    pub bench : BenchLike N W o.0.bench u.sh
    pub words : WordsLike N W o.1 u.sh.rows u.sh.seg_val (λ q. (u.loc q).returned) (λ q. (u.loc q).offered)
    pub process : o.0.process ≡ record_of (u.loc p)
    pub said : says (record { bench = o.0.bench; records = rs; words = o.1 }) me o.0.reply ≡ said_by cs (l.count + 1)

  field : {A : Type 0} (F : Local → A) (c : Local) → F c ≡ F l → (q : ℕ) → F (upd s.loc p c q) ≡ F (s.loc q)
  field F c e q = go (split q p)
    where
      go : Split q p → F (upd s.loc p c q) ≡ F (s.loc q)
      go (same z) = rw z (ap F (upd_same s.loc p c) ∙ e)
      go (other ne) = ap F (upd_other s.loc p q c ne)

  own : (c : Local) → record_of c ≡ record_of (upd s.loc p c p)
  own c = sym (ap record_of (upd_same s.loc p c))

  like : (b' : Bench) (h' : Shared) → b'.n ≡ N → b'.w ≡ W → b'.header ≡ header_of h'.tag h'.pid
      → b'.tags ≡ ts → h'.seg_tag ≡ h.seg_tag → BenchLike N W b' h'
  like b' h' en ew eh et es = record { n = en; w = ew; header = eh; tags_length = rw et len; tags = λ j hj. rw (et, es) (tags j hj) }

  -- a step that writes no word of p's areas
  put : (b' : Bench) (ws' : List ℕ) (q' : Process) (a : Reply) (cs : List Served) (h' : Shared) (c : Local)
      → BenchLike N W b' h' → WordsLike N W ws' h'.rows h'.seg_val (λ q. (s.loc q).returned)
      (λ q. (s.loc q).offered)
      → c.returned ≡ l.returned → c.offered ≡ l.offered → q' ≡ record_of c
      → says (record { bench = b'; records = rs; words = ws' }) me a ≡ said_by cs (l.count + 1)
      → Made (record { bench = b'; process = q'; reply = a }, ws') cs (noisy s p h' c)
  put b' ws' q' a cs h' c bl wl er eo eq es = record {
    bench = bl;
    words = words_same N W ws' h'.rows h'.seg_val _ _ wl _ _ (field (λ (m : Local). m.returned) c er) (field (λ (m : Local). m.offered) c eo);
    process = eq ∙ own c;
    said = es;
  }

  -- nothing shared, no words
  q! : (q' : Process) (a : Reply) (cs : List Served) (c : Local) → c.returned ≡ l.returned → c.offered ≡ l.offered → q' ≡ record_of c
      → says (record { bench = b; records = rs; words = ws }) me a ≡ said_by cs (l.count + 1)
      → Made (record { bench = b; process = q'; reply = a }, ws) cs (quiet s p c)
  q! q' a cs c er eo eq es = put b ws q' a cs h c (like b h refl refl refl refl refl) r er eo eq es

  -- a segment's CAS, done and not done
  abbrev left : Process → Segment → Moved × List ℕ
  left q' g = (record { bench = put_tag b k g.tag; process = q'; reply = Accepted }, put_value b ws k g.val)

  seg! : (q' : Process) (c : Local) → k < W → c.returned ≡ l.returned → c.offered ≡ l.offered → q' ≡ record_of c
      → Made (left q' (record { tag = l.z_tag; val = l.z_val })) [] (noisy s p (w_seg k l.z_tag l.z_val h) c)
  seg! q' c hk er eo eq =
      put _ _ q' Accepted [] (w_seg k l.z_tag l.z_val h) c
      (record { n = refl; w = refl; header = refl; tags_length = let z = length-set ts k l.z_tag in omega arith; tags = λ j hj. go j hj (split j k) })
      (words_val N W ws _ _ _ _ r k l.z_val hk) er eo eq refl
    where
      go : (j : ℕ) → j < W → Split j k → get_or (set ts k l.z_tag) j 0 ≡ upd h.seg_tag k l.z_tag j
      go j hj (same z) = rw z (get_or-set_same ts k l.z_tag 0 (omega arith) ∙ sym (upd_same h.seg_tag k l.z_tag))
      go j hj (other ne) = get_or-set_other ts k j l.z_tag 0 ne ∙ tags j hj ∙ sym (upd_other h.seg_tag k j l.z_tag ne)

  stay! : (q' : Process) (c : Local) → k < W → c.returned ≡ l.returned → c.offered ≡ l.offered → q' ≡ record_of c
      → Made (left q' (record { tag = h.seg_tag k; val = h.seg_val k })) [] (quiet s p c)
  stay! q' c hk er eo eq =
      let e : Made (left q' (record { tag = get_or ts k 0; val = get_or ws (N * W + k) 0 })) [] (quiet s p c) =
      rw (set-get_or ts k 0, set-get_or ws (N * W + k) 0) (q! q' Accepted [] c er eo eq refl) in
      subst (λ (g : Segment). Made (left q' g) [] (quiet s p c)) (ap₂ (λ t v. record { tag = t; val = v }) (tags k hk) (r.val k hk)) e

  -- line 5, by whether it is done
  cas! : (q' : Process) (c : Local) → k < W → c.returned ≡ l.returned → c.offered ≡ l.offered → q' ≡ record_of c
      → Made (left q' (cond (eq_pair (h.seg_tag k) (h.seg_val k) l.y_tag l.y_val)
      (record { tag = l.z_tag; val = l.z_val }) (record { tag = h.seg_tag k; val = h.seg_val k }))) []
      (cond (eq_pair (h.seg_tag k) (h.seg_val k) l.y_tag l.y_val) (noisy s p (w_seg k l.z_tag l.z_val h) c) (quiet s p c))
  cas! q' c hk er eo eq = by_test₂ (λ g u. Made (left q' g) [] u)
      (eq_pair (h.seg_tag k) (h.seg_val k) l.y_tag l.y_val) (λ _. seg! q' c hk er eo eq)
      (λ _. stay! q' c hk er eo eq)

  -- a word of A
  row! : (v : ℕ) (q' : Process) (c : Local) → k < W → c.returned ≡ l.returned → c.offered ≡ l.offered
      → q' ≡ record_of c → Made (record { bench = b; process = q'; reply = Accepted }, set ws (p * W + k) v) []
      (noisy s p (w_row p k v h) c)
  row! v q' c hk er eo eq = put b _ q' Accepted [] (w_row p k v h) c (like b (w_row p k v h) refl refl refl refl refl)
      (words_row N W ws _ _ _ _ r p k v hp hk) er eo eq refl

  -- a word of p's return area
  abbrev ws7 : List ℕ
  ws7 = set ws ((N + 1 + p) * W + k) l.y_val

  ret! : (q' : Process) (a : Reply) (cs : List Served) (c : Local) → k < W
      → c.returned ≡ upd l.returned k l.y_val → c.offered ≡ l.offered → q' ≡ record_of c
      → says (record { bench = b; records = rs; words = ws7 }) me a ≡ said_by cs (l.count + 1)
      → Made (record { bench = b; process = q'; reply = a }, ws7) cs (quiet s p c)
  ret! q' a cs c hk er eo eq es = record {
    bench = like b h refl refl refl refl refl;
    words =
        words_return N W ws _ _ _ _ r _ _ p k l.y_val hp hk
        (ap (λ (m : Local). m.returned) (upd_same s.loc p c) ∙ er)
        (λ q ne. ap (λ (m : Local). m.returned) (upd_other s.loc p q c ne))
        (field (λ (m : Local). m.offered) c eo);
    process = eq ∙ own c;
    said = es;
  }

  -- the words of a WLL's answer
  area : k < W → take W (drop ((N + 1 + p) * W + 0) ws7) ≡ tab W (upd l.returned k l.y_val)
  area hk =
      let z = words_return N W ws _ _ _ _ r (upd (λ q. (s.loc q).returned) p (upd l.returned k l.y_val)) _ p k
      l.y_val hp hk (upd_same _ p _) (λ q ne. upd_other _ p q _ ne) (λ q. refl) in
      let y : suc (N + 1 + p) * W ≤ (3 * N + 1) * W = mul-le-mul_right W (omega arith) in
      cut_tab W ((N + 1 + p) * W + 0) ws7 (let x = z.len in omega arith)
      ∙ tab_ext W _ _ (λ j hj. ap (λ i. get_or ws7 i 0)
      (let e : (N + 1 + p) * W + 0 + j ≡ (N + 1 + p) * W + j = omega arith in e) ∙ z.returned p j hp hj
      ∙ ap (λ f. f j) (upd_same (λ q. (s.loc q).returned) p (upd l.returned k l.y_val)))

  -- what a step leaves that changes neither tags nor words
  abbrev out : Header → List ℕ → LineStep → Moved × List ℕ
  out g ws' a = (record { bench = put_header b g; process = a.process; reply = a.reply }, ws')

  pub sim : (y : Point) → busy y ≡ true → ProcessNumbers tag_values W n y h p l → LowNumbers N l
      → Made (L.step_at y me b (record_of l) ws) (answer_at W y n p s) (G.step_at tag_values W y n p s)
  unfolding L.step_at G.step_at prev
  sim idle bz a low = absurd (contra bz refl)
  sim ll10 bz a low = q! _ _ [] _ refl refl refl refl
  sim ll2 bz a low =
      rw (tags k a.in_ll, r.val k a.in_ll)
      (by_test₂ (λ q u. Made (record { bench = b; process = q; reply = Accepted }, ws) [] u)
      (eqb (h.seg_tag k) (prev tag_values l.x_tag)) (λ _. q! _ _ [] _ refl refl refl refl)
      (λ _. q! _ _ [] _ refl refl refl refl))
  sim ll4 bz a low = rw (r.row l.x_pid k low.x_low a.in_ll) (q! _ _ [] _ refl refl refl refl)
  sim ll5 bz a low = rw (tags k a.in_ll, r.val k a.in_ll) (cas! _ _ a.in_ll refl refl refl)
  sim ll6 bz a low = rw (tags k a.in_ll, r.val k a.in_ll) (q! _ _ [] _ refl refl refl refl)
  sim ll7 bz a low =
      rw (add-one k)
      (by_test₄ (λ ws' o cs u. Made (out (header_of h.tag h.pid) ws' o) cs u) (eq_pair h.tag h.pid l.x_tag l.x_pid)
      (λ _. by_test₃ (λ o cs u. Made (out (header_of h.tag h.pid) ws7 o) cs u) (ltb (suc k) W) (λ _. ret! _ _ [] _ a.in_ll refl refl refl refl)
      (λ _. ret! _ _ _ _ a.in_ll refl refl refl (ap (λ w. answered (words w) (l.count + 1)) (area a.in_ll))))
      (λ _. q! _ _ _ _ refl refl refl refl))
  sim sc14 bz a low = by_test₃ (λ o cs u. Made (out (header_of h.tag h.pid) ws o) cs u)
      (eqb h.tag l.keep) (λ _. q! _ _ [] _ refl refl refl refl) (λ _. q! _ _ _ _ refl refl refl refl)
  sim sc17 bz a low =
      rw (r.offered p k hp a.in_17, add-one k, add-one l.old_tag)
      (by_test₂ (λ q u. Made (
        record { bench = b; process = q; reply = Accepted },
        set ws (p * W + k)
            (l.offered k),
      ) [] u) (ltb (suc k) W) (λ _. row! _ _ _ a.in_17 refl refl refl)
      (λ _. row! _ _ _ a.in_17 refl refl refl))
  sim sc19 bz a low =
      by_test₄ (λ g o cs u. Made (out g ws o) cs u) (eq_pair h.tag h.pid l.old_tag l.old_pid)
      (λ _. put _ _ _ _ [] _ _ (like (put_header b (header_of l.new_tag l.new_pid))
      (w_header l.new_tag l.new_pid l.offered n h) refl refl refl refl refl) r refl refl refl refl)
      (λ _. q! _ _ _ _ refl refl refl refl)
  sim sc2 bz a low =
      rw (tags k a.in_copy, r.val k a.in_copy)
      (by_test₂ (λ q u. Made (record { bench = b; process = q; reply = Accepted }, ws) [] u)
      (eqb (h.seg_tag k) (prev tag_values l.new_tag)) (λ _. q! _ _ [] _ refl refl refl refl)
      (λ _. q! _ _ [] _ refl refl refl refl))
  sim sc4 bz a low = rw (r.row l.new_pid k low.new_low a.in_copy) (q! _ _ [] _ refl refl refl refl)
  sim sc5 bz a low = rw (tags k a.in_copy, r.val k a.in_copy) (cas! _ _ a.in_copy refl refl refl)
  sim sc6 bz a low = rw (tags k a.in_copy, r.val k a.in_copy) (q! _ _ [] _ refl refl refl refl)
  sim sc7 bz a low =
      rw (add-one k)
      (by_test₃ (λ o cs u. Made (out (header_of h.tag h.pid) ws o) cs u) (eq_pair h.tag h.pid l.new_tag l.new_pid)
      (λ _. by_test₃ (λ o cs u. Made (out (header_of h.tag h.pid) ws o) cs u) (ltb (suc k) W)
      (λ _. q! _ _ [] _ refl refl refl refl) (λ _. q! _ _ _ _ refl refl refl refl))
      (λ _. q! _ _ _ _ refl refl refl refl))
  sim vl13 bz a low = q! _ _ _ _ refl refl refl refl
