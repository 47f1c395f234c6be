-- A command on lent memory follows the machine's command, and shows the same event.
use mathlib.Core.Path.{◌≡◌, refl, sym, ap, ap₂, ◌∙◌}
use mathlib.Core.Bool.{Bool, true, false, not, ◌&&◌, ◌||◌, cond}
use mathlib.Core.List.{List, [], ◌∷◌}
use Prim.Native.Nat.{ℕ, suc, ◌+◌, ◌*◌, ◌≤◌, ◌<◌}
use native.Mathlib.Omega.{arith}
use lib.Dec.{T, ltb, leb, eqb}
use lib.ListN.{length, get_or, set, length-set}
use lib.Seq.{get_or-set_same, get_or-set_other, sets}
use borrow.Author.Tests.{ltb-true, ltb-false, eqb-true, eq-eqb, ne_eqb, lt-ltb, le-ltb, le-leb, lt-leb}
use Rattle.llsc.specs.declared.ProcessNumber.{ProcessNumber}
use Rattle.llsc.specs.declared.Order.{Order}
use Rattle.llsc.specs.declared.Order.TheVariants.{StartLl, StartSc, StartVl, Step}
use Rattle.llsc.specs.Rows.{is_start, needs_ll, brings_value}
use Rattle.llsc.specs.History.{Command}
use Rattle.llsc.specs.Rows.{NotLentMemory}
use Rattle.laws.proofs.Updates.{upd, upd_same, upd_other, Split, same, other, split, by_test}
use Rattle.moir_model.specs.declared.Process.{Process}
use Rattle.moir_model.specs.declared.Reply.{Reply}
use Rattle.moir_model.specs.declared.Reply.TheVariants.{Refused, Accepted}
use Rattle.moir_model.specs.declared.Moved.{Moved}
use Rattle.moir_model.specs.Tags.{tag_values}
use Rattle.moir_model.specs.Points.{Point, point_of, idle, ll10, sc14, vl13}
use Rattle.moir_model.specs.Records as Q
use Rattle.moir_model.specs.Records.{record_at, no_process}
use Rattle.moir_model.specs.Lines.{same_header}
use Rattle.moir_model.specs.Machine as L
use Rattle.moir_model.specs.Machine.{Memory, obey}
use Rattle.moir_model.specs.Refusals as F
use Rattle.moir_model.specs.Command.{command, refusal, put_back, obeyed}
use Rattle.llsc.specs.Answers.{refused, accepted}
use Rattle.moir_model.specs.Replies.{Said}
use Rattle.moir_model.specs.Replies as S
use Rattle.moir_model.specs.History as H
use Rattle.moir_model.specs.History.{header_changes}
use Rattle.moir_linearization.specs.After.{after}
use Rattle.moir_linearization.proofs.PointRanges.{is_idle, busy, copying}
use Rattle.moir_linearization.proofs.PointFacts.{point_of_lem}
use Rattle.moir_linearization.proofs.GhostMachine as G
use Rattle.moir_linearization.proofs.GhostMachine.{Local, Shared, State, begin}
use Rattle.moir_linearization.proofs.GhostRuns.{exec, starts, started}
use Rattle.moir_linearization.proofs.GhostHistories.{answer_at}
use Rattle.moir_linearization.proofs.GhostEvents.{ordered, ghost, said_by, wins, start_said, says, event_of, events}
use Rattle.moir_linearization.proofs.InvariantRuns.{idle_is}
use Rattle.moir_linearization.proofs.StepShape.{shape}
use Rattle.moir_linearization.proofs.Ranges.{Sound, exec_sound}
use Rattle.moir_linearization.proofs.HeaderChanges.{header_changes_is}
use Rattle.moir_linearization.proofs.Relation.{header_of, record_of, WordsLike, Related, words_same, words_offer}
use Rattle.moir_linearization.proofs.Simulation.{sim}
use Rattle.moir_linearization.proofs.InRange.{in_range_lem}

-- rows 4, 8, 5, 6, 7, from their tests: p not below N, the process idle, a WLL answered, the value of W words
abbrev late : Bool → Order → Bool → Bool → Bool → ℕ
late a o i r l = cond a 4 (cond (brings_value o && not l) 8 (cond (is_start o && not i) 5 (cond (not (is_start o) && i) 6 (cond (needs_ll o && not r) 7 0))))

late_sound : (a : Bool) (o : Order) (i r l : Bool) → NotLentMemory (late a o i r l)
late_sound a o i r l =
    by_test NotLentMemory a (λ _. is 4 tt) (λ _. by_test NotLentMemory (brings_value o && not l) (λ _. is 8 tt)
    (λ _. by_test NotLentMemory (is_start o && not i) (λ _. is 5 tt)
    (λ _. by_test NotLentMemory (not (is_start o) && i) (λ _. is 6 tt) (λ _. by_test NotLentMemory (needs_ll o && not r) (λ _. is 7 tt) (λ _. is 0 tt)))))
  where
    is : (k : ℕ) → T (not (eqb k 1 || (eqb k 2 || (eqb k 3 || eqb k 9)))) → NotLentMemory k
    is k h = record { not_1 = λ e. no! 1 e h; not_2 = λ e. no! 2 e h; not_3 = λ e. no! 3 e h; not_9 = λ e. no! 9 e h }
      where
        no! : (j : ℕ) → k ≡ j → T (not (eqb k 1 || (eqb k 2 || (eqb k 3 || eqb k 9)))) → T (not (eqb j 1 || (eqb j 2 || (eqb j 3 || eqb j 9))))
        no! j e h = rw e at h

skip : (b : Bool) (k l : ℕ) → b ≡ false → cond b k l ≡ l
skip b k l e = ap (λ c. cond c k l) e

no_win : (b : Bool) → cond b false b ≡ false
no_win true = refl
no_win false = refl

same_changes : (t q : ℕ) → not (eqb t t && eqb q q) ≡ false
same_changes t q = ap not (ap₂ ◌&&◌ (eq-eqb t t refl) (eq-eqb q q refl))

module _ (N W n : ℕ) (h_w : 0 < W) (m : Memory) (s : State) (r : Related N W m s) (i : Sound N tag_values W n s) where
  abbrev h : Shared
  h = s.sh

  -- rows 1, 2, 3 and 9 do not hold
  refusal_late : (p : ℕ) (o : Order) (v : List ℕ) → refusal m p o v ≡ late (leb N p) o
      (F.is_idle (record_at m.records (record { 0 = p }))) (record_at m.records (record { 0 = p })).answered
      (eqb (length v) W)
  unfolding refusal
  refusal_late p o v =
      let z = r.sizes in let a : leb 1 N ≡ true = le-leb 1 N z.n_low in let b : leb 1 W ≡ true = le-leb 1 W z.w_low in
      rw (in_range_lem N W n h_w m s r i, r.bench.n, r.bench.w)
      (skip _ _ _ (ap not (ap₂ ◌&&◌ a (le-leb N 16 z.n_high))) ∙ skip _ _ _ (ap not (ap₂ ◌&&◌ b (le-leb W 64 z.w_high)))
      ∙ skip _ _ _ (ap₂ ◌||◌ (le-ltb (length m.words) ((3 * N + 1) * W) r.words.len) (le-ltb (length m.records) N r.records_length)))

  pub refusal_sound : (p : ℕ) (o : Order) (v : List ℕ) → NotLentMemory (refusal m p o v)
  refusal_sound p o v = rw (refusal_late p o v)
      (late_sound (leb N p) o (F.is_idle (record_at m.records (record { 0 = p })))
      (record_at m.records (record { 0 = p })).answered (eqb (length v) W))

  module _ (p : ℕ) where
    abbrev me : ProcessNumber
    me = record { 0 = p }

    -- what a command leaves, says and changes, against the machine after it
    pub record Follows (out : Reply × Memory) (sd : Said) (u : State) : Type 0 where
      pub said : S.says out.1 me out.0 ≡ sd
      pub related : Related N W out.1 u
      pub won : header_changes m out.1 ≡ wins p s u

    abbrev pub Followed : Order → List ℕ → Type 0
    Followed o v = Follows (command m p o v) (says N tag_values W n (ordered W p o v) s) (exec N tag_values W n (ordered W p o v) s)

    refuses : (o : Order) (v : List ℕ) (k : ℕ) → (k ≡ 0 → ⊥) → refusal m p o v ≡ k → command m p o v ≡ (Refused k, m)
    unfolding command
    refuses o v k ne e = ap (λ j. cond (eqb j 0) (obeyed m me o v) (Refused j, m)) e ∙ ap (λ b. cond b (obeyed m me o v) (Refused k, m)) (ne_eqb k 0 ne)

    obeys : (o : Order) (v : List ℕ) → refusal m p o v ≡ 0 → command m p o v ≡ obeyed m me o v
    unfolding command
    obeys o v e = ap (λ b. cond b (obeyed m me o v) (Refused (refusal m p o v), m)) (eq-eqb _ 0 e)

    -- refused with k, on both sides
    refused_case : (o : Order) (v : List ℕ) (k : ℕ) → (k ≡ 0 → ⊥) → refusal m p o v ≡ k
        → says N tag_values W n (ordered W p o v) s ≡ refused k → exec N tag_values W n (ordered W p o v) s ≡ s
        → Followed o v
    refused_case o v k ne e es ex =
        rw (refuses o v k ne e, es, ex)
        (record { said = refl; related = r; won = same_changes m.bench.header.tag m.bench.header.pid.0 ∙ sym (no_win (copying (s.loc p).point)) })

    -- a start on the machine's side, by rows 4, 8, 5, 7 and where none holds
    module _ (y : Point) (v : ℕ) (w : ℕ → ℕ) (f ok : Bool) where
      abbrev Begins : Said → State → Type 0
      Begins sd u = (start_said N tag_values W p f ok s ≡ sd) × (starts N tag_values W n p y v w f ok s ≡ u)

      row_4 : ltb p N ≡ false → Begins (refused 4) s
      row_4 e = rw e (refl, refl)

      row_8 : ltb p N ≡ true → f ≡ false → Begins (refused 8) s
      row_8 e ef = rw (e, ef) (refl, refl)

      row_5 : ltb p N ≡ true → f ≡ true → is_idle (s.loc p).point ≡ false → Begins (refused 5) s
      row_5 e ef ei = rw (e, ef, ei) (refl, refl)

      row_7 : ltb p N ≡ true → f ≡ true → is_idle (s.loc p).point ≡ true → ok ≡ false → Begins (refused 7) s
      row_7 e ef ei eo = rw (e, ef, ei, eo) (refl, refl)

      no_row : ltb p N ≡ true → f ≡ true → is_idle (s.loc p).point ≡ true → ok ≡ true → Begins accepted (started N tag_values W n p y v w s)
      no_row e ef ei eo = rw (e, ef, ei, eo) (refl, refl)

    module _ (hp : p < N) where
      abbrev l : Local
      l = s.loc p

      below : ltb p N ≡ true
      below = lt-ltb p N hp

      rec_is : record_at m.records me ≡ record_of l
      rec_is = r.process p hp

      tests : (o : Order) (v : List ℕ) → refusal m p o v ≡ late false o (is_idle l.point) l.mark (eqb (length v) W)
      tests o v =
          refusal_late p o v ∙ ap (λ a. late a o (F.is_idle (record_at m.records me)) (record_at m.records me).answered (eqb (length v) W)) (lt-leb N p hp)
          ∙ ap (λ q. late false o (F.is_idle q) q.answered (eqb (length v) W)) rec_is

      -- p's record set, the others' as they were
      records : (q' : Process) (u : State) → q' ≡ record_of (u.loc p)
          → ((q : ℕ) → (q ≡ p → ⊥) → u.loc q ≡ s.loc q) → (q : ℕ) → q < N
          → get_or (set m.records p q') q no_process ≡ record_of (u.loc q)
      records q' u e f q hq = go (split q p)
        where
          go : Split q p → get_or (set m.records p q') q no_process ≡ record_of (u.loc q)
          go (same z) = rw z (get_or-set_same m.records p q' no_process (let y = r.records_length in omega arith) ∙ e)
          go (other ne) = get_or-set_other m.records p q q' no_process ne ∙ r.process q hq ∙ sym (ap record_of (f q ne))

      still_long : (q' : Process) → N ≤ length (set m.records p q')
      still_long q' = let z = length-set m.records p q' in let x = r.records_length in omega arith

      -- a start that is accepted
      start_follows : (y : Point) (v : ℕ) (w : ℕ → ℕ) (ws : List ℕ) → copying y ≡ false → l.point ≡ idle
          → WordsLike N W ws h.rows h.seg_val (λ q. ((started N tag_values W n p y v w s).loc q).returned)
          (λ q. ((started N tag_values W n p y v w s).loc q).offered)
          → Follows (put_back m me (
            record {
              bench = m.bench;
              process = Q.begin y (record_at m.records me);
              reply = Accepted;
            },
            ws,
          )) accepted (started N tag_values W n p y v w s)
      start_follows y v w ws ey ei wl =
          let e : upd s.loc p (begin y n v w l) p ≡ begin y n v w l = upd_same s.loc p (begin y n v w l) in
          record {
            said = refl;
            related = record {
              sizes = r.sizes;
              bench = r.bench;
              words = wl;
              records_length = still_long (Q.begin y (record_at m.records me));
              process = records _ (started N tag_values W n p y v w s) (ap (Q.begin y) rec_is ∙ sym (ap record_of e)) (λ q ne. upd_other s.loc p q _ ne);
            };
            won =
                same_changes m.bench.header.tag m.bench.header.pid.0 ∙ sym ey ∙ sym (ap (λ (c : Local). copying c.point) e)
                ∙ sym (ap (λ o. cond (copying o) false (copying (upd s.loc p (begin y n v w l) p).point)) ei);
          }

      -- the areas at a start
      area_left : {A : Type 0} (F : Local → A) (y : Point) (v : ℕ) (w : ℕ → ℕ) → F (begin y n v w l) ≡ F l → (q : ℕ)
          → F ((started N tag_values W n p y v w s).loc q) ≡ F (s.loc q)
      area_left F y v w e q = go (split q p)
        where
          go : Split q p → F ((started N tag_values W n p y v w s).loc q) ≡ F (s.loc q)
          go (same z) = rw z (ap F (upd_same s.loc p (begin y n v w l)) ∙ e)
          go (other ne) = ap F (upd_other s.loc p q _ ne)

      same_words_lem : (y : Point) (v : ℕ) → WordsLike N W m.words h.rows h.seg_val
          (λ q. ((started N tag_values W n p y v l.offered s).loc q).returned)
          (λ q. ((started N tag_values W n p y v l.offered s).loc q).offered)
      same_words_lem y v = words_same N W _ _ _ _ _ r.words _ _ (area_left (λ (x : Local). x.returned) y v _ refl)
          (area_left (λ (x : Local). x.offered) y v _ refl)

      offered_words : (v : List ℕ) → length v ≡ W → (let u = started N tag_values W n p sc14 l.start_version (λ k. get_or v k 0) s in
          WordsLike N W (sets m.words ((2 * m.bench.n + 1 + p) * m.bench.w + 0) v) h.rows h.seg_val
          (λ q. (u.loc q).returned) (λ q. (u.loc q).offered))
      offered_words v e =
          rw (r.bench.n, r.bench.w)
          (words_offer N W _ _ _ _ _ r.words _ _ p v hp e (area_left (λ (x : Local). x.returned) sc14 _ _ refl)
          (ap (λ (x : Local). x.offered) (upd_same s.loc p _))
          (λ q ne. ap (λ (x : Local). x.offered) (upd_other s.loc p q _ ne)))

      start_case : (o : Order) (v : List ℕ) (u : State) → refusal m p o v ≡ 0
          → says N tag_values W n (ordered W p o v) s ≡ accepted → exec N tag_values W n (ordered W p o v) s ≡ u
          → Follows (obeyed m me o v) accepted u → Followed o v
      start_case o v u k es ex f = rw (obeys o v k, es, ex) f

      -- a step
      bench_is : m.bench ≡ record { n = N; w = W; header = header_of h.tag h.pid; tags = m.bench.tags }
      bench_is =
          ap (λ a. record { n = a; w = m.bench.w; header = m.bench.header; tags = m.bench.tags }) r.bench.n
          ∙ ap (λ a. record { n = N; w = a; header = m.bench.header; tags = m.bench.tags }) r.bench.w
          ∙ ap (λ a. record { n = N; w = W; header = a; tags = m.bench.tags }) r.bench.header

      abbrev stepped : Moved × List ℕ
      stepped = L.step_at l.point me (record { n = N; w = W; header = header_of h.tag h.pid; tags = m.bench.tags }) (record_of l) m.words

      obey_is : (v : List ℕ) → obey Step me v m.bench (record_at m.records me) m.words ≡ stepped
      unfolding obey
      obey_is v =
          ap₂ (λ b (q : Process). L.step_at (point_of q.line) me b q m.words) bench_is rec_is
          ∙ ap (λ y. L.step_at y me (record {
            n = N;
            w = W;
            header = header_of h.tag h.pid;
            tags = m.bench.tags;
          }) (record_of l) m.words) (point_of_lem l.point)

      abbrev reached : State
      reached = G.step_at tag_values W l.point n p s

      step_follows : busy l.point ≡ true → Follows (put_back m me stepped) (said_by (answer_at W l.point n p s) (l.count + 1)) reached
      step_follows b =
          let z = sim N W n m.bench.tags m.words (set m.records p stepped.0.process) s p hp
          r.bench.tags_length r.bench.tags r.words l.point b (i.numbers.each p)
          (i.ranges.each p) in
          record {
            said = z.said;
            related = record {
              sizes = r.sizes;
              bench = z.bench;
              words = z.words;
              records_length = still_long _;
              process = records _ reached z.process (λ q ne. (shape tag_values W n s p l.point).others q ne);
            };
            won = ap₂ (λ g f. not (same_header g f)) z.bench.header r.bench.header
                ∙ (header_changes_is tag_values W n (omega arith) s p l.point refl (i.numbers.each p)).seen;
          }

      step_says : is_idle l.point ≡ false → (v : List ℕ)
          → (says N tag_values W n (ordered W p Step v) s ≡ said_by (answer_at W l.point n p s)
          (l.count + 1)) × (exec N tag_values W n (ordered W p Step v) s ≡ reached)
      unfolding says exec G.step
      step_says ei v = rw (below, ei) (refl, refl)

      idle_says : is_idle l.point ≡ true → (v : List ℕ)
          → (says N tag_values W n (ordered W p Step v) s ≡ refused 6) × (exec N tag_values W n
          (ordered W p Step v) s ≡ s)
      unfolding says exec G.step G.step_at
      idle_says ei v = rw (below, ei) (refl, ap (λ y. G.step_at tag_values W y n p s) (idle_is l.point ei))

      by_order : (o : Order) (v : List ℕ) (i a w : Bool) → is_idle l.point ≡ i → l.mark ≡ a
          → eqb (length v) W ≡ w → refusal m p o v ≡ late false o i a w → Followed o v
      unfolding says exec obey
      by_order StartLl v true a w ei ea ew k =
          let z = no_row ll10 h.successes l.offered true true below refl ei refl in
          start_case StartLl v _ k z.0 z.1
          (start_follows ll10 h.successes l.offered m.words refl (idle_is l.point ei)
          (same_words_lem ll10 h.successes))
      by_order StartLl v false a w ei ea ew k = let z = row_5 ll10 h.successes
          l.offered true true below refl ei in refused_case StartLl v 5 (λ e. omega arith) k z.0 z.1
      by_order StartVl v true true w ei ea ew k =
          let z = no_row vl13 l.start_version l.offered true l.mark below refl ei ea in
          start_case StartVl v _ k z.0 z.1
          (start_follows vl13 l.start_version l.offered m.words refl (idle_is l.point ei)
          (same_words_lem vl13 l.start_version))
      by_order StartVl v true false w ei ea ew k = let z = row_7 vl13 l.start_version l.offered true
          l.mark below refl ei ea in refused_case StartVl v 7 (λ e. omega arith) k z.0 z.1
      by_order StartVl v false a w ei ea ew k = let z = row_5 vl13 l.start_version l.offered true
          l.mark below refl ei in refused_case StartVl v 5 (λ e. omega arith) k z.0 z.1
      by_order StartSc v i a false ei ea ew k =
          let z = row_8 sc14 l.start_version (λ k. get_or v k 0) (eqb (length v) W) l.mark below ew
          in refused_case StartSc v 8 (λ e. omega arith) k z.0 z.1
      by_order StartSc v true true true ei ea ew k =
          let z = no_row sc14 l.start_version (λ k. get_or v k 0) (eqb (length v) W) l.mark below ew ei ea in
          start_case StartSc v _ k z.0 z.1
          (start_follows sc14 l.start_version (λ k. get_or v k 0) _ refl (idle_is l.point ei)
          (offered_words v (eqb-true _ _ ew)))
      by_order StartSc v true false true ei ea ew k =
          let z = row_7 sc14 l.start_version (λ k. get_or v k 0) (eqb (length v) W) l.mark below ew ei ea
          in refused_case StartSc v 7 (λ e. omega arith) k z.0 z.1
      by_order StartSc v false a true ei ea ew k =
          let z = row_5 sc14 l.start_version (λ k. get_or v k 0) (eqb (length v) W) l.mark below ew ei
          in refused_case StartSc v 5 (λ e. omega arith) k z.0 z.1
      by_order Step v true a w ei ea ew k = let z = idle_says ei v in refused_case Step v 6 (λ e. omega arith) k z.0 z.1
      by_order Step v false a w ei ea ew k =
          let z = step_says ei v in
          rw (obeys Step v k ∙ ap (put_back m me) (obey_is v), z.0, z.1) (step_follows (ap not ei))

    -- p not below N
    out_says : (o : Order) (v : List ℕ) → ltb p N ≡ false
        → (says N tag_values W n (ordered W p o v) s ≡ refused 4) × (exec N tag_values W n (ordered W p o v) s ≡ s)
    unfolding says exec
    out_says StartLl v e = row_4 ll10 h.successes (s.loc p).offered true true e
    out_says StartVl v e = row_4 vl13 (s.loc p).start_version (s.loc p).offered true (s.loc p).mark e
    out_says StartSc v e = row_4 sc14 (s.loc p).start_version (λ k. get_or v k 0) (eqb (length v) W) (s.loc p).mark e
    out_says Step v e = rw e (refl, refl)

    out : (o : Order) (v : List ℕ) → N ≤ p → Followed o v
    out o v hp =
        let z = out_says o v (le-ltb p N hp) in
        refused_case o v 4 (λ e. omega arith)
        (refusal_late p o v ∙ ap (λ a. late a o (F.is_idle (record_at m.records me))
        (record_at m.records me).answered (eqb (length v) W)) (le-leb N p hp)) z.0 z.1

  pub followed : (c : Command) → Followed c.process c.order c.value
  followed c = where_is (ltb c.process N) refl
    where
      where_is : (b : Bool) → ltb c.process N ≡ b → Followed c.process c.order c.value
      where_is true e =
          let h = ltb-true c.process N e in
          by_order c.process h c.order c.value (is_idle (s.loc c.process).point)
          (s.loc c.process).mark (eqb (length c.value) W) refl refl refl
          (tests c.process h c.order c.value)
      where_is false e = out c.process c.order c.value (ltb-false c.process N e)

  pub event_same : (c : Command) → H.event_of m c ≡ event_of N tag_values W n c s
  event_same c = let z = followed c in ap₂ (λ sd w. record { command = c; said = sd; won = w }) z.said z.won

module _ (N W : ℕ) (h_w : 0 < W) where
  -- the events are the machine's
  pub events_same : (n : ℕ) (cs : List Command) (m : Memory) (s : State) → Related N W m s → Sound N tag_values W n s
      → H.events m cs ≡ events N tag_values W n cs s
  unfolding H.events events
  events_same n [] m s r i = refl
  events_same n (c ∷ cs) m s r i =
      ap₂ ◌∷◌ (event_same N W n h_w m s r i c)
      (events_same (suc n) cs _ _ (followed N W n h_w m s r i c).related
      (exec_sound N tag_values W h_w n s (ghost W c) i))

  -- no command is refused by rows 1, 2, 3 or 9, after any
  pub sound_along : (n : ℕ) (cs : List Command) (m : Memory) (s : State) → Related N W m s → Sound N tag_values W n s
      → (c : Command) → NotLentMemory (refusal (after m cs) c.process c.order c.value)
  unfolding after
  sound_along n [] m s r i c = refusal_sound N W n h_w m s r i c.process c.order c.value
  sound_along n (d ∷ cs) m s r i c = sound_along (suc n) cs _ _ (followed N W n h_w m s r i d).related (exec_sound N tag_values W h_w n s (ghost W d) i) c
