-- A command of model follows a command of the ghost machine: which case it is, what its reply says, and that the memories stay related.
use mathlib.Core.Path.{◌≡◌, refl, sym, ap, ap₂, ◌∙◌}
use mathlib.Core.Bool.{Bool, true, false, not, ◌&&◌, ◌||◌, cond}
use mathlib.Core.List.{List, []}
use Prim.Native.Nat.{ℕ, ◌*◌, ◌<◌}
use native.Mathlib.Omega.{arith}
use lib.Dec.{T, eqb, leb}
use borrow.Author.Tests.{leb-true, leb-false, eqb-true, eq-eqb, ne_eqb, le-ltb, le-leb, lt-leb}
use lib.ListN.{length, get_or, set, length-set}
use lib.Seq.{get_or-set_same, get_or-set_other}
use Rattle.llsc.specs.declared.ProcessNumber.{ProcessNumber}
use Rattle.model.specs.declared.Bench.{Bench}
use Rattle.model.specs.declared.Process.{Process}
use Rattle.llsc.specs.declared.Order.{Order}
use Rattle.llsc.specs.declared.Order.TheVariants.{StartLl, StartSc, StartVl, Step}
use Rattle.model.specs.declared.Reply.{Reply}
use Rattle.model.specs.declared.Reply.TheVariants.{Refused, Accepted}
use Rattle.model.specs.declared.Moved.{Moved}
use Rattle.model.specs.Sizes.{halves}
use Rattle.model.specs.Points.{line11}
use Rattle.model.specs.Records.{record_at, no_process}
use Rattle.model.specs.Machine
use Rattle.model.specs.Machine.{Memory, obey}
use Rattle.model.specs.Refusals
use Rattle.llsc.specs.Rows.{is_start, needs_ll, brings_value}
use Rattle.model.specs.Command.{command, refusal, stored_back, obeyed}
use Rattle.model.specs.Replies.{says}
use Rattle.llsc.specs.History.{Command}
use Rattle.llsc.specs.Rows.{NotLentMemory}
use Rattle.linearization.proofs.PointFacts
use Rattle.laws.proofs.Updates.{Split, same, other, split, by_test, contra}
use Rattle.linearization.proofs.GhostMachine
use Rattle.linearization.proofs.GhostMachine.{State}
use Rattle.linearization.proofs.WordLists.{words_of}
use Rattle.linearization.proofs.GhostRuns
use Rattle.linearization.proofs.Ranges.{InRanges}
use Rattle.linearization.proofs.WordPlace.{PInv, idle_word}
use Rattle.linearization.proofs.PointFacts.{point_of_lem}
use Rattle.linearization.proofs.Relation.{record_of, Related}
use Rattle.linearization.proofs.Simulation.{Made, follow, follow_start}
use Rattle.linearization.proofs.InRange.{CountIn, in_range_lem}
use Rattle.linearization.proofs.ReplySimulation.{says_at, return_area_lem, return_stays}
use Rattle.linearization.proofs.Outcome.{cmd_of, refused_with, started, stepped, Followed}
use Rattle.linearization.proofs.GhostCommands.{silent_start, silent_out, silent_idle, exec_out, exec_short, exec_start, exec_busy, exec_bare, exec_step, exec_idle}

-- rows 4, 8, 5, 6, 7, from their tests: p not below N, the process idle, an LL answered, the value of W words
abbrev pub late : Bool → Order → Bool → Bool → Bool → ℕ
late a o i r l = cond a 4 (cond (brings_value o && not l) 8 (cond (is_start o && not i) 5 (cond (not (is_start o) && i) 6 (cond (needs_ll o && not r) 7 0))))

late_sound : (a : Bool) (o : Order) (i r l : Bool) → NotLentMemory (late a o i r l)
late_sound a o i r l =
    by_test NotLentMemory a (λ _. is 4 tt)
    (λ _. by_test NotLentMemory (brings_value o && not l) (λ _. is 8 tt)
    (λ _. by_test NotLentMemory (is_start o && not i) (λ _. is 5 tt)
    (λ _. by_test NotLentMemory (not (is_start o) && i) (λ _. is 6 tt)
    (λ _. by_test NotLentMemory (needs_ll o && not r) (λ _. is 7 tt) (λ _. is 0 tt)))))
  where
    is : (k : ℕ) → T (not (eqb k 1 || (eqb k 2 || (eqb k 3 || eqb k 9)))) → NotLentMemory k
    is k h = record { not_1 = λ e. no 1 e h; not_2 = λ e. no 2 e h; not_3 = λ e. no 3 e h; not_9 = λ e. no 9 e h }
      where
        no : (j : ℕ) → k ≡ j → T (not (eqb k 1 || (eqb k 2 || (eqb k 3 || eqb k 9)))) → T (not (eqb j 1 || (eqb j 2 || (eqb j 3 || eqb j 9))))
        no j e h = rw e at h

skip : (b : Bool) (k l : ℕ) → b ≡ false → cond b k l ≡ l
skip b k l e = ap (λ c. cond c k l) e

start_reply : (o : Order) (p : ProcessNumber) (v : List ℕ) (b : Bench) (q : Process) (ws : List ℕ) → is_start o ≡ true → (obey o p v b q ws).0.reply ≡ Accepted
unfolding obey
start_reply StartLl p v b q ws e = refl
start_reply StartSc p v b q ws e = refl
start_reply StartVl p v b q ws e = refl
start_reply Step p v b q ws e = absurd (contra e refl)

module _ (N W n : ℕ) (m : Memory) (z : State) (r : Related N W m z) (ok : InRanges N (halves W) z) (counts : (q : ℕ) → q < N → CountIn W (z.loc q))
    (places : PInv N (halves W) z) where
  -- rows 1, 2, 3 and 9 do not hold
  pub refusal_late : (p : ℕ) (o : Order) (v : List ℕ)
      → refusal m p o v ≡ late (leb N p) o (Refusals.is_idle (record_at m.records (record { 0 = p }))) (record_at m.records (record { 0 = p })).answered (eqb (length v) W)
  unfolding refusal
  refusal_late p o v =
      let s = r.sizes in let a : leb 1 N ≡ true = le-leb 1 N s.n_low in let b : leb 1 W ≡ true = le-leb 1 W s.w_low in
      rw (in_range_lem N W m z r ok counts, r.n, r.w)
      (skip _ _ _ (ap not (ap₂ ◌&&◌ a (le-leb N 16 s.n_high))) ∙ skip _ _ _ (ap not (ap₂ ◌&&◌ b (le-leb W 64 s.w_high)))
      ∙ skip _ _ _ (ap₂ ◌||◌ (le-ltb (length m.words) (5 * N * W) r.places.words.len) (le-ltb (length m.records) N r.records_length)))

  pub too_high : (p : ℕ) (o : Order) (v : List ℕ) → leb N p ≡ true → refusal m p o v ≡ 4
  too_high p o v e = refusal_late p o v ∙ ap (λ a. late a o (Refusals.is_idle (record_at m.records (record { 0 = p }))) (record_at m.records (record { 0 = p })).answered (eqb (length v) W)) e

  -- (a) the memory is never at fault
  pub refusal_sound : (p : ℕ) (o : Order) (v : List ℕ) → NotLentMemory (refusal m p o v)
  refusal_sound p o v =
      rw (refusal_late p o v) (late_sound (leb N p) o (Refusals.is_idle (record_at m.records (record { 0 = p })))
      (record_at m.records (record { 0 = p })).answered (eqb (length v) W))

  module _ (p : ℕ) (o : Order) (v : List ℕ) where
    abbrev me : ProcessNumber
    me = record { 0 = p }

    pub refuses : (k : ℕ) → (k ≡ 0 → ⊥) → refusal m p o v ≡ k → command m p o v ≡ (Refused k, m)
    unfolding command
    refuses k ne e = ap (λ j. cond (eqb j 0) (obeyed m me o v) (Refused j, m)) e ∙ ap (λ b. cond b (obeyed m me o v) (Refused k, m)) (ne_eqb k 0 ne)

    pub obeys : refusal m p o v ≡ 0 → command m p o v ≡ obeyed m me o v
    unfolding command
    obeys e = ap (λ b. cond b (obeyed m me o v) (Refused (refusal m p o v), m)) (eq-eqb _ 0 e)

    refused_case : (k : ℕ) → (k ≡ 0 → ⊥) → refusal m p o v ≡ k → GhostRuns.exec N (halves W) n (cmd_of N W p o v) z ≡ z
        → GhostRuns.call_f N (halves W) n (cmd_of N W p o v) z ≡ [] → Followed N W n m z (record { process = p; order = o; value = v })
    refused_case k ne e x y = record {
      outcome = refused_with k (record { not_0 = ne; number = e; leaves = refuses k ne e; said = ap (λ t. says t.1 me t.0) (refuses k ne e); follows = x; silent = y });
      related = rw (refuses k ne e, x) r;
    }

  module _ (p : ℕ) (hp : p < N) where
    -- a record of p is put back
    join : (o : Moved × List ℕ) (z' : State) → Made N W p z o z' → Related N W (stored_back m (record { 0 = p }) o).1 z'
    join o z' k = record {
      sizes = r.sizes;
      n = k.n;
      w = k.w;
      places = k.places;
      records_length = let y = length-set m.records p o.0.process in let x = r.records_length in omega arith;
      process = λ q hq. here q hq (split q p);
    }
      where
        here : (q : ℕ) → q < N → Split q p → get_or (set m.records p o.0.process) q no_process ≡ record_of (z'.loc q)
        here q hq (same e) = rw e (get_or-set_same m.records p o.0.process no_process (let x = r.records_length in omega arith) ∙ k.process)
        here q hq (other ne) = get_or-set_other m.records p q o.0.process no_process ne ∙ r.process q hq ∙ sym (k.kept q ne)

    -- the bench and p's record, written with N, W and the ghost machine's process
    abbrev bench : Bench
    bench = record { n = N; w = W; x = m.bench.x; bank = m.bench.bank; help = m.bench.help }

    bench_is : m.bench ≡ bench
    bench_is = ap₂ (λ a b. record { n = a; w = b; x = m.bench.x; bank = m.bench.bank; help = m.bench.help }) r.n r.w

    obey_is : (o : Order) (v : List ℕ)
        → obey o (record { 0 = p }) v m.bench (record_at m.records (record { 0 = p })) m.words ≡ obey o (record { 0 = p }) v bench (record_of (z.loc p)) m.words
    obey_is o v = ap₂ (λ b q. obey o (record { 0 = p }) v b q m.words) bench_is (r.process p hp)

    step_is : (v : List ℕ) → obey Step (record { 0 = p }) v bench (record_of (z.loc p)) m.words ≡ Machine.step_at (z.loc p).point (record { 0 = p }) bench (record_of (z.loc p)) m.words
    unfolding obey Machine.step_at
    step_is v = ap (λ y. Machine.step_at y (record { 0 = p }) bench (record_of (z.loc p)) m.words) (point_of_lem (z.loc p).point)

    pub tests : (o : Order) (v : List ℕ) → refusal m p o v ≡ late false o (PointFacts.is_idle (z.loc p).point) (z.loc p).answered (eqb (length v) W)
    tests o v =
        refusal_late p o v ∙ ap (λ a. late a o (Refusals.is_idle (record_at m.records (record { 0 = p }))) (record_at m.records (record { 0 = p })).answered (eqb (length v) W)) (lt-leb N p hp)
        ∙ ap (λ q. late false o (Refusals.is_idle q) q.answered (eqb (length v) W)) (r.process p hp)

    start_case : (o : Order) (v : List ℕ) → is_start o ≡ true → PointFacts.is_idle (z.loc p).point ≡ true → (needs_ll o ≡ true → (z.loc p).answered ≡ true)
        → (brings_value o ≡ true → length v ≡ W) → refusal m p o v ≡ 0
        → Followed N W n m z (record { process = p; order = o; value = v })
    start_case o v s i a e k = record {
      outcome = started (record {
        below = hp;
        start = s;
        idle = PointFacts.idle_is (z.loc p).point i;
        marked = a;
        value = e;
        number = k;
        follows = exec_start N W n z p v hp o s i a e;
        said = ap (λ t. says t.1 (record { 0 = p }) t.0) eq ∙ ap (says made.1 (record { 0 = p })) (start_reply o (record { 0 = p }) v bench (record_of (z.loc p)) m.words s);
      });
      related = rw (eq, exec_start N W n z p v hp o s i a e)
          (join _ _ (follow_start N W m.bench.x m.bench.bank m.bench.help m.words p n z hp r.places (ok.each p hp) o v n at_first s e));
    }
      where
        made : Reply × Memory
        made = stored_back m (record { 0 = p }) (obey o (record { 0 = p }) v bench (record_of (z.loc p)) m.words)

        at_first : (z.loc p).word ≡ 0
        at_first = idle_word N (halves W) z p hp places (PointFacts.idle_is (z.loc p).point i)

        eq : command m p o v ≡ made
        eq = obeys p o v k ∙ ap (stored_back m (record { 0 = p })) (obey_is o v)

    step_case : (v : List ℕ) → PointFacts.is_idle (z.loc p).point ≡ false → refusal m p Step v ≡ 0 → Followed N W n m z (record { process = p; order = Step; value = v })
    unfolding GhostMachine.step
    step_case v b k = record {
      outcome = stepped (record {
        below = hp;
        step = refl;
        busy = b;
        number = k;
        follows = exec_step N W n z p v hp;
        said = ap (λ t. says t.1 (record { 0 = p }) t.0) eq
            ∙ says_at N W m.bench.x m.bench.bank m.bench.help m.words p z hp r.places m' (z.loc p).point
            (λ e _. return_area_lem N W m' z' p hp after ∙ ap (words_of (halves W)) (area e));
      });
      related = rw (eq, exec_step N W n z p v hp) after;
    }
      where
        made : Moved × List ℕ
        made = Machine.step_at (z.loc p).point (record { 0 = p }) bench (record_of (z.loc p)) m.words

        m' : Memory
        m' = (stored_back m (record { 0 = p }) made).1

        z' : State
        z' = GhostMachine.step_at N (halves W) (z.loc p).point n p z

        eq : command m p Step v ≡ stored_back m (record { 0 = p }) made
        eq = obeys p Step v k ∙ ap (stored_back m (record { 0 = p })) (obey_is Step v ∙ step_is v)

        after : Related N W m' z'
        after = join made z' (follow N W m.bench.x m.bench.bank m.bench.help m.words p n z hp r.places (ok.each p hp) (z.loc p).point refl)

        area : (z.loc p).point ≡ line11 → (z'.loc p).returned ≡ (z.loc p).returned
        area e = ap (λ y. ((GhostMachine.step_at N (halves W) y n p z).loc p).returned) e ∙ return_stays N (halves W) n p z

    -- by the order, and whether the process is idle, has an answered LL, and the value has W words
    by_order : (o : Order) (v : List ℕ) (i a l : Bool) → PointFacts.is_idle (z.loc p).point ≡ i → (z.loc p).answered ≡ a → eqb (length v) W ≡ l
        → refusal m p o v ≡ late false o i a l → Followed N W n m z (record { process = p; order = o; value = v })
    by_order StartLl v true a l ei ea el k = start_case StartLl v refl ei (λ e. absurd (contra e refl)) (λ e. absurd (contra e refl)) k
    by_order StartLl v false a l ei ea el k = refused_case p StartLl v 5 (λ e. omega arith) k (exec_busy N W n z p v hp StartLl refl ei) (silent_start N W n z p v StartLl refl)
    by_order StartVl v true true l ei ea el k = start_case StartVl v refl ei (λ e. ea) (λ e. absurd (contra e refl)) k
    by_order StartVl v true false l ei ea el k = refused_case p StartVl v 7 (λ e. omega arith) k (exec_bare N W n z p v hp StartVl refl ei ea) (silent_start N W n z p v StartVl refl)
    by_order StartVl v false a l ei ea el k = refused_case p StartVl v 5 (λ e. omega arith) k (exec_busy N W n z p v hp StartVl refl ei) (silent_start N W n z p v StartVl refl)
    by_order StartSc v i a false ei ea el k = refused_case p StartSc v 8 (λ e. omega arith) k (exec_short N W n z p v el) (silent_start N W n z p v StartSc refl)
    by_order StartSc v true true true ei ea el k = start_case StartSc v refl ei (λ e. ea) (λ e. eqb-true (length v) W el) k
    by_order StartSc v true false true ei ea el k = refused_case p StartSc v 7 (λ e. omega arith) k (exec_bare N W n z p v hp StartSc refl ei ea) (silent_start N W n z p v StartSc refl)
    by_order StartSc v false a true ei ea el k = refused_case p StartSc v 5 (λ e. omega arith) k (exec_busy N W n z p v hp StartSc refl ei) (silent_start N W n z p v StartSc refl)
    by_order Step v true a l ei ea el k = refused_case p Step v 6 (λ e. omega arith) k (exec_idle N W n z p v hp ei) (silent_idle N W n z p v hp ei)
    by_order Step v false a l ei ea el k = step_case v ei k

  -- (b) and (c): every command
  pub followed : (c : Command) → Followed N W n m z c
  followed c = where_is (leb N p) refl
    where
      p : ℕ
      p = c.process

      o : Order
      o = c.order

      v : List ℕ
      v = c.value

      where_is : (b : Bool) → leb N p ≡ b → Followed N W n m z c
      where_is true e =
          let out = leb-true _ _ e in
          refused_case p o v 4 (λ x. omega arith) (too_high p o v e) (exec_out N W n z p o v out) (silent_out N W n z p v o out)
      where_is false e =
          let h : p < N = leb-false _ _ e in
          by_order p h o v (PointFacts.is_idle (z.loc p).point) (z.loc p).answered (eqb (length v) W) refl refl refl (tests p h o v)
