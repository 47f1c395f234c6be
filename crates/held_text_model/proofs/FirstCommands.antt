-- A run for k commands beside the whole run: alike until k commands are done, and then it keeps what they left.
use mathlib.Core.Path.{◌≡◌, refl, sym, ap, subst, ◌∙◌}
use mathlib.Core.Bool.{Bool, true, false, not, ◌&&◌, cond}
use mathlib.Core.List.{List, [], ◌∷◌, ◌++◌}
use Prim.Native.Nat.{ℕ, zero, suc, ◌+◌, ◌-◌, ◌≤◌, ◌<◌}
use native.Mathlib.Omega.{arith}
use lib.Dec.{eqb, ltb, leb}
use lib.ListN.{length, take, length-append}
use borrow.Author.Tests.{eqb-true, eqb-false, eq-eqb, ne_eqb, leb-false, lt-leb, ltb-true, ltb-false}
use Rattle.std.proofs.lemmas.List.{take-append-le, take_all}
use Rattle.llsc.specs.History.{Command, after_all}
use Rattle.notation.specs.declared.Entry.{Entry}
use Rattle.notation.specs.declared.Entry.TheVariants.{StartLl, StartVl, StartSc, Step, Finish}
use Rattle.text_runs.specs.Machines.{Machine}
use Rattle.text_runs.specs.TextRun.{most_entries, room_needed, process_of, order_of, value_of}
use Rattle.text_runs.specs.TextRun.{Progress, stopped, lines_of, counted, commanded, single, unanswered, steps, finish, carry, carry_all, begun, ended}
use Rattle.text_runs.specs.RunCommands.{next, Carries}
use Rattle.text_runs.specs.TrueTraces.{outcome}
use Rattle.text_runs.proofs.SingleEntries.{made_commanded}
use Rattle.text_runs.proofs.UntilAnswered.{busy_after}
use Rattle.text_runs.proofs.RunCommands.{Done, So, one_more, one_behind, none_yet, halted, carried}
use Rattle.held_text_model.specs.Upto.{quiet, one_less, upto}
use Rattle.held_text_model.specs.FirstStates.{FirstStates}

-- What an entry that is one command makes of a run: nothing of one that is stopped; else it stops it, or is done.
data Next (M : Machine) (e : Entry) (s : Progress M) : Progress M → Type 0 where
  still : (s.stop ≡ 0 → ⊥) → Next M e s s
  stops : s.stop ≡ 0 → (j : ℕ) → (j ≡ 0 → ⊥) → Next M e s (stopped M j s)
  more : s.stop ≡ 0 → Done M e s → Next M e s (counted M s (outcome M e s).1 (lines_of M s e (outcome M e s)))

module _ (M : Machine) (e : Entry) (s : Progress M) where
  by_number : s.stop ≡ 0 → s.entries < most_entries → Next M e s (commanded M e s)
  by_number z few = by (M.number_of (outcome M e s).0) refl
    where
      by : (k : ℕ) → M.number_of (outcome M e s).0 ≡ k → Next M e s (commanded M e s)
      by zero y = subst (Next M e s) (sym (made_commanded M e s y)) (more z (record { accepted = y; few = few }))
      by (suc k) y =
          let some : M.number_of (outcome M e s).0 ≡ 0 → ⊥ = λ x. omega (arith, x, y) in
          let halted : commanded M e s ≡ stopped M (M.number_of (outcome M e s).0) s = simp (ne_eqb (M.number_of (outcome M e s).0) 0 some) in
          subst (Next M e s) (sym halted) (stops z (M.number_of (outcome M e s).0) some)

  seen : Next M e s (single M e s)
  unfolding single
  seen = by (eqb s.stop 0) refl (leb most_entries s.entries) refl (ltb (length s.listing - s.written) (room_needed s.traced))
    where
      by : (a : Bool) → eqb s.stop 0 ≡ a → (b : Bool) → leb most_entries s.entries ≡ b → (c : Bool)
          → Next M e s (cond a (cond b (stopped M 12 s) (cond c (stopped M 14 s) (commanded M e s))) s)
      by false z b l c = still (eqb-false s.stop 0 z)
      by true z true l c = stops (eqb-true s.stop 0 z) 12 (λ x. omega (arith, x))
      by true z false l true = stops (eqb-true s.stop 0 z) 14 (λ x. omega (arith, x))
      by true z false l false = by_number (eqb-true s.stop 0 z) (leb-false most_entries s.entries l)

module _ (M : Machine) where
  abbrev U : Machine
  U = upto M

  -- Where no command is left, entries and memory stay.
  record Same (u v : Progress U) : Type 0 where
    entries : v.entries ≡ u.entries
    memory : v.memory ≡ u.memory

  same : (u : Progress U) → Same u u
  same u = record { entries = refl; memory = refl }

  then : {u v w : Progress U} → Same u v → Same v w → Same u w
  then a b = record { entries = b.entries ∙ a.entries; memory = b.memory ∙ a.memory }

  either_same : (b : Bool) {u v w : Progress U} → Same u v → Same u w → Same u (cond b v w)
  either_same true x y = x
  either_same false x y = y

  single_same : (e : Entry) (u : Progress U) → u.memory.0 ≡ 0 → Same u (single U e u)
  single_same e u z = by (seen U e u)
    where
      by : {v : Progress U} → Next U e u v → Same u v
      by (still n) = same u
      by (stops y j n) = record { entries = refl; memory = refl }
      by (more y d) =
          let twelve : (outcome U e u).0 ≡ 12 = simp (eq-eqb u.memory.0 0 z) in
          absurd (let w : ⊥ = omega (arith, twelve, d.accepted) in w)

  steps_same : (left p : ℕ) (u : Progress U) → u.memory.0 ≡ 0 → Same u (steps U left p u)
  unfolding steps
  steps_same zero p u z = same u
  steps_same (suc left) p u z =
      let one = single_same (Step p) u z in
      let rest = steps_same left p (single U (Step p) u) (ap (λ (x : ℕ × M.Memory). x.0) one.memory ∙ z) in
      either_same (unanswered U p (single U (Step p) u)) (then one rest) one

  module _ (traced : Bool) (m : M.Memory) (listing : List ℕ) where
    abbrev S : Progress M → Type 0
    S = So M traced m listing

    -- a run for k commands, as far as the whole run is
    abbrev beside : ℕ → Progress M → Progress U
    beside k s = record { memory = (k - s.entries, s.memory); listing = quiet; written = 0; entries = s.entries; stop = 0; traced = false }

    -- the first k are done
    record First (k : ℕ) (cs : List Command) (u : Progress U) : Type 0 where
      entries : u.entries ≡ k
      memory : u.memory ≡ (0, after_all (next M) m (take k cs))
      some : k ≤ length cs

    -- Both go on alike; or the first k are done; or the whole run has stopped before.
    data Beside (k : ℕ) (s : Progress M) (cs : List Command) (u : Progress U) : Type 0 where
      alike : s.stop ≡ 0 → s.entries < k → u ≡ beside k s → Beside k s cs u
      first : First k cs u → Beside k s cs u
      over : (s.stop ≡ 0 → ⊥) → s.entries < k → Beside k s cs u

    -- commands come behind those that are done
    abbrev Grows : List Command → List Command → Type 0
    Grows cs ds = (k : ℕ) → k ≤ length cs → (k ≤ length ds) × (take k ds ≡ take k cs)

    by_first : {k : ℕ} {cs ds : List Command} {s : Progress M} {u v : Progress U} → Grows cs ds → Same u v → First k cs u → Beside k s ds v
    by_first {k} g x f =
        let h = g k f.some in
        first (record {
          entries = x.entries ∙ f.entries;
          memory = x.memory ∙ f.memory ∙ ap (λ (l : List Command). (0, after_all (next M) m l)) (sym h.1);
          some = h.0;
        })

    left_of : {k : ℕ} {cs : List Command} {u : Progress U} → First k cs u → u.memory.0 ≡ 0
    left_of f = ap (λ (x : ℕ × M.Memory). x.0) f.memory

    -- what a part of a text makes of the two
    record After (s : Progress M) (cs : List Command) (s' : Progress M) (f : Progress U → Progress U) : Type 0 where
      so : S s'
      grows : Grows cs so.commands
      kept : (k : ℕ) (u : Progress U) → Beside k s cs u → Beside k s' so.commands (f u)

    -- one command
    module _ (e : Entry) (s : Progress M) (o : S s) where
      after_still : (s.stop ≡ 0 → ⊥) → After s o.commands s (single U e)
      after_still n = record {
        so = o;
        grows = λ k l. (l, refl);
        kept = by;
      }
        where
          by : (k : ℕ) (u : Progress U) → Beside k s o.commands u → Beside k s o.commands (single U e u)
          by k u (alike z l is) = absurd (n z)
          by k u (first f) = by_first (λ k l. (l, refl)) (single_same e u (left_of f)) f
          by k u (over z l) = over z l

      after_stop : s.stop ≡ 0 → (j : ℕ) → (j ≡ 0 → ⊥) → After s o.commands (stopped M j s) (single U e)
      after_stop z j n = record {
        so = halted M traced m listing j s o;
        grows = λ k l. (l, refl);
        kept = by;
      }
        where
          by : (k : ℕ) (u : Progress U) → Beside k s o.commands u → Beside k (stopped M j s) o.commands (single U e u)
          by k u (alike y l is) = over n l
          by k u (first f) = by_first (λ k l. (l, refl)) (single_same e u (left_of f)) f
          by k u (over y l) = absurd (y z)

      module _ (d : Done M e s) where
        abbrev made : Progress M
        made = counted M s (outcome M e s).1 (lines_of M s e (outcome M e s))

        abbrev c : Command
        c = record { process = process_of e; order = order_of e; value = value_of (M.width s.memory) e }

        abbrev now : S made
        now = one_more M traced m listing e s d o

        -- the run for k commands does it, too
        also : (k : ℕ) → s.entries < k → single U e (beside k s) ≡ beside k made
        unfolding single
        also k l =
            let few : leb most_entries s.entries ≡ false = lt-leb most_entries s.entries d.few in
            let some : eqb (k - s.entries) 0 ≡ false = ne_eqb (k - s.entries) 0 (λ x. omega (arith, x, l)) in
            let one : (k - s.entries) - 1 ≡ k - (s.entries + 1) = omega (arith, l) in
            simp (few, some, eq-eqb (M.number_of (outcome M e s).0) 0 d.accepted, one)

        reached : (k : ℕ) (u : Progress U) → s.entries < k → u ≡ beside k made → (b : Bool) → ltb (s.entries + 1) k ≡ b → Beside k made now.commands u
        reached k u l is true x = alike refl (ltb-true (s.entries + 1) k x) is
        reached k u l is false x =
            let all : k ≡ s.entries + 1 = omega (arith, l, ltb-false (s.entries + 1) k x) in
            first (record {
              entries = ap (λ (v : Progress U). v.entries) is ∙ sym all;
              memory = ap (λ (v : Progress U). v.memory) is
                  ∙ ap (λ (i : ℕ). (i, made.memory)) (let none : k - (s.entries + 1) ≡ 0 = omega (arith, all) in none)
                  ∙ ap (λ (x : M.Memory). (0, x)) (now.memory ∙ ap (after_all (next M) m) (sym (take_all k now.commands (omega (arith, all, now.count)))));
              some = omega (arith, all, now.count);
            })

        after_more : s.stop ≡ 0 → After s o.commands made (single U e)
        after_more z = record {
          so = now;
          grows = grown;
          kept = by;
        }
          where
            grown : Grows o.commands now.commands
            grown = subst (Grows o.commands) (sym (one_behind M traced m listing e s d o))
                (λ k l. (omega (arith, l, length-append o.commands (c ∷ [])), take-append-le k o.commands (c ∷ []) l))

            by : (k : ℕ) (u : Progress U) → Beside k s o.commands u → Beside k made now.commands (single U e u)
            by k u (alike y l is) = reached k (single U e u) l (ap (single U e) is ∙ also k l) (ltb (s.entries + 1) k) refl
            by k u (first f) = by_first grown (single_same e u (left_of f)) f
            by k u (over y l) = absurd (y z)

      single_after : After s o.commands (single M e s) (single U e)
      single_after = by (seen M e s)
        where
          by : {t : Progress M} → Next M e s t → After s o.commands t (single U e)
          by (still n) = after_still n
          by (stops z j n) = after_stop z j n
          by (more z d) = after_more d z

    -- one part behind another
    followed : {s s' s'' : Progress M} {cs : List Command} {f g : Progress U → Progress U} (x : After s cs s' f)
        → After s' x.so.commands s'' g → After s cs s'' (λ u. g (f u))
    followed x y = record {
      so = y.so;
      grows = λ k l. let a = x.grows k l in let b = y.grows k a.0 in (b.0, b.1 ∙ a.1);
      kept = λ k u b. y.kept k _ (x.kept k u b);
    }

    abbrev on_step : ℕ → Progress U → Progress U
    on_step p u = single U (Step p) u

    -- whether a further step of p follows
    abbrev more_steps : ℕ → ℕ → Progress U → Progress U
    more_steps left p u = cond (unanswered U p u) (steps U left p u) u

    module _ (left p : ℕ) (s : Progress M) (o : S s) where
      answered : unanswered M p s ≡ false → After s o.commands s (more_steps left p)
      answered q = record {
        so = o;
        grows = λ k l. (l, refl);
        kept = by;
      }
        where
          by : (k : ℕ) (u : Progress U) → Beside k s o.commands u → Beside k s o.commands (more_steps left p u)
          by k u (alike z l is) =
              let no : unanswered U p (beside k s) ≡ false = ap (λ (b : Bool). b && not (M.idle s.memory p)) (sym (eq-eqb s.stop 0 z)) ∙ q in
              alike z l (ap (more_steps left p) is ∙ ap (λ (b : Bool). cond b (steps U left p (beside k s)) (beside k s)) no)
          by k u (first f) =
              by_first (λ k l. (l, refl)) (either_same (unanswered U p u) (steps_same left p u (left_of f)) (same u)) f
          by k u (over z l) = over z l

      unanswered_after : unanswered M p s ≡ true → After s o.commands (steps M left p s) (steps U left p) → After s o.commands (steps M left p s) (more_steps left p)
      unanswered_after q x = record {
        so = x.so;
        grows = x.grows;
        kept = by;
      }
        where
          by : (k : ℕ) (u : Progress U) → Beside k s o.commands u → Beside k (steps M left p s) x.so.commands (more_steps left p u)
          by k u (alike z l is) =
              let yes : unanswered U p (beside k s) ≡ true = ap (λ (b : Bool). b && not (M.idle s.memory p)) (sym (eq-eqb s.stop 0 z)) ∙ q in
              let same : more_steps left p u ≡ steps U left p u =
              ap (λ (b : Bool). cond b (steps U left p u) u) (ap (unanswered U p) is ∙ yes) in
              subst (Beside k (steps M left p s) x.so.commands) (sym same) (x.kept k u (alike z l is))
          by k u (first f) =
              by_first x.grows (either_same (unanswered U p u) (steps_same left p u (left_of f)) (same u)) f
          by k u (over z l) = absurd (z (busy_after M p s q).0)

    by_test : (left p : ℕ) (s : Progress M) (o : S s) (b : Bool) → unanswered M p s ≡ b → After s o.commands (steps M left p s) (steps U left p)
        → After s o.commands (cond b (steps M left p s) s) (more_steps left p)
    by_test left p s o true q x = unanswered_after left p s o q x
    by_test left p s o false q x = answered left p s o q

    steps_after : (left p : ℕ) (s : Progress M) (o : S s) → After s o.commands (steps M left p s) (steps U left p)
    unfolding steps
    steps_after zero p s o = record { so = o; grows = λ k l. (l, refl); kept = λ k u b. b }
    steps_after (suc left) p s o =
        let one = single_after (Step p) s o in
        followed one (by_test left p (single M (Step p) s) one.so (unanswered M p (single M (Step p) s)) refl (steps_after left p (single M (Step p) s) one.so))

    -- `!`, with a step for each entry that is left
    module _ (p : ℕ) (s : Progress M) (o : S s) where
      abbrev finish_on : Progress U → Progress U
      finish_on u = cond (eqb u.stop 0) (finish U p u) u

      finish_same : (u : Progress U) → u.memory.0 ≡ 0 → Same u (finish_on u)
      finish_same u z = either_same (eqb u.stop 0) (steps_same (suc (most_entries - u.entries)) p u z) (same u)

      finish_after : (b : Bool) → eqb s.stop 0 ≡ b → After s o.commands (cond b (finish M p s) s) finish_on
      finish_after false q = record {
        so = o;
        grows = λ k l. (l, refl);
        kept = by;
      }
        where
          by : (k : ℕ) (u : Progress U) → Beside k s o.commands u → Beside k s o.commands (finish_on u)
          by k u (alike z l is) = absurd (eqb-false s.stop 0 q z)
          by k u (first f) = by_first (λ k l. (l, refl)) (finish_same u (left_of f)) f
          by k u (over z l) = over z l
      finish_after true q =
          let x = steps_after (suc (most_entries - s.entries)) p s o in
          record { so = x.so; grows = x.grows; kept = by x }
        where
          by : (x : After s o.commands (finish M p s) (steps U (suc (most_entries - s.entries)) p)) (k : ℕ) (u : Progress U)
              → Beside k s o.commands u → Beside k (finish M p s) x.so.commands (finish_on u)
          by x k u (alike z l is) =
              let same : finish_on u ≡ steps U (suc (most_entries - s.entries)) p u =
              ap (λ (i : ℕ). cond (eqb i 0) (finish U p u) u) (ap (λ (v : Progress U). v.stop) is)
              ∙ ap (λ (i : ℕ). steps U (suc (most_entries - i)) p u) (ap (λ (v : Progress U). v.entries) is) in
              subst (Beside k (finish M p s) x.so.commands) (sym same) (x.kept k u (alike z l is))
          by x k u (first f) = by_first x.grows (finish_same u (left_of f)) f
          by x k u (over z l) = absurd (z (eqb-true s.stop 0 q))

    carry_after : (e : Entry) (s : Progress M) (o : S s) → After s o.commands (carry M e s) (carry U e)
    unfolding carry
    carry_after (StartLl p) s o = single_after (StartLl p) s o
    carry_after (StartVl p) s o = single_after (StartVl p) s o
    carry_after (StartSc p k) s o = single_after (StartSc p k) s o
    carry_after (Step p) s o = single_after (Step p) s o
    carry_after (Finish p) s o = finish_after p s o (eqb s.stop 0) refl

    all_after : (es : List Entry) (s : Progress M) (o : S s) → After s o.commands (carry_all M es s) (carry_all U es)
    unfolding carry_all
    all_after [] s o = record { so = o; grows = λ k l. (l, refl); kept = λ k u b. b }
    all_after (e ∷ es) s o =
        let x = carry_after e s o in
        followed x (all_after es (carry M e s) x.so)

    -- before the first entry
    abbrev begun_for : ℕ → Progress U
    begun_for k = begun U false (k, m) quiet 0

    at_first : (k : ℕ) → Beside k (begun M traced m listing 0) [] (begun_for k)
    at_first zero = first (record { entries = refl; memory = refl; some = omega arith })
    at_first (suc k) = alike refl (omega arith) (ap begun_for (let all : suc k ≡ suc k - 0 = omega arith in all))

    module _ (es : List Entry) where
      abbrev run : Progress M
      run = carry_all M es (begun M traced m listing 0)

      abbrev whole : After (begun M traced m listing 0) [] run (carry_all U es)
      whole = all_after es (begun M traced m listing 0) (none_yet M traced m listing)

      done : (k : ℕ) → k ≤ length whole.so.commands → First k whole.so.commands (carry_all U es (begun_for k))
      done k l = by (whole.kept k (begun_for k) (at_first k))
        where
          by : Beside k run whole.so.commands (carry_all U es (begun_for k)) → First k whole.so.commands (carry_all U es (begun_for k))
          by (alike z few is) = absurd (let w : ⊥ = omega (arith, l, few, whole.so.count) in w)
          by (first f) = f
          by (over z few) = absurd (let w : ⊥ = omega (arith, l, few, whole.so.count) in w)

      pub first_states : FirstStates M m traced listing (ended M run) (λ k. ended U (carry_all U es (begun_for k)))
      first_states = record {
        carries = carried M traced m listing run whole.so;
        entries = λ k l. (done k l).entries;
        memory = λ k l. ap (λ (x : ℕ × M.Memory). x.1) (done k l).memory;
      }
