-- The answered calls of the bench, by the ghost machine: each is well formed, and each SC or VL has an earlier answered
-- LL of its process.
use mathlib.Core.Path.{◌≡◌, refl, sym, ap, ◌∙◌}
use mathlib.Core.Bool.{Bool, true, false, cond}
use mathlib.Core.List.{List, [], ◌∷◌, ◌++◌, map}
use Prim.Native.Nat.{ℕ, zero, suc, ◌%◌, ◌/◌, ◌<◌}
use native.Mathlib.Omega.{arith}
use lib.Dec.{ltb, eqb}
use lib.ListN.{length}
use borrow.Author.Tests.{ltb-true}
use Rattle.model.specs.Sizes.{halves}
use Rattle.model.specs.Points.{Point, idle, line1, line2, line3, line4, line5, line6, line7, line7copy, line8, line9, line10, line11}
use Rattle.model.specs.Points.{line12, line12valid, line13, line14, line14valid, line15, line17, line18, line19, line23}
use Rattle.llsc.specs.Object.{set_at}
use Rattle.llsc.specs.History.{Slot, none, running, Call}
use Rattle.llsc.specs.Linearizable.{All, Timed}
use Rattle.laws.proofs.Updates.{upd, upd_same, upd_other, Split, same, other, split, by_test, by_test₂, contra, ifb_eq, ifb_ne}
use Rattle.linearization.proofs.PointFacts.{is_idle}
use Rattle.linearization.proofs.GhostMachine
use Rattle.linearization.proofs.GhostMachine.{Local, Shared, State, quiet, noisy}
use Rattle.laws.proofs.Parts.{tab}
use Rattle.linearization.proofs.WordLists.{words_of}
use Rattle.linearization.proofs.Slots.{slot_of}
use Rattle.linearization.proofs.GhostRuns
use Rattle.linearization.proofs.GhostRuns.{Cmd, starts, exec, call_at, call_f, calls_f, setup}
use Rattle.laws.specs.Lists.{Any, here, there}
use Rattle.laws.proofs.AllLaws.{all_of, all_both, all_map, all_join}
use Rattle.verdict_laws.specs.CallFacts.{WellFormed, Follows, InTurn, needs_ll, Leads, Led}

abbrev to_call : Timed → Call
to_call t = t.call

-- which processes had an LL answered, after a call and after some
abbrev had_by : Call → (ℕ → Bool) → ℕ → Bool
had_by c had = cond (needs_ll c.kind) had (set_at c.process true had)

abbrev had_after : List Call → (ℕ → Bool) → ℕ → Bool
had_after [] had = had
had_after (c ∷ cs) had = had_after cs (had_by c had)

had_stays : (c : Call) (had : ℕ → Bool) (q : ℕ) → had q ≡ true → had_by c had q ≡ true
had_stays c had q e = by_test (λ (h : ℕ → Bool). h q ≡ true) (needs_ll c.kind) (λ _. e) (λ _. go (split q c.process))
  where
    go : Split q c.process → set_at c.process true had q ≡ true
    go (same z) = ifb_eq q c.process true (had q) z
    go (other ne) = ifb_ne q c.process true (had q) ne ∙ e

-- an SC or VL comes only where its process had an LL answered
abbrev After : (ℕ → Bool) → Call → Type 0
After had c = needs_ll c.kind ≡ true → had c.process ≡ true

-- each of a list
abbrev AfterLl : (ℕ → Bool) → List Call → Type 0
AfterLl had [] = Unit {0}
AfterLl had (c ∷ cs) = After had c × AfterLl (had_by c had) cs

after_join : (had : ℕ → Bool) (xs ys : List Timed) → All (λ t. After had (to_call t)) xs → AfterLl (had_after (map to_call xs) had) (map to_call ys) → AfterLl had (map to_call (xs ++ ys))
after_join had [] ys a b = b
after_join had (x ∷ xs) ys a b =
    let had' = had_by x.call had in
    (a.0, after_join had' xs ys (all_of (λ t. After had (to_call t)) (λ t. After had' (to_call t)) (λ t f z. had_stays x.call had t.call.process (f z)) xs a.1) b)

-- so each has its LL: `full` is the whole list, of which cs is the rest
led_from : (full cs : List Call) (had : ℕ → Bool) → ((P : Call → Type 0) → Any P cs → Any P full) → AfterLl had cs
    → InTurn cs → All (λ c. had c.process ≡ true → Any (Leads c) full) cs
    → All (λ c. needs_ll c.kind ≡ true → Any (Leads c) full) cs
led_from full [] had up l f h = tt
led_from full (x ∷ xs) had up l f h = (
  λ z. h.0 (l.0 z),
  led_from full xs (had_by x had) (λ P a. up P (there a)) l.1 f.1
      (all_of _ (λ c. had_by x had c.process ≡ true → Any (Leads c) full) (λ c y. by_kind c y.0 y.1 (needs_ll x.kind) refl) xs (all_both _ _ xs h.1 f.0)),
)
  where
    by_kind : (c : Call) → (had c.process ≡ true → Any (Leads c) full) → Follows x c → (b : Bool) → needs_ll x.kind ≡ b
        → cond b had (set_at x.process true had) c.process ≡ true → Any (Leads c) full
    by_kind c g w true e z = g z
    by_kind c g w false e z = go (split c.process x.process)
      where
        go : Split c.process x.process → Any (Leads c) full
        go (same p) = up (Leads c) (here (record { process = sym p; is_ll_is = e; answered = w (sym p) }))
        go (other ne) = g (sym (ifb_ne c.process x.process true (had c.process) ne) ∙ z)

led : (cs : List Call) → AfterLl (λ p. false) cs → InTurn cs → Led cs
led cs l f = led_from cs cs (λ p. false) (λ P a. a) l f (none_had cs)
  where
    none_had : (xs : List Call) → All (λ c. false ≡ true → Any (Leads c) cs) xs
    none_had [] = tt
    none_had (x ∷ xs) = (λ z. absurd (contra z refl), none_had xs)

-- the points of an SC or a VL
abbrev slot_needs : Slot → Bool
slot_needs none = false
slot_needs (running kind start steps) = needs_ll kind

abbrev point_needs : Point → Bool
point_needs y = slot_needs (slot_of y 0 0 [])

-- a process is marked only where an LL of it was answered, and an open SC or VL is only where it is marked
record Marked (had : ℕ → Bool) (s : State) : Type 0 where
  marked : (q : ℕ) → (s.loc q).answered ≡ true → had q ≡ true
  needs : (q : ℕ) → point_needs (s.loc q).point ≡ true → (s.loc q).answered ≡ true

words_length : (w : ℕ) (f : ℕ → ℕ) → length (words_of (halves w) f) ≡ w
words_length w f = tab_length (halves w / 2) _ ∙ (let z : halves w / 2 ≡ w = omega arith in z)
  where
    tab_length : (n : ℕ) (f : ℕ → ℕ) → length (tab n f) ≡ n
    tab_length zero f = refl
    tab_length (suc n) f = ap suc (tab_length n (λ k. f (suc k)))

module _ (N w : ℕ) where
  abbrev W : ℕ
  W = halves w

  module _ (t p : ℕ) (s : State) (had : ℕ → Bool) (m : Marked had s) where
    abbrev l : Local
    l = s.loc p

    -- what a step answers
    abbrev Answers : List Timed → Type 0
    Answers ts = All (λ (t : Timed). WellFormed N w t.call × After had t.call) ts

    call_at_lem : (y : Point) → point_needs l.point ≡ point_needs y → p < N → Answers (call_at N W y t p s)
    call_at_lem idle e h = tt
    call_at_lem line1 e h = tt
    call_at_lem line2 e h = tt
    call_at_lem line3 e h = tt
    call_at_lem line4 e h = tt
    call_at_lem line5 e h = tt
    call_at_lem line6 e h = tt
    call_at_lem line7 e h = tt
    call_at_lem line7copy e h = tt
    call_at_lem line8 e h = tt
    call_at_lem line9 e h = tt
    call_at_lem line10 e h = tt
    call_at_lem line11 e h =
        by_test Answers (ltb (suc l.word) W) (λ _. tt) (λ _. ((record { process = h; formed = words_length w l.returned }, λ z. absurd (contra z refl)), tt))
    call_at_lem line12 e h = tt
    call_at_lem line12valid e h = tt
    call_at_lem line13 e h = tt
    call_at_lem line14 e h = tt
    call_at_lem line14valid e h = tt
    call_at_lem line15 e h = tt
    call_at_lem line17 e h = tt
    call_at_lem line18 e h = tt
    call_at_lem line19 e h = ((record { process = h; formed = words_length w l.offered }, λ _. m.marked p (m.needs p e)), tt)
    call_at_lem line23 e h = ((record { process = h; formed = tt }, λ _. m.marked p (m.needs p e)), tt)

    -- a write that changes no mark and no point of another process
    on_write_is : (had' : ℕ → Bool) (h : Shared) (g : Local → Local) (k : Local) → ((l : Local) → (g l).point ≡ l.point) → ((l : Local) → (g l).answered ≡ l.answered)
        → ((q : ℕ) → had q ≡ true → had' q ≡ true) → (k.answered ≡ true → had' p ≡ true)
        → (point_needs k.point ≡ true → k.answered ≡ true) → Marked had' (noisy s p h g k)
    on_write_is had' h g k a b c d e = record { marked = λ q. one q (split q p); needs = λ q. two q (split q p) }
      where
        one : (q : ℕ) → Split q p → (upd (λ q. g (s.loc q)) p k q).answered ≡ true → had' q ≡ true
        one q (same z) = rw (z, upd_same (λ q. g (s.loc q)) p k) d
        one q (other ne) = rw (upd_other (λ q. g (s.loc q)) p q k ne, b (s.loc q)) (λ x. c q (m.marked q x))

        two : (q : ℕ) → Split q p → point_needs (upd (λ q. g (s.loc q)) p k q).point ≡ true → (upd (λ q. g (s.loc q)) p k q).answered ≡ true
        two q (same z) = rw (z, upd_same (λ q. g (s.loc q)) p k) e
        two q (other ne) = rw (upd_other (λ q. g (s.loc q)) p q k ne, b (s.loc q), a (s.loc q)) (m.needs q)

    -- a line that keeps the mark: to a point that needs no LL, or from one that does
    module _ (h : Shared) (g : Local → Local) (a : (l : Local) → (g l).point ≡ l.point) (b : (l : Local) → (g l).answered ≡ l.answered) (k : Local) (e : k.answered ≡ l.answered) where
      to_ll : point_needs k.point ≡ false → Marked had (noisy s p h g k)
      to_ll f = on_write_is had h g k a b (λ q x. x) (λ x. m.marked p (sym e ∙ x)) (λ x. absurd (contra x f))

      to_sc : point_needs l.point ≡ true → Marked had (noisy s p h g k)
      to_sc f = on_write_is had h g k a b (λ q x. x) (λ x. m.marked p (sym e ∙ x)) (λ x. e ∙ m.needs p f)

    abbrev quiet_ll : (k : Local) → k.answered ≡ l.answered → point_needs k.point ≡ false → Marked had (quiet s p k)
    quiet_ll k e f = to_ll s.sh (λ l. l) (λ _. refl) (λ _. refl) k e f

    abbrev quiet_sc : (k : Local) → k.answered ≡ l.answered → point_needs l.point ≡ true → Marked had (quiet s p k)
    quiet_sc k e f = to_sc s.sh (λ l. l) (λ _. refl) (λ _. refl) k e f

    words_ll : (y z : Point) (k : Local) → k.answered ≡ l.answered → point_needs y ≡ false → point_needs z ≡ false → Marked had (quiet s p (GhostMachine.word W y z k))
    words_ll y z k e f g = by_test (λ j. Marked had (quiet s p j)) (ltb (suc k.word) W) (λ _. quiet_ll _ e f) (λ _. quiet_ll _ e g)

    abbrev copied : ℕ → Local
    copied b = GhostMachine.set_returned l.word (s.sh.buf b l.word) l

    abbrev helped : ℕ
    helped = l.copy_seq % N

    marked_at : (y : Point) → point_needs l.point ≡ point_needs y → Marked (had_after (map to_call (call_at N W y t p s)) had) (GhostMachine.step_at N W y t p s)
    unfolding GhostMachine.step_at
    marked_at idle e = m
    marked_at line1 e = to_ll _ (GhostMachine.set_link_help p false) (λ _. refl) (λ _. refl) _ refl refl
    marked_at line2 e = quiet_ll _ refl refl
    marked_at line3 e = words_ll line3 line4 (copied l.copy_buf) refl refl refl
    marked_at line4 e = by_test (Marked had) (s.sh.flag p) (λ _. quiet_ll _ refl refl) (λ _. quiet_ll _ refl refl)
    marked_at line5 e = quiet_ll _ refl refl
    marked_at line6 e = words_ll line6 line7 (copied l.copy_buf) refl refl refl
    marked_at line7 e = by_test (Marked had) l.link_x (λ _. quiet_ll _ refl refl) (λ _. quiet_ll _ refl refl)
    marked_at line7copy e = words_ll line7copy line8 (copied l.b) refl refl refl
    marked_at line8 e = by_test (Marked had) (s.sh.flag p) (λ _. quiet_ll _ refl refl) (λ _. quiet_ll _ refl refl)
    marked_at line9 e =
        by_test (Marked had) (l.link_help p) (λ _. to_ll _ (GhostMachine.set_link_help p false) (λ _. refl) (λ _. refl) _ refl refl) (λ _. quiet_ll _ refl refl)
    marked_at line10 e = quiet_ll _ refl refl
    marked_at line11 e =
        by_test₂ (λ (ts : List Timed) (u : State). Marked (had_after (map to_call ts) had) u) (ltb (suc l.word) W) (λ _. to_ll _ (λ l. l) (λ _. refl) (λ _. refl) _ refl refl)
        (λ _. on_write_is (set_at p true had) _ (λ l. l) _ (λ _. refl) (λ _. refl) (λ q x. kept q x (split q p)) (λ _. ifb_eq p p true (had p) refl) (λ _. refl))
      where
        kept : (q : ℕ) → had q ≡ true → Split q p → set_at p true had q ≡ true
        kept q x (same z) = ifb_eq q p true (had q) z
        kept q x (other ne) = ifb_ne q p true (had q) ne ∙ x
    marked_at line12 e = by_test (Marked had) (eqb (s.sh.bank l.copy_seq) l.copy_buf) (λ _. quiet_sc _ refl e) (λ _. quiet_sc _ refl e)
    marked_at line12valid e = by_test (Marked had) l.link_x (λ _. quiet_sc _ refl e) (λ _. quiet_sc _ refl e)
    marked_at line13 e =
        by_test (Marked had) (l.link_bank l.copy_seq) (λ _. to_sc _ (GhostMachine.set_link_bank l.copy_seq false) (λ _. refl) (λ _. refl) _ refl e) (λ _. quiet_sc _ refl e)
    marked_at line14 e = by_test (Marked had) (s.sh.flag helped) (λ _. quiet_sc _ refl e) (λ _. quiet_sc _ refl e)
    marked_at line14valid e = by_test (Marked had) l.link_x (λ _. quiet_sc _ refl e) (λ _. quiet_sc _ refl e)
    marked_at line15 e =
        by_test (Marked had) (l.link_help helped) (λ _. to_sc _ (GhostMachine.set_link_help helped false) (λ _. refl) (λ _. refl) _ refl e) (λ _. quiet_sc _ refl e)
    marked_at line17 e =
        by_test (λ k. Marked had (noisy s p (GhostMachine.w_buf l.mybuf l.word (l.offered l.word) s.sh) (λ l. l) k)) (ltb (suc l.word) W)
        (λ _. to_sc _ (λ l. l) (λ _. refl) (λ _. refl) _ refl e) (λ _. to_sc _ (λ l. l) (λ _. refl) (λ _. refl) _ refl e)
    marked_at line18 e = quiet_sc _ refl e
    marked_at line19 e =
        by_test (Marked had) l.link_x (λ _. to_sc _ (GhostMachine.set_link_x false) (λ _. refl) (λ _. refl) _ refl e) (λ _. to_sc _ (λ l. l) (λ _. refl) (λ _. refl) _ refl e)
    marked_at line23 e = to_sc _ (λ l. l) (λ _. refl) (λ _. refl) _ refl e

    start_marked : (y : Point) (v : ℕ → ℕ) (ok : Bool) → (point_needs y ≡ true → ok ≡ true → l.answered ≡ true) → Marked had (starts N W t p y v ok s)
    start_marked y v ok f =
        let k = GhostMachine.begin y v l in
        let begun : ok ≡ true → Marked had (noisy s p (GhostMachine.w_start p t s.sh) (λ l. l) k) = λ z.
        on_write_is had _ (λ l. l) k (λ _. refl) (λ _. refl) (λ q x. x) (m.marked p) (λ x. f x z) in
        by_test (Marked had) (ltb p N) (λ _. by_test (Marked had) (is_idle l.point) (λ _. by_test (Marked had) ok begun (λ _. m)) (λ _. m)) (λ _. m)

  -- a command, and a list of them
  marked_by : (n : ℕ) (c : Cmd) (s : State) (had : ℕ → Bool) → Marked had s → Marked (had_after (map to_call (call_f N W n c s)) had) (exec N W n c s)
  unfolding call_f exec GhostMachine.step
  marked_by n (GhostRuns.Cmd.LL p) s had m = start_marked n p s had m line1 _ true (λ x _. absurd (contra x refl))
  marked_by n (GhostRuns.Cmd.VL p) s had m = start_marked n p s had m line23 _ (s.loc p).answered (λ _ x. x)
  marked_by n (GhostRuns.Cmd.SC p v) s had m = start_marked n p s had m line12 v (s.loc p).answered (λ _ x. x)
  marked_by n (GhostRuns.Cmd.go p) s had m =
      by_test₂ (λ (ts : List Timed) (u : State). Marked (had_after (map to_call ts) had) u) (ltb p N) (λ _. marked_at n p s had m (s.loc p).point refl) (λ _. m)

  call_by : (n : ℕ) (c : Cmd) (s : State) (had : ℕ → Bool) → Marked had s → All (λ (t : Timed). WellFormed N w t.call × After had t.call) (call_f N W n c s)
  unfolding call_f
  call_by n (GhostRuns.Cmd.LL p) s had m = tt
  call_by n (GhostRuns.Cmd.VL p) s had m = tt
  call_by n (GhostRuns.Cmd.SC p v) s had m = tt
  call_by n (GhostRuns.Cmd.go p) s had m =
      by_test (All (λ (t : Timed). WellFormed N w t.call × After had t.call)) (ltb p N) (λ e. call_at_lem n p s had m (s.loc p).point refl (ltb-true _ _ e)) (λ _. tt)

  all_formed : (n : ℕ) (cs : List Cmd) (s : State) (had : ℕ → Bool) → Marked had s → All (λ (t : Timed). WellFormed N w t.call) (calls_f N W n cs s)
  unfolding calls_f
  all_formed n [] s had m = tt
  all_formed n (c ∷ cs) s had m =
      all_join _ (call_f N W n c s) _ (all_of _ _ (λ t z. z.0) (call_f N W n c s) (call_by n c s had m)) (all_formed (suc n) cs (exec N W n c s) _ (marked_by n c s had m))

  all_after : (n : ℕ) (cs : List Cmd) (s : State) (had : ℕ → Bool) → Marked had s → AfterLl had (map to_call (calls_f N W n cs s))
  unfolding calls_f
  all_after n [] s had m = tt
  all_after n (c ∷ cs) s had m =
      after_join had (call_f N W n c s) _ (all_of _ _ (λ t z. z.1) (call_f N W n c s) (call_by n c s had m)) (all_after (suc n) cs (exec N W n c s) _ (marked_by n c s had m))

  module _ (v : ℕ → ℕ) (cs : List Cmd) where
    abbrev answered : List Call
    answered = map to_call (calls_f N W 1 cs (setup N W v))

    no_mark : Marked (λ p. false) (setup N W v)
    no_mark = record { marked = λ q e. e; needs = λ q e. e }

    -- EVERY ANSWERED CALL IS WELL FORMED, AND EVERY SC OR VL HAS AN EARLIER ANSWERED LL OF ITS PROCESS.
    pub set_up_formed : All (WellFormed N w) answered
    set_up_formed = all_map to_call (WellFormed N w) (calls_f N W 1 cs (setup N W v)) (all_formed 1 cs (setup N W v) (λ p. false) no_mark)

    pub set_up_led : InTurn answered → Led answered
    set_up_led turns = led answered (all_after 1 cs (setup N W v) (λ p. false) no_mark) turns
