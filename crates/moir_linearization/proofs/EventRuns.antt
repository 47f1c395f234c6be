-- What a reader of the events knows, command after command: Watches is kept, and the calls answered are the machine's.
use mathlib.Core.Path.{◌≡◌, refl, sym, ap, subst, ◌∙◌}
use mathlib.Core.Bool.{Bool, true, false, not, cond}
use mathlib.Core.List.{List, [], map}
use Prim.Native.Nat.{ℕ, suc, ◌+◌, ◌<◌}
use native.Mathlib.Omega.{arith}
use lib.Dec.{ltb, eqb}
use lib.ListN.{length, get_or}
use borrow.Author.Tests.{ltb-true, ltb-false, eqb-true, eq-eqb, ne_eqb}
use Rattle.llsc.specs.declared.Order.{Order}
use Rattle.llsc.specs.declared.Order.TheVariants.{StartLl, StartSc, StartVl, Step}
use Rattle.llsc.specs.Object.{sc, set_at}
use Rattle.llsc.specs.History.{Command}
use Rattle.laws.proofs.Updates.{upd, upd_same, upd_other, Split, same, other, split, by_test, by_test₂, contra, ifb_eq, ifb_ne}
use Rattle.laws.proofs.Parts.{tab, tab_list}
use Rattle.moir_model.specs.Points.{Point, idle, ll10, sc14, vl13}
use Rattle.llsc.specs.Answers.{refused, accepted}
use Rattle.moir_model.specs.Replies.{Said}
use Rattle.moir_model.specs.History.{Event, running, Known, known_after, watch, call_of, nothing_known}
use Rattle.moir_linearization.specs.Linearizable.{Served}
use Rattle.moir_linearization.proofs.PointRanges.{is_idle, busy, copying}
use Rattle.moir_linearization.proofs.GhostMachine.{Local, Shared, State, begin, step, step_at}
use Rattle.moir_linearization.proofs.GhostRuns.{Cmd, exec, starts, started, is_step, set_up}
use Rattle.moir_linearization.proofs.GhostHistories.{answer_at, answer_of, last_by}
use Rattle.moir_linearization.proofs.GhostEvents.{ghost, said_by, wins, start_said, says}
use Rattle.moir_linearization.proofs.StepShape.{shape}
use Rattle.moir_linearization.proofs.Numbers.{Numbers}
use Rattle.moir_linearization.proofs.InvariantRuns.{idle_is}
use Rattle.moir_linearization.proofs.Watching.{KnownOK, called, step_ok}

-- S counts the successes up to a command, R relates a process to the commands in which its SC succeeded
module _ (N M W : ℕ) (S : ℕ → ℕ) (R : ℕ → ℕ → Type 0) where
  -- after m commands
  pub record Watches (m : ℕ) (s : State) (last : ℕ → ℕ) (x : ℕ → Known) : Type 0 where
    pub each : (q : ℕ) → q < N → KnownOK W S (s.loc q) (last q) (x q)
    pub count : S m ≡ s.sh.successes
    pub winner : 0 < s.sh.won_at → R s.sh.pid s.sh.won_at

  module _ (m : ℕ) (c : Command) (s : State) (last : ℕ → ℕ) (x : ℕ → Known) (i : Watches m s last x) where
    abbrev p : ℕ
    p = c.process

    abbrev n : ℕ
    n = suc m

    abbrev here : State → Said → Event
    here u sd = record { command = c; said = sd; won = wins p s u }

    -- the event of c, after which the state is u, if S and R take it in: what is known is kept, and the calls cs are answered
    pub record EventOK (cs : List Served) (u : State) (sd : Said) : Type 0 where
      pub watches : S n ≡ cond (wins p s u) (suc (S m)) (S m) → (wins p s u ≡ true → R p n) → Watches n u (last_by n (ghost W c) last) (watch n (here u sd) x)
      pub calls : call_of p n sd (x p) ≡ map (called (x p) ((s.loc p).count + 1)) cs

    known_as : (d e : ℕ) (l l' : Local) (k k' : Known) → l' ≡ l → k' ≡ k → (copying l.point ≡ true → d ≡ e) → KnownOK W S l d k → KnownOK W S l' e k'
    known_as d e l l' k k' em ek f a =
        subst (λ z. KnownOK W S z e k') (sym em)
        (subst (KnownOK W S l e) (sym ek) (record {
          last = a.last;
          slot_is = a.slot_is;
          last_is = λ y. a.last_is y ∙ f y;
          since_is = a.since_is;
          unread_is = a.unread_is;
          read_is = a.read_is;
          named_is = a.named_is;
        }))

    -- the last success, by whether this one is
    winner_of : (b : Bool) (h h' : Shared) → h'.pid ≡ cond b p h.pid → h'.won_at ≡ cond b n h.won_at
        → (b ≡ true → R p n) → (0 < h.won_at → R h.pid h.won_at) → 0 < h'.won_at → R h'.pid h'.won_at
    winner_of true h h' e f y z w = rw (e, f) (y refl)
    winner_of false h h' e f y z w = rw (e, f) (z (rw f at w))

    assemble : (u : State) (sd : Said) (cs : List Served) → ((q : ℕ) → (q ≡ p → ⊥) → u.loc q ≡ s.loc q)
        → ((q : ℕ) → (q ≡ p → ⊥) → is_step q (ghost W c) ≡ false)
        → (p < N → S n ≡ cond (wins p s u) (suc (S m)) (S m) → KnownOK W S (u.loc p) (last_by n (ghost W c) last p) (known_after n (here u sd) sd (x p)))
        → u.sh.successes ≡ cond (wins p s u) (suc s.sh.successes) s.sh.successes
        → u.sh.pid ≡ cond (wins p s u) p s.sh.pid → u.sh.won_at ≡ cond (wins p s u) n s.sh.won_at
        → call_of p n sd (x p) ≡ map (called (x p) ((s.loc p).count + 1)) cs → EventOK cs u sd
    assemble u sd cs others steps own a b w e = record {
      watches = λ counts wins_in. record {
        each = λ q hq. go q hq counts (split q p);
        count = counts ∙ ap (λ v. cond (wins p s u) (suc v) v) i.count ∙ sym a;
        winner = winner_of (wins p s u) s.sh u.sh b w wins_in i.winner;
      };
      calls = e;
    }
      where
        after : Known
        after = known_after n (here u sd) sd (x p)

        go : (q : ℕ) → q < N → S n ≡ cond (wins p s u) (suc (S m)) (S m) → Split q p → KnownOK W S (u.loc q) (last_by n (ghost W c) last q) (set_at p after x q)
        go q hq counts (same z) =
            known_as _ _ (u.loc p) (u.loc q) after (set_at p after x q) (ap u.loc z) (ifb_eq q p after (x q) z)
            (λ _. ap (last_by n (ghost W c) last) (sym z)) (own (subst (◌< N) z hq) counts)
        go q hq counts (other ne) =
            known_as _ _ (s.loc q) (u.loc q) (x q) (set_at p after x q) (others q ne) (ifb_ne q p after (x q) ne)
            (λ _. sym (ap (λ b. cond b n (last q)) (steps q ne))) (i.each q hq)

    no_win : (b : Bool) → cond b false b ≡ false
    no_win true = refl
    no_win false = refl

    -- nothing won: the three equations
    unwon : {A : Type 0} {b : Bool} (y z : A) → b ≡ false → z ≡ cond b y z
    unwon y z e = sym (ap (λ b. cond b y z) e)

    refused_ok : (k : ℕ) → ((q : ℕ) → (q ≡ p → ⊥) → is_step q (ghost W c) ≡ false)
        → (p < N → copying (s.loc p).point ≡ true → last p ≡ last_by n (ghost W c) last p) → EventOK [] s (refused k)
    refused_ok k steps f =
        let z = no_win (copying (s.loc p).point) in
        assemble s (refused k) [] (λ q _. refl) steps (λ hp _. known_as _ _ _ _ _ _ refl refl (f hp) (i.each p hp))
        (unwon _ _ z) (unwon _ _ z) (unwon _ _ z) refl

    start_ok : (y : Point) (v : ℕ) (w : ℕ → ℕ) → ((q : ℕ) → is_step q (ghost W c) ≡ false) → copying y ≡ false → (s.loc p).point ≡ idle
        → (p < N → S n ≡ s.sh.successes → KnownOK W S (begin y n v w (s.loc p)) (last_by n (ghost W c) last p)
        (known_after n (record { command = c; said = accepted; won = false }) accepted (x p)))
        → EventOK [] (started N M W n p y v w s) accepted
    start_ok y v w steps ey ei own =
        let u = started N M W n p y v w s in
        let e : upd s.loc p (begin y n v w (s.loc p)) p ≡ begin y n v w (s.loc p) = upd_same s.loc p (begin y n v w (s.loc p)) in
        let z : wins p s u ≡ false = ap (λ o. cond (copying o) false
        (copying (upd s.loc p (begin y n v w (s.loc p)) p).point)) ei
        ∙ ap (λ (l : Local). copying l.point) e ∙ ey in
        assemble u accepted [] (λ q ne. upd_other s.loc p q _ ne) (λ q _. steps q)
        (λ hp counts.
        let f : S n ≡ s.sh.successes = counts ∙ ap (λ b. cond b (suc (S m)) (S m)) z ∙ i.count in
        subst (λ l. KnownOK W S l (last_by n (ghost W c) last p) (known_after n (here u accepted) accepted (x p))) (sym e)
        (subst (λ b. KnownOK W S (begin y n v w (s.loc p)) (last_by n (ghost W c) last p)
        (known_after n (record { command = c; said = accepted; won = b }) accepted (x p))) (sym z) (own hp f)))
        (unwon _ _ z) (unwon _ _ z) (unwon _ _ z) refl

    -- a start, by its four tests
    by_start : (y : Point) (v : ℕ) (w : ℕ → ℕ) (f ok : Bool) → ((q : ℕ) → is_step q (ghost W c) ≡ false) → copying y ≡ false
        → (p < N → f ≡ true → S n ≡ s.sh.successes → KnownOK W S (begin y n v w (s.loc p))
        (last_by n (ghost W c) last p) (known_after n
        (record { command = c; said = accepted; won = false }) accepted (x p)))
        → EventOK [] (starts N M W n p y v w f ok s) (start_said N M W p f ok s)
    by_start y v w f ok steps ey own =
        by_test₂ (EventOK []) (ltb p N)
        (λ _. by_test₂ (EventOK []) f
        (λ ef. by_test₂ (EventOK []) (is_idle (s.loc p).point)
        (λ b. by_test₂ (EventOK []) ok (λ _. start_ok y v w steps ey (idle_is _ b) (λ hp e. own hp ef e))
        (λ _. stay 7)) (λ _. stay 5)) (λ _. stay 8)) (λ _. stay 4)
      where
        stay : (k : ℕ) → EventOK [] s (refused k)
        stay k = refused_ok k (λ q _. steps q) (λ _ _. sym (ap (λ b. cond b n (last p)) (steps p)))

  by_three : {A B C : Type 0} (P : A → B → C → Type 0) (b : Bool) {x y : A} {u v : B} {r t : C}
      → (b ≡ true → P x u r) → (b ≡ false → P y v t) → P (cond b x y) (cond b u v) (cond b r t)
  by_three P true f g = f refl
  by_three P false f g = g refl

  module _ (m : ℕ) (s : State) (last : ℕ → ℕ) (x : ℕ → Known) (i : Watches m s last x) (num : Numbers M W (suc m) s) where
    -- a step of a busy process
    module _ (p : ℕ) (v : List ℕ) (hp : p < N) where
      abbrev c : Command
      c = record { process = p; order = Step; value = v }

      abbrev y : Point
      y = (s.loc p).point

      abbrev k : KnownOK W S (s.loc p) (last p) (x p)
      k = i.each p hp

      step_event_is : busy y ≡ true → EventOK m c s last x i (answer_at W y (suc m) p s) (step_at M W y (suc m) p s)
          (said_by (answer_at W y (suc m) p s) ((s.loc p).count + 1))
      step_event_is b =
          let a = (step_ok M W (suc m) S s p v (x p) k.last y b k.slot_is k.since_is k.named_is k.unread_is
          k.read_is (num.each p)).ok in
          assemble m c s last x i (step_at M W y (suc m) p s) (said_by (answer_at W y (suc m) p s) ((s.loc p).count + 1)) (answer_at W y (suc m) p s)
          (λ q ne. (shape M W (suc m) s p y).others q ne) (λ q ne. ne_eqb p q (λ z. ne (sym z)))
          (λ _ counts. known_as m c s last x i (suc m) (last_by (suc m) (Cmd.go p) last p) _ _ _ _ refl refl
          (λ _. sym (ap (λ b. cond b (suc m) (last p)) (eq-eqb p p refl)))
          (a.known (counts ∙ ap (λ v. cond (wins p s (step_at M W y (suc m) p s)) (suc v) v) i.count)))
          a.count a.who a.when a.calls

      idle_event : (z : Point) → y ≡ z → z ≡ idle → EventOK m c s last x i (answer_at W z (suc m) p s) (step_at M W z (suc m) p s) (refused 6)
      unfolding step_at
      idle_event z ey e =
          subst (λ z. EventOK m c s last x i (answer_at W z (suc m) p s) (step_at M W z (suc m) p s) (refused 6)) (sym e)
          (refused_ok m c s last x i 6 (λ q ne. ne_eqb p q (λ z. ne (sym z))) (λ _ b. absurd (contra b (ap copying (ey ∙ e)))))

      go_event : EventOK m c s last x i (answer_at W y (suc m) p s) (step_at M W y (suc m) p s)
          (cond (is_idle y) (refused 6) (said_by (answer_at W y (suc m) p s) ((s.loc p).count + 1)))
      go_event = by_test (EventOK m c s last x i (answer_at W y (suc m) p s) (step_at M W y (suc m) p s)) (is_idle y)
          (λ e. idle_event y refl (idle_is y e)) (λ e. step_event_is (ap not e))

    by_order : (p : ℕ) (o : Order) (v : List ℕ)
        → (let c : Command = record { process = p; order = o; value = v } in EventOK m c s last x i
        (answer_of N M W (suc m) (ghost W c) s) (exec N M W (suc m) (ghost W c) s) (says N M W (suc m) (ghost W c) s))
    unfolding exec says answer_of step
    by_order p StartLl v =
        by_start m (record { process = p; order = StartLl; value = v }) s last x i ll10 _ _ true true (λ q. refl) refl
        (λ hp _ e. record {
          last = suc m;
          slot_is = refl;
          last_is = λ z. absurd (contra z refl);
          since_is = e;
          unread_is = refl;
          read_is = (i.each p hp).read_is;
          named_is = (i.each p hp).named_is;
        })
    by_order p StartVl v =
        by_start m (record { process = p; order = StartVl; value = v }) s last x i vl13 _ _ true (s.loc p).mark (λ q. refl) refl
        (λ hp _ e. record {
          last = suc m;
          slot_is = refl;
          last_is = λ z. absurd (contra z refl);
          since_is = (i.each p hp).since_is;
          unread_is = refl;
          read_is = (i.each p hp).read_is;
          named_is = (i.each p hp).named_is;
        })
    by_order p StartSc v =
        by_start m (record { process = p; order = StartSc; value = v }) s last x i sc14 _ (λ k. get_or v k 0) (eqb (length v) W) (s.loc p).mark (λ q. refl) refl
        (λ hp f e. record {
          last = suc m;
          slot_is = ap (λ ws. running (sc ws) (suc m) (suc m) 0 false) (sym (words_are (eqb-true _ _ f)));
          last_is = λ z. absurd (contra z refl);
          since_is = (i.each p hp).since_is;
          unread_is = refl;
          read_is = (i.each p hp).read_is;
          named_is = (i.each p hp).named_is;
        })
      where
        words_are : length v ≡ W → tab W (λ k. get_or v k 0) ≡ v
        words_are e = rw (sym e) (tab_list v)
    by_order p Step v =
        by_three (λ cs u sd. EventOK m (record { process = p; order = Step; value = v }) s last x i cs u sd) (ltb p N) (λ e. go_event p v (ltb-true _ _ e))
        (λ e. refused_ok m (record { process = p; order = Step; value = v }) s last x i 4
        (λ q ne. ne_eqb p q (λ z. ne (sym z))) (λ hp _. absurd (let z = ltb-false p N e in omega arith)))

    pub event : (c : Command) → EventOK m c s last x i (answer_of N M W (suc m) (ghost W c) s)
        (exec N M W (suc m) (ghost W c) s) (says N M W (suc m) (ghost W c) s)
    event c = by_order c.process c.order c.value

  pub watches_at_set_up : (v : ℕ → ℕ) → S 0 ≡ 0 → Watches 0 (set_up v) (λ q. 0) nothing_known
  watches_at_set_up v e = record {
    each = λ q hq.
        record { last = 0; slot_is = refl; last_is = λ _. refl; since_is = e; unread_is = refl; read_is = e; named_is = refl };
    count = e;
    winner = λ h. absurd (omega arith);
  }
