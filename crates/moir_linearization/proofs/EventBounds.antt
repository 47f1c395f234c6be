-- CR 8's bound over calls and their intervals is the bound at every step of the machine: an interval ends at a call's last
-- step, and the successes only grow.
use mathlib.Core.Path.{◌≡◌, refl, sym, ap, subst, ◌∙◌}
use mathlib.Core.Bool.{Bool, true, false, not, cond, ◌||◌}
use mathlib.Core.List.{List, [], ◌∷◌, map}
use Prim.Native.Nat.{ℕ, suc, ◌+◌, ◌≤◌, ◌<◌}
use native.Mathlib.Omega.{arith}
use lib.Dec.{eqb}
use lib.ListN.{length}
use borrow.Author.Tests.{lt-ltb}
use Rattle.llsc.specs.declared.Order.{Order}
use Rattle.llsc.specs.declared.Order.TheVariants.{StartLl, StartSc, StartVl, Step}
use Rattle.llsc.specs.Object.{Kind}
use Rattle.llsc.specs.History.{Command}
use Rattle.llsc.specs.Linearizable.{All}
use Rattle.laws.proofs.Updates.{Split, same, other, split, by_test, contra, is_false, ifb_eq, ifb_ne}
use Rattle.llsc.specs.Answers.{refused, accepted, answered}
use Rattle.moir_model.specs.Replies.{Said}
use Rattle.moir_model.specs.History.{Event, Slot, none, running, Known, Call, stepped, known_after, watch, ended_by, call_of, open_of, calls_from}
use Rattle.moir_model.specs.History.{successes_up_to, WonFrom}
use Rattle.moir_linearization.specs.Bound.{CallBounded}
use Rattle.moir_linearization.specs.Linearizable.{Served}
use Rattle.moir_linearization.proofs.PointRanges.{is_idle, busy}
use Rattle.moir_linearization.proofs.GhostMachine.{State, step, Bounded}
use Rattle.moir_linearization.proofs.GhostRuns.{go, exec, BoundedAt, BoundedRun}
use Rattle.moir_linearization.proofs.GhostHistories.{answer_at, answer_of, last_by}
use Rattle.moir_linearization.proofs.GhostEvents.{ordered, ghost, said_by, start_said, says, event_of, events}
use Rattle.moir_linearization.proofs.InvariantRuns.{idle_is}
use Rattle.moir_linearization.proofs.Ranges.{Sound, exec_sound}
use Rattle.moir_linearization.proofs.Watching.{slot_of, Running, run_slot, called}
use Rattle.moir_linearization.proofs.SuccessCounts.{Counting, Winning, growing}
use Rattle.moir_linearization.proofs.EventRuns.{Watches, event}
use Rattle.moir_linearization.proofs.CallLists.{all_split, open_of_lem}

module _ (N M W : ℕ) (h_w : 0 < W) (ES : List Event) where
  abbrev S : ℕ → ℕ
  S = successes_up_to ES

  -- what holds after m commands, with the commands cs to come
  pub record Reached (m : ℕ) (cs : List Command) (s : State) (last : ℕ → ℕ) (x : ℕ → Known) : Type 0 where
    pub watches : Watches N M W S (WonFrom 1 ES) m s last x
    pub sound : Sound N M W (suc m) s
    pub counting : Counting S m (events N M W (suc m) cs s)
    pub winning : Winning (WonFrom 1 ES) m (events N M W (suc m) cs s)

  module _ (m : ℕ) (c : Command) (cs : List Command) (s : State) (last : ℕ → ℕ) (x : ℕ → Known) (r : Reached m (c ∷ cs) s last x) where
    abbrev pub u : State
    u = exec N M W (suc m) (ghost W c) s

    pub next : Reached (suc m) cs u (last_by (suc m) (ghost W c) last) (watch (suc m) (event_of N M W (suc m) c s) x)
    unfolding events
    next = record {
      watches = (event N M W S (WonFrom 1 ES) m s last x r.watches r.sound.numbers c).watches r.counting.0 r.winning.0;
      sound = exec_sound N M W h_w (suc m) s (ghost W c) r.sound;
      counting = r.counting.1;
      winning = r.winning.1;
    }

    pub calls_here : call_of c.process (suc m) (says N M W (suc m) (ghost W c) s) (x c.process) ≡ map
        (called (x c.process) ((s.loc c.process).count + 1)) (answer_of N M W (suc m) (ghost W c) s)
    calls_here = (event N M W S (WonFrom 1 ES) m s last x r.watches r.sound.numbers c).calls

  -- a step of a busy process says what it answers
  pub says_step : (n p : ℕ) (s : State) → p < N → busy (s.loc p).point ≡ true
      → says N M W n (go p) s ≡ said_by (answer_at W (s.loc p).point n p s) ((s.loc p).count + 1)
  unfolding says
  says_step n p s hp b =
      ap (λ t. cond t (cond (is_idle (s.loc p).point) (refused 6)
      (said_by (answer_at W (s.loc p).point n p s) ((s.loc p).count + 1))) (refused 4)) (lt-ltb p N hp)
      ∙ ap (λ t. cond t (refused 6) (said_by (answer_at W (s.loc p).point n p s) ((s.loc p).count + 1)))
      (is_false (is_idle (s.loc p).point) (λ e. contra b (ap not e)))

  -- a start at a busy process is refused
  record Refuses (sd : Said) : Type 0 where
    number : ℕ
    is : sd ≡ refused number

  start_refused : (p : ℕ) (f ok : Bool) (s : State) → p < N → is_idle (s.loc p).point ≡ false → Refuses (start_said N M W p f ok s)
  start_refused p f ok s hp b =
      rw (lt-ltb p N hp, b)
      (by_test Refuses f (λ _. record { number = 5; is = refl }) (λ _. record { number = 8; is = refl }))

  exec_step : (n p : ℕ) (s : State) → p < N → exec N M W n (go p) s ≡ step M W n p s
  unfolding exec
  exec_step n p s hp = ap (λ b. cond b (step M W n p s) s) (lt-ltb p N hp)

  abbrev accepts : Said → Bool
  accepts (refused k) = false
  accepts accepted = true
  accepts (answered a k) = false

  abbrev runs : Slot → Bool
  runs none = false
  runs (running kind start last steps w) = true

  -- so a command that is accepted with no answer there is a step
  accepted_step : (n : ℕ) (s : State) (p : ℕ) (o : Order) (v : List ℕ) → p < N → is_idle (s.loc p).point ≡ false
      → says N M W n (ghost W (record { process = p; order = o; value = v })) s ≡ accepted → o ≡ Step
  unfolding says
  accepted_step n s p StartLl v hp b e = let z = start_refused p true true s hp b in absurd (contra (ap accepts e) (ap accepts z.is))
  accepted_step n s p StartVl v hp b e = let z = start_refused p true (s.loc p).mark s hp b in absurd (contra (ap accepts e) (ap accepts z.is))
  accepted_step n s p StartSc v hp b e = let z = start_refused p (eqb (length v) W) (s.loc p).mark s hp b
      in absurd (contra (ap accepts e) (ap accepts z.is))
  accepted_step n s p Step v hp b e = refl

  module _ (limit : ℕ) where
    abbrev Within : List Call → Type 0
    Within = All (CallBounded limit ES)

    -- a call that runs on, its last step not before d
    record RunsOn (wll d m : ℕ) (k : Known) : Type 0 where
      kind : Kind
      start : ℕ
      steps : ℕ
      won : Bool
      last : ℕ
      slot : k.slot ≡ running kind start last steps won
      same_wll : k.wll ≡ wll
      later : d ≤ last
      past : last ≤ suc m

    -- at its process's next event a call is answered within the bound, or runs on
    data Goes (wll d m : ℕ) (k : Known) : Type 0 where
      answers : S (suc m) < S wll + limit → Goes wll d m k
      goes_on : RunsOn wll d m k → Goes wll d m k

    module _ (p m : ℕ) (k : Known) (d : ℕ) (hd : d ≤ m) (kind : Kind) (start steps : ℕ) (w : Bool) (is : k.slot ≡ running kind start d steps w) where
      by_said : (e : Event) (sd : Said) → (sd ≡ accepted → e.command.order ≡ Step)
          → Within (call_of p (suc m) sd k) → Goes k.wll d m (known_after (suc m) e sd k)
      by_said e (refused j) o b = goes_on (record {
        kind = kind;
        start = start;
        steps = steps;
        won = w;
        last = d;
        slot = is;
        same_wll = refl;
        later = omega arith;
        past = omega arith;
      })
      by_said e accepted o b =
          rw (o refl)
          (goes_on (record {
            kind = kind;
            start = start;
            steps = steps + 1;
            won = w || e.won;
            last = suc m;
            slot = ap (stepped (suc m) e.won) is;
            same_wll = refl;
            later = omega arith;
            past = omega arith;
          }))
      by_said e (answered a j) o b = answers (subst (λ t. Within (ended_by p (suc m) a j k t ∷ [])) is b).0.since_wll

    -- an open call whose last step so far is d ends within the bound
    abbrev Ends : ℕ → (ℕ → Known) → ℕ → Type 0
    Ends m x p = (d : ℕ) → d ≤ m → (kind : Kind) (start steps : ℕ) (w : Bool) → (x p).slot ≡ running kind start d steps w → S d < S (x p).wll + limit

    module _ (m : ℕ) (c : Command) (cs : List Command) (s : State) (last : ℕ → ℕ) (x : ℕ → Known) (r : Reached m (c ∷ cs) s last x) where
      abbrev e : Event
      e = event_of N M W (suc m) c s

      abbrev x' : ℕ → Known
      x' = watch (suc m) e x

      busy_there : c.process < N → runs (x c.process).slot ≡ true → is_idle (s.loc c.process).point ≡ false
      busy_there hp run =
          let k = r.watches.each c.process hp in
          is_false (is_idle (s.loc c.process).point)
          (λ i. contra run (ap runs (k.slot_is ∙ ap (λ y. slot_of W y (s.loc c.process) k.last)
          (idle_is (s.loc c.process).point i))))

      own : c.process < N → Within (call_of c.process (suc m) e.said (x c.process)) → Ends (suc m) x' c.process → Ends m x c.process
      own hp b ih d hd kind start steps w is =
          go (by_said c.process m (x c.process) d hd kind start steps w is e e.said
          (accepted_step (suc m) s c.process c.order c.value hp (busy_there hp (ap runs is))) b)
        where
          after : x' c.process ≡ known_after (suc m) e e.said (x c.process)
          after = ifb_eq c.process c.process _ (x c.process) refl

          go : Goes (x c.process).wll d m (known_after (suc m) e e.said (x c.process)) → S d < S (x c.process).wll + limit
          go (answers h) = let g = growing ES 1 d (suc m) (omega arith) in omega arith
          go (goes_on k) =
              let z : S k.last < S (x' c.process).wll + limit = ih k.last k.past k.kind k.start
              k.steps k.won (ap (λ (j : Known). j.slot) after ∙ k.slot) in
              let v : S (x' c.process).wll ≡ S (x c.process).wll = ap S (ap (λ (j : Known). j.wll) after ∙ k.same_wll) in
              let g = growing ES 1 d k.last k.later in omega arith

      others : (p : ℕ) → (p ≡ c.process → ⊥) → Ends (suc m) x' p → Ends m x p
      others p ne ih d hd kind start steps w is =
          let f : x' p ≡ x p = ifb_ne p c.process _ (x p) ne in
          subst (λ (j : Known). S d < S j.wll + limit) f (ih d (omega arith) kind start steps w (ap (λ (j : Known). j.slot) f ∙ is))

      ends_next : (p : ℕ) → p < N → Within (call_of c.process (suc m) e.said (x c.process)) → ((q : ℕ) → q < N → Ends (suc m) x' q) → Ends m x p
      ends_next p hp b ih = go (split p c.process)
        where
          go : Split p c.process → Ends m x p
          go (same z) = subst (Ends m x) (sym z) (let h : c.process < N = subst (◌< N) z hp in own h b (ih c.process h))
          go (other ne) = others p ne (ih p hp)

    ends : (cs : List Command) (m : ℕ) (s : State) (last : ℕ → ℕ) (x : ℕ → Known) → Reached m cs s last x
        → Within (calls_from N (suc m) (events N M W (suc m) cs s) x) → (p : ℕ) → p < N → Ends m x p
    unfolding calls_from events
    ends [] m s last x r b p hp = λ d hd kind start steps w is. (subst (λ t. Within (open_of p (x p) t)) is
        (open_of_lem (CallBounded limit ES) N x p hp b)).0.since_wll
    ends (c ∷ cs) m s last x r b p hp =
        let z = all_split (CallBounded limit ES) (call_of c.process (suc m) (says N M W (suc m) (ghost W c) s) (x c.process)) _ b in
        ends_next m c cs s last x r p hp z.0 (ends cs (suc m) _ _ _ (next m c cs s last x r) z.1)

    -- so every step of the machine is within its bound
    module _ (m : ℕ) (p : ℕ) (v : List ℕ) (cs : List Command) (s : State) (last : ℕ → ℕ) (x : ℕ → Known) where
      abbrev go! : Command
      go! = record { process = p; order = Step; value = v }

      step_within : Reached m (go! ∷ cs) s last x → M ≡ suc limit → p < N → busy (s.loc p).point ≡ true
          → Within (call_of p (suc m) (says N M W (suc m) (go p) s) (x p))
          → Ends (suc m) (watch (suc m) (event_of N M W (suc m) go! s) x) p → Bounded M W (suc m) p s
      step_within r e_m hp b here later = by_answer (answer_at W (s.loc p).point (suc m) p s) refl
        where
          sd : Said
          sd = says N M W (suc m) (go p) s

          finish : S (suc m) < S (x p).wll + limit → Bounded M W (suc m) p s
          finish h =
              let z : S (suc m) ≡ (step M W (suc m) p s).sh.successes = (next m go! cs s last x r).watches.count
              ∙ ap (λ (u : State). u.sh.successes) (exec_step (suc m) p s hp) in
              let y = (r.watches.each p hp).since_is in record { few = omega arith }

          after : watch (suc m) (event_of N M W (suc m) go! s) x p ≡ known_after (suc m) (event_of N M W (suc m) go! s) sd (x p)
          after = ifb_eq p p _ (x p) refl

          run : Running W (s.loc p).point (s.loc p) (r.watches.each p hp).last
          run = run_slot W (s.loc p).point (s.loc p) (r.watches.each p hp).last b

          slot_is : (x p).slot ≡ running run.kind (s.loc p).start (r.watches.each p hp).last (s.loc p).count run.won
          slot_is = (r.watches.each p hp).slot_is ∙ run.is

          ev : Event
          ev = event_of N M W (suc m) go! s

          by_answer : (zs : List Served) → answer_at W (s.loc p).point (suc m) p s ≡ zs → Bounded M W (suc m) p s
          by_answer [] ez =
              let e : sd ≡ accepted = says_step (suc m) p s hp b ∙ ap (λ zs. said_by zs ((s.loc p).count + 1)) ez in
              let f : watch (suc m) ev x p ≡ known_after (suc m) ev accepted (x p) = after ∙ ap (λ t. known_after (suc m) ev t (x p)) e in
              let h = later (suc m) (omega arith) run.kind (s.loc p).start ((s.loc p).count + 1)
              (run.won || ev.won) (ap (λ (j : Known). j.slot) f ∙ ap (stepped (suc m) ev.won) slot_is) in
              finish (subst (λ (j : Known). S (suc m) < S j.wll + limit) f h)
          by_answer (c ∷ zs) ez =
              let e : sd ≡ answered c.answer ((s.loc p).count + 1) = says_step (suc m) p s hp b ∙ ap (λ zs. said_by zs ((s.loc p).count + 1)) ez in
              let h : Within (ended_by p (suc m) c.answer ((s.loc p).count + 1) (x p) (x p).slot ∷ []) =
              subst (λ t. Within (call_of p (suc m) t (x p))) e here in
              finish (subst (λ t. Within (ended_by p (suc m) c.answer ((s.loc p).count + 1) (x p) t ∷ [])) slot_is h).0.since_wll

    module _ (e_m : M ≡ suc limit) where
      at_command : (m : ℕ) (p : ℕ) (o : Order) (v : List ℕ) (cs : List Command) (s : State) (last : ℕ → ℕ)
          (x : ℕ → Known) (r : Reached m (record { process = p; order = o; value = v } ∷ cs) s last x)
          → Within (call_of p (suc m) (says N M W (suc m) (ordered W p o v) s) (x p))
          → ((q : ℕ) → q < N → Ends (suc m) (watch (suc m)
          (event_of N M W (suc m) (record { process = p; order = o; value = v }) s) x) q)
          → BoundedAt N M W (suc m) (ordered W p o v) s
      at_command m p StartLl v cs s last x r a b = tt
      at_command m p StartVl v cs s last x r a b = tt
      at_command m p StartSc v cs s last x r a b = tt
      at_command m p Step v cs s last x r a b = λ hp busy_now. step_within m p v cs s last x r e_m hp busy_now a (b p hp)

      pub run_within : (cs : List Command) (m : ℕ) (s : State) (last : ℕ → ℕ) (x : ℕ → Known)
          → Reached m cs s last x → Within (calls_from N (suc m) (events N M W (suc m) cs s) x)
          → BoundedRun N M W (suc m) (map (ghost W) cs) s
      unfolding calls_from events
      run_within [] m s last x r b = tt
      run_within (c ∷ cs) m s last x r b =
          let z = all_split (CallBounded limit ES) (call_of c.process (suc m) (says N M W (suc m) (ghost W c) s) (x c.process)) _ b in
          let r' = next m c cs s last x r in
          (at_command m c.process c.order c.value cs s last x r z.0 (ends cs (suc m) _ _ _ r' z.1), run_within cs (suc m) _ _ _ r' z.1)
