-- CR 8's claims on the events of the machine with its ghosts.
use mathlib.Core.Path.{◌≡◌, refl, sym, subst}
use mathlib.Core.List.{List, [], ◌∷◌, map}
use Prim.Native.Nat.{ℕ, suc, ◌+◌, ◌≤◌, ◌<◌}
use lib.Dec.{ltb}
use lib.ListN.{length}
use borrow.Author.Tests.{ltb-true}
use Rattle.llsc.specs.declared.Order.{Order}
use Rattle.llsc.specs.declared.Order.TheVariants.{StartLl, StartSc, StartVl, Step}
use Rattle.llsc.specs.History.{Command}
use Rattle.llsc.specs.Linearizable.{All}
use Rattle.laws.proofs.Updates.{by_test}
use Rattle.laws.proofs.Parts.{tab}
use Rattle.moir_model.specs.History.{Event, Known, Call, open_of, call_of, calls_from, nothing_known, successes_up_to, WonFrom}
use Rattle.moir_linearization.specs.Bound.{BoundedBy}
use Rattle.moir_linearization.specs.Linearizable.{Linearizable, Counted, NamedWrote, FalseWithCause, FalseAfterNaming, Claim, Always}
use Rattle.moir_linearization.proofs.GhostMachine.{State}
use Rattle.moir_linearization.proofs.GhostRuns.{exec, BoundedRun, set_up}
use Rattle.moir_linearization.proofs.GhostHistories.{answer_at, answer_of}
use Rattle.moir_linearization.proofs.GhostEvents.{ordered, ghost, says, events}
use Rattle.moir_linearization.proofs.StepShape.{bound_before}
use Rattle.moir_linearization.proofs.InvariantRuns.{Invariant, exec_inv, setup_inv}
use Rattle.moir_linearization.proofs.Counts.{step_brings, count_below}
use Rattle.moir_linearization.proofs.Ranges.{setup_sound}
use Rattle.moir_linearization.proofs.AnswerOrder.{answer_order}
use Rattle.moir_linearization.proofs.Watching.{called}
use Rattle.moir_linearization.proofs.SuccessCounts.{counting, winning}
use Rattle.moir_linearization.proofs.EventRuns.{watches_at_set_up}
use Rattle.moir_linearization.proofs.CallLists.{all_join, all_map, all_imply, all_open}
use Rattle.moir_linearization.proofs.EventBounds.{Reached, next, calls_here, run_within}
use Rattle.moir_linearization.proofs.ServedCalls.{served_as_is}
use Rattle.moir_linearization.proofs.AnswerClaims.{Told, told_at, opens_counted, opens_told}
use Rattle.moir_linearization.proofs.NamingClaims.{falses_at, opens_false}
use Rattle.moir_linearization.specs.Linearizable.{NamedWroteAs, FalseWithCauseAs}
use Rattle.moir_linearization.proofs.SuccessCounts.{none_before}

module _ (N M W : ℕ) (h_w : 0 < W) (ES : List Event) where
  -- a fact P of each call, from what holds when a step answers, and of the calls left open
  module _ (P : Call → Type 0) (Q : ℕ → List Command → State → Type 0)
      (keeps : (m : ℕ) (c : Command) (cs : List Command) (s : State) → Q m (c ∷ cs) s → Q (suc m) cs (exec N M W (suc m) (ghost W c) s))
      (answers : (m : ℕ) (cs : List Command) (s : State) (last : ℕ → ℕ) (x : ℕ → Known) (p : ℕ) (v : List ℕ)
      → Reached N M W h_w ES m (record { process = p; order = Step; value = v } ∷ cs) s last x
      → Q m (record { process = p; order = Step; value = v } ∷ cs) s → p < N
      → All (λ z. P (called (x p) ((s.loc p).count + 1) z)) (answer_at W (s.loc p).point (suc m) p s))
      (opens : (m : ℕ) (s : State) (last : ℕ → ℕ) (x : ℕ → Known) → Reached N M W h_w ES m [] s last x → Q m [] s
      → (q : ℕ) → q < N → All P (open_of q (x q) (x q).slot)) where
    at_command : (m : ℕ) (p : ℕ) (o : Order) (v : List ℕ) (cs : List Command) (s : State) (last : ℕ → ℕ)
        (x : ℕ → Known) → Reached N M W h_w ES m (record { process = p; order = o; value = v } ∷ cs) s last x
        → Q m (record { process = p; order = o; value = v } ∷ cs) s
        → All (λ z. P (called (x p) ((s.loc p).count + 1) z)) (answer_of N M W (suc m) (ordered W p o v) s)
    unfolding answer_of
    at_command m p StartLl v cs s last x r q = tt
    at_command m p StartVl v cs s last x r q = tt
    at_command m p StartSc v cs s last x r q = tt
    at_command m p Step v cs s last x r q =
        by_test (All (λ z. P (called (x p) ((s.loc p).count + 1) z))) (ltb p N) (λ e. answers m cs s last x p v r q (ltb-true _ _ e)) (λ _. tt)

    all_calls : (cs : List Command) (m : ℕ) (s : State) (last : ℕ → ℕ) (x : ℕ → Known)
        → Reached N M W h_w ES m cs s last x → Q m cs s → All P (calls_from N (suc m) (events N M W (suc m) cs s) x)
    unfolding calls_from events
    all_calls [] m s last x r q = all_open P N x (opens m s last x r q)
    all_calls (c ∷ cs) m s last x r q =
        all_join P (call_of c.process (suc m) (says N M W (suc m) (ghost W c) s) (x c.process)) _
        (subst (All P) (sym (calls_here N M W h_w ES m c cs s last x r))
        (all_map P (called (x c.process) ((s.loc c.process).count + 1)) (answer_of N M W (suc m) (ghost W c) s)
        (at_command m c.process c.order c.value cs s last x r q)))
        (all_calls cs (suc m) _ _ _ (next N M W h_w ES m c cs s last x r) (keeps m c cs s q))

module _ (N M W : ℕ) (h_w : 0 < W) (h_n : 0 < N) (v : ℕ → ℕ) (cs : List Command) where
  abbrev ES : List Event
  ES = events N M W 1 cs (set_up v)

  reached : Reached N M W h_w ES 0 cs (set_up v) (λ q. 0) nothing_known
  reached = record {
    watches = watches_at_set_up N M W (successes_up_to ES) (WonFrom 1 ES) v (none_before ES);
    sound = setup_sound N M W h_n v;
    counting = counting ES;
    winning = winning ES;
  }

  pub always : Always N W ES
  always = record {
    counted =
        all_calls N M W h_w ES (Counted W) (λ m cs s. Unit {0}) (λ m c cs s q. tt)
        (λ m cs s last x p v r q hp. all_imply _ _ (answer_at W (s.loc p).point (suc m) p s) (λ z o. record { true_count = refl; own_steps = o })
        (step_brings M W (suc m) h_w s p r.sound.counts r.sound.numbers))
        (λ m s last x r q p hp.
        let k = r.watches.each p hp in
        subst (λ t. All (Counted W) (open_of p (x p) t)) (sym k.slot_is)
        (opens_counted M W ES (s.loc p).point p (x p) (s.loc p) k.last
        (count_below M W (suc m) h_w s p r.sound.counts r.sound.numbers)))
        cs 0 (set_up v) (λ q. 0) nothing_known reached tt;
    named_wrote =
        all_calls N M W h_w ES (NamedWrote ES) (λ m cs s. Unit {0}) (λ m c cs s q. tt)
        (λ m cs s last x p v r q hp. all_imply _ _ (answer_at W (s.loc p).point (suc m) p s) (λ z o. o.wrote) (told m cs s last x p v r hp))
        (λ m s last x r q p hp. opens_told M W ES (NamedWrote ES) (λ c b e. subst (NamedWroteAs ES c) (sym e) tt) p (x p) (x p).slot)
        cs 0 (set_up v) (λ q. 0) nothing_known reached tt;
    false_with_cause =
        all_calls N M W h_w ES (FalseWithCause ES) (λ m cs s. Unit {0}) (λ m c cs s q. tt)
        (λ m cs s last x p v r q hp. all_imply _ _ (answer_at W (s.loc p).point (suc m) p s) (λ z o. o.cause) (told m cs s last x p v r hp))
        (λ m s last x r q p hp. opens_told M W ES (FalseWithCause ES) (λ c b e. subst (FalseWithCauseAs ES c) (sym e) tt) p (x p) (x p).slot)
        cs 0 (set_up v) (λ q. 0) nothing_known reached tt;
  }
    where
      told : (m : ℕ) (cs : List Command) (s : State) (last : ℕ → ℕ) (x : ℕ → Known) (p : ℕ) (v : List ℕ)
          (r : Reached N M W h_w ES m (record { process = p; order = Step; value = v } ∷ cs) s last x) (hp : p < N)
          → All (Told M W ES m s p (x p) r.sound.numbers.all r.watches.count
          (r.watches.each p hp).read_is r.watches.winner) (answer_at W (s.loc p).point (suc m) p s)
      told m cs s last x p v r hp = told_at M W ES m s p (x p) _ _ _ _ (s.loc p).point (r.sound.numbers.each p)

  -- the invariants along the commands to come, within the bound
  record Within (m : ℕ) (ds : List Command) (s : State) : Type 0 where
    invariant : Invariant N M W (suc m) s
    bounded : BoundedRun N M W (suc m) (map (ghost W) ds) s

  within_next : (m : ℕ) (c : Command) (cs : List Command) (s : State) → Within m (c ∷ cs) s → Within (suc m) cs (exec N M W (suc m) (ghost W c) s)
  within_next m c cs s q = record { invariant = exec_inv N M W h_w (suc m) s (ghost W c) q.bounded.0 q.invariant; bounded = q.bounded.1 }

  pub claim : (limit : ℕ) → M ≡ suc limit → BoundedBy limit N ES → Claim N (tab W v) ES
  claim limit e_m b =
      let run = run_within N M W h_w ES limit e_m cs 0 (set_up v) (λ q. 0) nothing_known reached b in
      let e = served_as_is N M W h_w ES cs 0 (set_up v) (λ q. 0) nothing_known reached in
      record {
        linearizable = λ places h. subst (Linearizable places (tab W v)) (sym e)
            (answer_order N M W h_w v (map (ghost W) cs) run places (subst (λ t. length t ≤ places) e h));
        false_after_naming =
            all_calls N M W h_w ES FalseAfterNaming Within within_next
            (λ m cs s last x p v r q hp. falses_at M W m s p (x p) r.sound.numbers.all (r.watches.each p hp).named_is (s.loc p).point
            (λ busy_now. bound_before M W (suc m) s p (q.bounded.0 hp busy_now)) (r.sound.numbers.each p) (q.invariant.contents.each p))
            (λ m s last x r q p hp.
            let k = r.watches.each p hp in
            subst (λ t. All FalseAfterNaming (open_of p (x p) t)) (sym k.slot_is)
            (opens_false M W (suc m) (s.loc p).point p (x p) s.sh (s.loc p) k.last k.named_is
            (q.invariant.contents.each p)))
            cs 0 (set_up v) (λ q. 0) nothing_known reached (record { invariant = setup_inv N M W v; bounded = run });
      }
