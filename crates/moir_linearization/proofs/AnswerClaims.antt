-- What holds of each answer, and of each call left open, without the bound.
use mathlib.Core.Path.{◌≡◌, refl}
use mathlib.Core.Bool.{Bool, true, false}
use mathlib.Core.List.{List, [], ◌∷◌}
use Prim.Native.Nat.{ℕ, suc, ◌+◌, ◌≤◌, ◌<◌}
use native.Mathlib.Omega.{arith}
use lib.Dec.{ltb, eqb}
use borrow.Author.Tests.{eqb-false}
use Rattle.llsc.specs.Linearizable.{All}
use Rattle.laws.proofs.Updates.{by_test, contra}
use Rattle.moir_model.specs.Points.{Point, idle, ll10, ll2, ll4, ll5, ll6, ll7, sc14, sc17, sc19, sc2, sc4, sc5, sc6, sc7, vl13}
use Rattle.moir_model.specs.History.{Event, Slot, none, running, Known, pending, Call, open_of, successes_up_to, WonFrom}
use Rattle.moir_linearization.specs.Linearizable.{Served, Counted, Wrote, NamedWrote, FalseWithCause}
use Rattle.moir_linearization.proofs.GhostMachine.{Local, Shared, State, eq_pair}
use Rattle.moir_linearization.proofs.GhostHistories.{answer_at, sc_call}
use Rattle.moir_linearization.proofs.Numbers.{ProcessNumbers, SharedNumbers}
use Rattle.moir_linearization.proofs.TagLemmas.{back_ll7, back_sc19, back_keep}
use Rattle.moir_linearization.proofs.Counts.{most_at}
use Rattle.moir_linearization.proofs.Watching.{slot_of, called}
use Rattle.moir_linearization.proofs.SuccessCounts.{growing}

module _ (M W : ℕ) (ES : List Event) where
  abbrev S : ℕ → ℕ
  S = successes_up_to ES

  module _ (m : ℕ) (s : State) (p : ℕ) (k : Known) (num : SharedNumbers M W (suc m) s.sh)
      (count : S m ≡ s.sh.successes) (read : S k.read ≡ (s.loc p).read_version)
      (winner : 0 < s.sh.won_at → WonFrom 1 ES s.sh.pid s.sh.won_at) where
    abbrev l : Local
    l = s.loc p

    abbrev h : Shared
    h = s.sh

    abbrev n : ℕ
    n = suc m

    pub record Told (z : Served) : Type 0 where
      pub wrote : NamedWrote ES (called k (l.count + 1) z)
      pub cause : FalseWithCause ES (called k (l.count + 1) z)

    -- an old version was read: a success lies between
    old : l.read_version ≤ h.successes → (l.read_version ≡ h.successes → ⊥) → S k.read < S n
    old b ne = let g = growing ES 1 m n (omega arith) in omega (arith, ne)

    named : ProcessNumbers M W n ll7 h p l → eq_pair h.tag h.pid l.x_tag l.x_pid ≡ false → Wrote ES h.pid l.start n
    named a f =
        let ne : l.read_version ≡ h.successes → ⊥ = λ r. contra (back_ll7 M W n h p l num a r) f in
        let won : l.key < h.won_at = a.ll_before_win (let y = a.read_made in omega (arith, ne)) in
        record { at = h.won_at; after = let z = a.ll_in_call in omega arith; by = let z = num.won_past in omega arith; won = winner (omega arith) }

    quietly : (z : Served) → NamedWrote ES (called k (l.count + 1) z) → FalseWithCause ES (called k (l.count + 1) z) → All Told (z ∷ [])
    quietly z a b = (record { wrote = a; cause = b }, tt)

    pub told_at : (y : Point) → ProcessNumbers M W n y h p l → All Told (answer_at W y n p s)
    told_at idle a = tt
    told_at ll10 a = tt
    told_at ll2 a = tt
    told_at ll4 a = tt
    told_at ll5 a = tt
    told_at ll6 a = tt
    told_at ll7 a =
        by_test (All Told) (eq_pair h.tag h.pid l.x_tag l.x_pid)
        (λ _. by_test (All Told) (ltb (suc l.word) W) (λ _. tt) (λ _. quietly _ tt tt)) (λ f. quietly _ (named a f) tt)
    told_at sc14 a =
        by_test (All Told) (eqb h.tag l.keep) (λ _. tt)
        (λ f. quietly _ tt (λ _. old a.read_made (λ r. eqb-false _ _ f (back_keep M W n h p l num sc14 a r))))
    told_at sc17 a = tt
    told_at sc19 a =
        by_test (All Told) (eq_pair h.tag h.pid l.old_tag l.old_pid) (λ _. tt)
        (λ f. quietly _ tt (λ _. old a.read_made (λ r. contra (back_sc19 M W n h p l num a r) f)))
    told_at sc2 a = tt
    told_at sc4 a = tt
    told_at sc5 a = tt
    told_at sc6 a = tt
    told_at sc7 a =
        let z = quietly (sc_call W p true n l) tt (λ e. absurd (contra refl e)) in
        by_test (All Told) (eq_pair h.tag h.pid l.new_tag l.new_pid) (λ _. by_test (All Told) (ltb (suc l.word) W) (λ _. tt) (λ _. z)) (λ _. z)
    told_at vl13 a = quietly _ tt (λ f. old a.read_made (λ r. eqb-false _ _ f (back_keep M W n h p l num vl13 a r)))

  -- the calls left open
  pub opens_counted : (y : Point) (q : ℕ) (k : Known) (l : Local) (d : ℕ) → l.count < most_at W y → All (Counted W) (open_of q k (slot_of W y l d))
  opens_counted idle q k l d h = tt
  opens_counted ll10 q k l d h = (h, tt)
  opens_counted ll2 q k l d h = (h, tt)
  opens_counted ll4 q k l d h = (h, tt)
  opens_counted ll5 q k l d h = (h, tt)
  opens_counted ll6 q k l d h = (h, tt)
  opens_counted ll7 q k l d h = (h, tt)
  opens_counted sc14 q k l d h = (h, tt)
  opens_counted sc17 q k l d h = (h, tt)
  opens_counted sc19 q k l d h = (h, tt)
  opens_counted sc2 q k l d h = (h, tt)
  opens_counted sc4 q k l d h = (h, tt)
  opens_counted sc5 q k l d h = (h, tt)
  opens_counted sc6 q k l d h = (h, tt)
  opens_counted sc7 q k l d h = (h, tt)
  opens_counted vl13 q k l d h = (h, tt)

  pub opens_told : (P : Call → Type 0) → ((c : Call) (b : Bool) → c.outcome ≡ pending b → P c) → (q : ℕ) (k : Known) (t : Slot) → All P (open_of q k t)
  opens_told P f q k none = tt
  opens_told P f q k (running kind start last steps w) = (f _ w refl, tt)
