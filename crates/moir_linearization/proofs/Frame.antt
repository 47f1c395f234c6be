-- What a step owes: a family G of facts about shared memory, and one P about each process.
use mathlib.Core.Path.{◌≡◌}
use Prim.Native.Nat.{ℕ, suc}
use Rattle.laws.proofs.Updates.{upd, upd_same, upd_other, Split, same, other, split}
use Rattle.moir_model.specs.Points.{Point}
use Rattle.moir_linearization.proofs.GhostMachine.{Local, Shared, State, noisy}

module _ (G : ℕ → Shared → Type 0) (P : ℕ → Point → Shared → ℕ → Local → Type 0) where
  pub record Holds (n : ℕ) (s : State) : Type 0 where
    pub all : G n s.sh
    pub each : (q : ℕ) → P n (s.loc q).point s.sh q (s.loc q)

  -- a step of p owes the shared facts, p's own, and that the others' last
  pub frame : (n : ℕ) (s : State) (p : ℕ) (h : Shared) (l : Local) → Holds n s → G (suc n) h → P (suc n) l.point h p l
      → ((q : ℕ) → (q ≡ p → ⊥) → P n (s.loc q).point s.sh q (s.loc q) → P (suc n) (s.loc q).point h q (s.loc q)) → Holds (suc n) (noisy s p h l)
  frame n s p h l i all me rest = record { all = all; each = λ q. go q (split q p) }
    where
      go : (q : ℕ) → Split q p → P (suc n) (upd s.loc p l q).point h q (upd s.loc p l q)
      go q (same e) = rw e (rw (upd_same s.loc p l) me)
      go q (other ne) = rw (upd_other s.loc p q l ne) (rest q ne (i.each q))

  -- the same, to other families of facts
  pub frame_to : (G' : ℕ → Shared → Type 0) (P' : ℕ → Point → Shared → ℕ → Local → Type 0)
      → (n : ℕ) (s : State) (p : ℕ) (h : Shared) (l : Local) → Holds n s → G' (suc n) h → P' (suc n) l.point h p l
      → ((q : ℕ) → (q ≡ p → ⊥) → P n (s.loc q).point s.sh q (s.loc q) → P' (suc n) (s.loc q).point h q (s.loc q))
      → G' (suc n) h × ((q : ℕ) → P' (suc n) (upd s.loc p l q).point h q (upd s.loc p l q))
  frame_to G' P' n s p h l i all me rest = (all, λ q. go q (split q p))
    where
      go : (q : ℕ) → Split q p → P' (suc n) (upd s.loc p l q).point h q (upd s.loc p l q)
      go q (same e) = rw e (rw (upd_same s.loc p l) me)
      go q (other ne) = rw (upd_other s.loc p q l ne) (rest q ne (i.each q))
