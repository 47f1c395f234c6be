-- Ownership: each of the 3N buffer numbers is found exactly once among the buffers that are kept and those that processes own.
use mathlib.Core.Path.{◌≡◌, refl, sym, ap, ◌∙◌}
use mathlib.Core.Bool.{Bool, true, false, cond}
use Prim.Native.Nat.{ℕ, ◌+◌, ◌*◌, ◌-◌, ◌<◌}
use native.Mathlib.Omega.{arith}
use lib.Dec.{ltb, eqb}
use borrow.Author.Tests.{ltb-true, ltb-false}
use Rattle.laws.proofs.Updates.{by_test, contra}
use Rattle.linearization.proofs.GhostMachine.{Local, Shared, State}
use Rattle.laws.proofs.Claimed.{on_get}
use Rattle.linearization.proofs.Invariants.{ProcessClauses, Invariant, lines, above}
use Rattle.linearization.proofs.Ranges.{InRanges}
use Rattle.laws.proofs.Pigeonhole.{Injection, pigeonhole}

-- Help[p]'s buffer at lines 2 to 10 while its flag is 0, else mybuf
abbrev pub owned : State → ℕ → ℕ
owned s p = cond (lines 0 9 (s.loc p).point) (cond (s.sh.flag p) (s.loc p).mybuf (s.sh.help_buf p)) (s.loc p).mybuf

-- X's buffer at X's sequence number, else Bank[i]
abbrev pub kept : State → ℕ → ℕ
kept s i = cond (eqb i s.sh.xseq) s.sh.xbuf (s.sh.bank i)

-- the 3N slots: 2N that are kept, then N that are owned
abbrev pub held : ℕ → State → ℕ → ℕ
held N s slot = cond (ltb slot (2 * N)) (kept s slot) (owned s (slot - 2 * N))

-- exactly one slot holds b
abbrev pub HeldOnce : ℕ → State → ℕ → Type 0
HeldOnce N s b = (slot : ℕ) × (slot < 3 * N) × (held N s slot ≡ b) × ((other : ℕ) → other < 3 * N → held N s other ≡ b → other ≡ slot)

module _ (N W n : ℕ) (s : State) (i : Invariant N W n s) where
  module _ (p : ℕ) (hp : p < N) where
    abbrev l : Local
    l = s.loc p

    abbrev h : Shared
    h = s.sh

    abbrev m : ProcessClauses N W n l.point h p l
    m = i.each p hp

    -- with the flag up Help[p]'s buffer is mybuf
    own_up : (b : Bool) → lines 0 8 l.point ≡ b → h.flag p ≡ true → h.help_buf p ≡ l.mybuf
    own_up true e f = on_get (lines 0 8 l.point) _ e m.asks_own f
    own_up false e f = absurd (contra f (on_get (lines 9 22 l.point) _ (above 8 l.point e) m.asks_not))

    -- the ghost `holders` says what a process owns ..
    hold_owned : h.holders (2 * N + p) ≡ owned s p
    hold_owned =
        by_test (λ b. h.holders (2 * N + p) ≡ b) (lines 0 9 l.point)
        (λ e. let o : h.holders (2 * N + p) ≡ h.help_buf p = on_get (lines 0 9 l.point) _ e m.owns_help in
        by_test (λ b. h.holders (2 * N + p) ≡ b) (h.flag p) (λ f. o ∙ own_up (lines 0 8 l.point) refl f) (λ _. o))
        (λ e. on_get (lines 10 22 l.point) _ (above 9 l.point e) m.owns_mybuf)

  -- .. and what every slot holds
  hold_held : (slot : ℕ) → slot < 3 * N → s.sh.holders slot ≡ held N s slot
  hold_held slot hs =
      by_test (λ b. s.sh.holders slot ≡ b) (ltb slot (2 * N)) (λ e. i.all.kept slot (ltb-true _ _ e))
      (λ e. let z = ltb-false slot (2 * N) e in let same : slot ≡ 2 * N + (slot - 2 * N) = omega arith in ap s.sh.holders same ∙ hold_owned (slot - 2 * N) (omega arith))

  module _ (r : InRanges N W s) where
    held_below : (slot : ℕ) → slot < 3 * N → held N s slot < 3 * N
    held_below slot hs =
        by_test (◌< 3 * N) (ltb slot (2 * N))
        (λ e. by_test (◌< 3 * N) (eqb slot s.sh.xseq) (λ _. r.all.xbuf) (λ _. r.all.bank slot (ltb-true _ _ e)))
        (λ e. let z = ltb-false slot (2 * N) e in let p = slot - 2 * N in let hp : p < N = omega arith in
        by_test (◌< 3 * N) (lines 0 9 (s.loc p).point) (λ _. by_test (◌< 3 * N) (s.sh.flag p) (λ _. (r.each p hp).my) (λ _. r.all.help_buf p hp)) (λ _. (r.each p hp).my))

    held_injection : Injection (3 * N) (held N s)
    held_injection = record {
      below = held_below;
      holders_differ = λ a b ha hb e. i.all.holders_differ a b (omega arith) (omega arith) (hold_held a ha ∙ e ∙ sym (hold_held b hb));
    }

    pub held_once : (b : ℕ) → b < 3 * N → HeldOnce N s b
    held_once b hb =
        let z = pigeonhole (3 * N) (held N s) held_injection b hb in
        (z.0, z.1, z.2, λ other ho e. held_injection.holders_differ other z.0 ho z.1 (e ∙ sym z.2))
