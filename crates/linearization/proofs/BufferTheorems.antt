-- Every buffer has one place: the ghost machine's fact, carried to model's memory.
use mathlib.Core.Path.{◌≡◌, refl, sym, ap, ◌∙◌}
use mathlib.Core.Bool.{Bool, true, false, ◌&&◌, cond}
use mathlib.Core.List.{List, [], ◌∷◌, ◌++◌, map}
use Prim.Native.Nat.{ℕ, zero, suc, ◌+◌, ◌-◌, ◌*◌, ◌≤◌, ◌<◌}
use native.Mathlib.Decide.{dec_lt, ℕ_discrete}
use native.Mathlib.Omega.{arith}
use lib.Dec.{ltb, eqb}
use borrow.Author.Tests.{eq-eqb, ne_eqb, lt-ltb, le-ltb}
use Rattle.model.specs.Sizes.{halves}
use Rattle.model.specs.Points.{Point, line_number, idle, line1, line2, line3, line4, line5, line6, line7, line7copy}
use Rattle.model.specs.Points.{line8, line9, line10, line11, line12, line12valid, line13, line14, line14valid, line15}
use Rattle.model.specs.Points.{line17, line18, line19, line23}
use Rattle.llsc.specs.Rows.{some}
use Rattle.model.specs.Machine.{Memory}
use Rattle.model.specs.SetUp.{numbers}
use Rattle.after_commands.specs.Buffers
use Rattle.after_commands.specs.Buffers.{occurrences, asking, EveryBufferOnce}
use Rattle.linearization.proofs.Invariants.{lines}
use Rattle.linearization.proofs.GhostMachine.{Local, State}
use Rattle.linearization.proofs.Ownership
use Rattle.linearization.proofs.Ownership.{HeldOnce, held_once}
use Rattle.linearization.proofs.Relation.{Related, record_of}
use Rattle.linearization.proofs.SetUpSimulation.{set_up_halves}
use Rattle.linearization.proofs.CommandRuns.{holds_along}

-- how often b stands among f a, f (a + 1), .., k of them: not at all, or once
occurrences_append : (b : ℕ) (xs ys : List ℕ) → occurrences b (xs ++ ys) ≡ occurrences b xs + occurrences b ys
occurrences_append b [] ys = omega arith
occurrences_append b (x ∷ xs) ys = let e = occurrences_append b xs ys in omega arith

module _ (f : ℕ → ℕ) (b : ℕ) where
  nowhere : (a k : ℕ) → ((i : ℕ) → a ≤ i → i < a + k → f i ≡ b → ⊥) → occurrences b (map f (numbers a k)) ≡ 0
  nowhere a zero h = refl
  nowhere a (suc k) h = rw (ne_eqb (f a) b (h a (omega arith) (omega arith))) (let e = nowhere (suc a) k (λ i x y. h i (omega arith) (omega arith)) in omega arith)

  once : (a k j : ℕ) → a ≤ j → j < a + k → f j ≡ b → ((i : ℕ) → a ≤ i → i < a + k → f i ≡ b → i ≡ j) → occurrences b (map f (numbers a k)) ≡ 1
  once a zero j low high e u = absurd (omega arith)
  once a (suc k) j low high e u = go (ℕ_discrete a j) (λ ne. once (suc a) k j (omega arith) (omega arith) e (λ i x y z. u i (omega arith) (omega arith) z))
    where
      go : Dec (a ≡ j) → ((a ≡ j → ⊥) → occurrences b (map f (numbers (suc a) k)) ≡ 1) → cond (eqb (f a) b) 1 0 + occurrences b (map f (numbers (suc a) k)) ≡ 1
      go (yes x) later = rw (eq-eqb (f a) b (ap f x ∙ e)) (let y = nowhere (suc a) k (λ i p q z. let w = u i (omega arith) (omega arith) z in omega arith) in omega arith)
      go (no x) later = rw (ne_eqb (f a) b (λ z. x (u a (omega arith) (omega arith) z))) (let y = later x in omega arith)

-- the points at which a process asks for help
asks : (l : Local) → asking (record_of l) ≡ lines 0 9 l.point
asks l = at l.point
  where
    at : (y : Point) → some (λ x. eqb (line_number y) (line_number x)) (line2 ∷ line3 ∷ line4 ∷ line5 ∷ line6 ∷ line7 ∷ line7copy ∷ line8 ∷ line9 ∷ line10 ∷ []) ≡ lines 0 9 y
    at idle = refl
    at line1 = refl
    at line2 = refl
    at line3 = refl
    at line4 = refl
    at line5 = refl
    at line6 = refl
    at line7 = refl
    at line7copy = refl
    at line8 = refl
    at line9 = refl
    at line10 = refl
    at line11 = refl
    at line12 = refl
    at line12valid = refl
    at line13 = refl
    at line14 = refl
    at line14valid = refl
    at line15 = refl
    at line17 = refl
    at line18 = refl
    at line19 = refl
    at line23 = refl

choice : (a up : Bool) (h b : ℕ) → cond (a && eqb (cond up 1 0) 0) h b ≡ cond a (cond up b h) b
choice true true h b = refl
choice true false h b = refl
choice false up h b = refl

module _ (N W : ℕ) (m : Memory) (z : State) (r : Related N W m z) where
  owned_same : (p : ℕ) → p < N → Buffers.owned m p ≡ Ownership.owned z p
  owned_same p hp =
      let h = r.places.help p hp in
      rw (r.process p hp, h.flag, h.buf, asks (z.loc p)) (choice (lines 0 9 (z.loc p).point) (z.sh.flag p) (z.sh.help_buf p) (z.loc p).mybuf)

  kept_same : (i : ℕ) → i < 2 * N → Buffers.kept m i ≡ Ownership.kept z i
  kept_same i hi = rw (r.places.x.seq, r.places.x.buf, (r.places.bank i hi).buf)

-- the place of a buffer number among the kept and the owned
module _ (N W : ℕ) (m : Memory) (z : State) (r : Related N W m z) (b : ℕ) (once_held : HeldOnce N z b) where
  abbrev slot : ℕ
  slot = once_held.0

  -- the slot says which of the two it is
  in_slot : (i : ℕ) (t : Bool) → ltb i (2 * N) ≡ t → Ownership.held N z i ≡ cond t (Ownership.kept z i) (Ownership.owned z (i - 2 * N))
  in_slot i t e = ap (λ u. cond u (Ownership.kept z i) (Ownership.owned z (i - 2 * N))) e

  held_kept : (i : ℕ) → i < 2 * N → Buffers.kept m i ≡ b → i ≡ slot
  held_kept i hi e = once_held.3 i (omega arith) (in_slot i true (lt-ltb i (2 * N) hi) ∙ sym (kept_same N W m z r i hi) ∙ e)

  held_owned : (p : ℕ) → p < N → Buffers.owned m p ≡ b → 2 * N + p ≡ slot
  held_owned p hp e =
      let back : 2 * N + p - 2 * N ≡ p = omega arith in
      once_held.3 (2 * N + p) (omega arith)
      (in_slot (2 * N + p) false (le-ltb (2 * N + p) (2 * N) (omega arith)) ∙ ap (Ownership.owned z) back ∙ sym (owned_same N W m z r p hp) ∙ e)

  found_once : occurrences b (Buffers.held m N) ≡ 1
  found_once = occurrences_append b (map (Buffers.kept m) (numbers 0 (2 * N))) (map (Buffers.owned m) (numbers 0 N)) ∙ go (dec_lt slot (2 * N))
    where
      go : Dec (slot < 2 * N) → occurrences b (map (Buffers.kept m) (numbers 0 (2 * N))) + occurrences b (map (Buffers.owned m) (numbers 0 N)) ≡ 1
      go (yes h) =
          let at = kept_same N W m z r slot h ∙ sym (in_slot slot true (lt-ltb slot (2 * N) h)) ∙ once_held.2 in
          let x = once (Buffers.kept m) b 0 (2 * N) slot (omega arith) (omega arith) at (λ i low high e. held_kept i (omega arith) e) in
          let y = nowhere (Buffers.owned m) b 0 N (λ p low high e. let q = held_owned p (omega arith) e in omega arith) in omega arith
      go (no h) =
          let below = once_held.1 in let p : ℕ = slot - 2 * N in
          let at = owned_same N W m z r p (omega arith) ∙ sym (in_slot slot false (le-ltb slot (2 * N) (omega arith))) ∙ once_held.2 in
          let x = nowhere (Buffers.kept m) b 0 (2 * N) (λ i low high e. let q = held_kept i (omega arith) e in omega arith) in
          let y = once (Buffers.owned m) b 0 N p (omega arith) (omega arith) at (λ q low high e. let u = held_owned q (omega arith) e in omega arith) in omega arith

pub every_buffer_once : EveryBufferOnce
every_buffer_once m shaped n w value cs e b hb =
    let h_w = set_up_halves m n w value e in let h = holds_along m shaped n w value e h_w cs in
    found_once n w _ _ h.related b (held_once n (halves w) _ _ h.inv h.range b hb)
