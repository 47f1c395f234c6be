-- Open calls: what a history knows of a process's open call is what the machine holds of it, and how a step changes it.
use mathlib.Core.Path.{◌≡◌, refl, sym, ap}
use mathlib.Core.Bool.{false, cond}
use mathlib.Core.List.{List}
use Prim.Native.Nat.{ℕ, suc, ◌+◌, ◌%◌}
use native.Mathlib.Numerals.{add-one}
use lib.Dec.{ltb, eqb}
use Rattle.laws.proofs.Updates.{upd_same, upd_other, by_test, by_test₂}
use Rattle.linearization.proofs.GhostMachine
use Rattle.linearization.proofs.GhostMachine.{Local, Shared, State, quiet, noisy}
use Rattle.linearization.proofs.WordLists.{words_of}
use Rattle.model.specs.Points.{Point, idle, line1, line2, line3, line4, line5, line6, line7, line7copy, line8, line9}
use Rattle.model.specs.Points.{line10, line11, line12, line12valid, line13, line14, line14valid, line15, line17, line18}
use Rattle.model.specs.Points.{line19, line23}
use Rattle.llsc.specs.Object.{Kind, ll, sc, vl}
use Rattle.llsc.specs.History.{Slot, none, running, stepped}

-- the open call of a process at point y, started at command st, with c own steps and the words w offered
abbrev pub slot_of : Point → ℕ → ℕ → List ℕ → Slot
slot_of idle st c w = none
slot_of line1 st c w = running ll st c
slot_of line2 st c w = running ll st c
slot_of line3 st c w = running ll st c
slot_of line4 st c w = running ll st c
slot_of line5 st c w = running ll st c
slot_of line6 st c w = running ll st c
slot_of line7 st c w = running ll st c
slot_of line7copy st c w = running ll st c
slot_of line8 st c w = running ll st c
slot_of line9 st c w = running ll st c
slot_of line10 st c w = running ll st c
slot_of line11 st c w = running ll st c
slot_of line12 st c w = running (sc w) st c
slot_of line12valid st c w = running (sc w) st c
slot_of line13 st c w = running (sc w) st c
slot_of line14 st c w = running (sc w) st c
slot_of line14valid st c w = running (sc w) st c
slot_of line15 st c w = running (sc w) st c
slot_of line17 st c w = running (sc w) st c
slot_of line18 st c w = running (sc w) st c
slot_of line19 st c w = running (sc w) st c
slot_of line23 st c w = running vl st c

abbrev pub slot_in : ℕ → State → ℕ → Slot
slot_in W s p = slot_of (s.loc p).point (s.sh.start p) (s.loc p).count (words_of W (s.loc p).offered)

-- the slot after a step at point y of a process whose word place is k: one step more, or none where the step answers
abbrev pub slot_after_step : ℕ → Point → ℕ → Slot → Slot
slot_after_step W idle k z = stepped z
slot_after_step W line1 k z = stepped z
slot_after_step W line2 k z = stepped z
slot_after_step W line3 k z = stepped z
slot_after_step W line4 k z = stepped z
slot_after_step W line5 k z = stepped z
slot_after_step W line6 k z = stepped z
slot_after_step W line7 k z = stepped z
slot_after_step W line7copy k z = stepped z
slot_after_step W line8 k z = stepped z
slot_after_step W line9 k z = stepped z
slot_after_step W line10 k z = stepped z
slot_after_step W line11 k z = cond (ltb (suc k) W) (stepped z) none
slot_after_step W line12 k z = stepped z
slot_after_step W line12valid k z = stepped z
slot_after_step W line13 k z = stepped z
slot_after_step W line14 k z = stepped z
slot_after_step W line14valid k z = stepped z
slot_after_step W line15 k z = stepped z
slot_after_step W line17 k z = stepped z
slot_after_step W line18 k z = stepped z
slot_after_step W line19 k z = none
slot_after_step W line23 k z = none

-- a step of p leaves the others' slots, and gives p's one step more or ends its call
pub record SlotStep (W p : ℕ) (slot : Slot) (s s' : State) : Type 0 where
  pub others : (q : ℕ) → (q ≡ p → ⊥) → slot_in W s' q ≡ slot_in W s q
  pub own : slot_in W s' p ≡ slot

module _ (N W p t : ℕ) (s : State) where
  -- g changes links only
  on_write_is : (h : Shared) (g : Local → Local) (k : Local) (own : Slot) → h.start ≡ s.sh.start → ((l : Local) → (g l).point ≡ l.point)
      → ((l : Local) → (g l).count ≡ l.count) → ((l : Local) → (g l).offered ≡ l.offered)
      → slot_of k.point (s.sh.start p) k.count (words_of W k.offered) ≡ own → SlotStep W p own s (noisy s p h g k)
  on_write_is h g k own e a b c o = record {
    others = λ q ne. rw (upd_other (λ q. g (s.loc q)) p q k ne, e, a (s.loc q), b (s.loc q), c (s.loc q));
    own = rw (upd_same (λ q. g (s.loc q)) p k, e) o;
  }

  -- a write that leaves the others' records
  on_shared : (h : Shared) (k : Local) (own : Slot) → h.start ≡ s.sh.start → slot_of k.point (s.sh.start p) k.count (words_of W k.offered) ≡ own
      → SlotStep W p own s (noisy s p h (λ l. l) k)
  on_shared h k own e o = on_write_is h (λ l. l) k own e (λ _. refl) (λ _. refl) (λ _. refl) o

  on_quiet : (k : Local) (own : Slot) → slot_of k.point (s.sh.start p) k.count (words_of W k.offered) ≡ own → SlotStep W p own s (quiet s p k)
  on_quiet k own o = on_shared s.sh k own refl o

  abbrev l : Local
  l = s.loc p

  more : (k : Kind) → running k (s.sh.start p) (suc l.count) ≡ running k (s.sh.start p) (l.count + 1)
  more k = ap (running k (s.sh.start p)) (sym (add-one l.count))

  abbrev more_ll : running ll (s.sh.start p) (suc l.count) ≡ running ll (s.sh.start p) (l.count + 1)
  more_ll = more ll

  abbrev more_sc : running (sc (words_of W l.offered)) (s.sh.start p) (suc l.count) ≡ running (sc (words_of W l.offered)) (s.sh.start p) (l.count + 1)
  more_sc = more (sc (words_of W l.offered))

  abbrev after : Point → Slot
  after y = slot_after_step W y l.word (slot_of y (s.sh.start p) l.count (words_of W l.offered))

  -- a run of words, read
  on_words : (y z : Point) (k : Local) (own : Slot) → slot_of y (s.sh.start p) (suc k.count) (words_of W k.offered) ≡ own
      → slot_of z (s.sh.start p) (suc k.count) (words_of W k.offered) ≡ own → SlotStep W p own s (quiet s p (GhostMachine.word W y z k))
  on_words y z k own a b = by_test (λ j. SlotStep W p own s (quiet s p j)) (ltb (suc k.word) W) (λ _. on_quiet _ own a) (λ _. on_quiet _ own b)

  slot_at : (y : Point) → l.point ≡ y → SlotStep W p (after y) s (GhostMachine.step_at N W y t p s)
  unfolding GhostMachine.step_at
  slot_at idle e = record { others = λ q ne. refl; own = rw e }
  slot_at line1 e = on_write_is _ (GhostMachine.set_link_help p false) _ _ refl (λ _. refl) (λ _. refl) (λ _. refl) more_ll
  slot_at line2 e = on_quiet _ _ more_ll
  slot_at line3 e = on_words line3 line4 (GhostMachine.set_returned l.word (s.sh.buf l.copy_buf l.word) l) _ more_ll more_ll
  slot_at line4 e = by_test (SlotStep W p (after line4) s) (s.sh.flag p) (λ _. on_quiet _ _ more_ll) (λ _. on_quiet _ _ more_ll)
  slot_at line5 e = on_quiet _ _ more_ll
  slot_at line6 e = on_words line6 line7 (GhostMachine.set_returned l.word (s.sh.buf l.copy_buf l.word) l) _ more_ll more_ll
  slot_at line7 e = by_test (SlotStep W p (after line7) s) l.link_x (λ _. on_quiet _ _ more_ll) (λ _. on_quiet _ _ more_ll)
  slot_at line7copy e = on_words line7copy line8 (GhostMachine.set_returned l.word (s.sh.buf l.b l.word) l) _ more_ll more_ll
  slot_at line8 e = by_test (SlotStep W p (after line8) s) (s.sh.flag p) (λ _. on_quiet _ _ more_ll) (λ _. on_quiet _ _ more_ll)
  slot_at line9 e =
      by_test (SlotStep W p (after line9) s) (l.link_help p)
      (λ _. on_write_is _ (GhostMachine.set_link_help p false) _ _ refl (λ _. refl) (λ _. refl) (λ _. refl) more_ll)
      (λ _. on_quiet _ _ more_ll)
  slot_at line10 e = on_quiet _ _ more_ll
  slot_at line11 e = by_test₂ (λ (z : Slot) (u : State). SlotStep W p z s u) (ltb (suc l.word) W) (λ _. on_shared _ _ _ refl more_ll) (λ _. on_shared _ _ _ refl refl)
  slot_at line12 e = by_test (SlotStep W p (after line12) s) (eqb (s.sh.bank l.copy_seq) l.copy_buf) (λ _. on_quiet _ _ more_sc) (λ _. on_quiet _ _ more_sc)
  slot_at line12valid e = by_test (SlotStep W p (after line12valid) s) l.link_x (λ _. on_quiet _ _ more_sc) (λ _. on_quiet _ _ more_sc)
  slot_at line13 e =
      by_test (SlotStep W p (after line13) s) (l.link_bank l.copy_seq)
      (λ _. on_write_is _ (GhostMachine.set_link_bank l.copy_seq false) _ _ refl (λ _. refl) (λ _. refl) (λ _. refl) more_sc)
      (λ _. on_quiet _ _ more_sc)
  slot_at line14 e = by_test (SlotStep W p (after line14) s) (s.sh.flag (l.copy_seq % N)) (λ _. on_quiet _ _ more_sc) (λ _. on_quiet _ _ more_sc)
  slot_at line14valid e = by_test (SlotStep W p (after line14valid) s) l.link_x (λ _. on_quiet _ _ more_sc) (λ _. on_quiet _ _ more_sc)
  slot_at line15 e =
      by_test (SlotStep W p (after line15) s) (l.link_help (l.copy_seq % N))
      (λ _. on_write_is _ (GhostMachine.set_link_help (l.copy_seq % N) false) _ _ refl (λ _. refl) (λ _. refl) (λ _. refl) more_sc)
      (λ _. on_quiet _ _ more_sc)
  slot_at line17 e =
      by_test (λ k. SlotStep W p (after line17) s (noisy s p (GhostMachine.w_buf l.mybuf l.word (l.offered l.word) s.sh) (λ l. l) k)) (ltb (suc l.word) W)
      (λ _. on_shared _ _ _ refl more_sc) (λ _. on_shared _ _ _ refl more_sc)
  slot_at line18 e = on_quiet _ _ more_sc
  slot_at line19 e = by_test (SlotStep W p none s) l.link_x (λ _. on_write_is _ (GhostMachine.set_link_x false) _ _ refl (λ _. refl) (λ _. refl) (λ _. refl) refl) (λ _. on_shared _ _ _ refl refl)
  slot_at line23 e = on_shared _ _ _ refl refl

  pub slot_step : SlotStep W p (slot_after_step W l.point l.word (slot_in W s p)) s (GhostMachine.step N W t p s)
  unfolding GhostMachine.step
  slot_step = slot_at l.point refl

-- a start opens p's call, at command n and with no step, and leaves the others'
pub slot_start : (W p n : ℕ) (y : Point) (w : ℕ → ℕ) (s : State)
    → SlotStep W p (slot_of y n 0 (words_of W w)) s (noisy s p (GhostMachine.w_start p n s.sh) (λ l. l) (GhostMachine.begin y w (s.loc p)))
slot_start W p n y w s = record {
  others = λ q ne. rw (upd_other (λ q. s.loc q) p q (GhostMachine.begin y w (s.loc p)) ne, upd_other s.sh.start p q n ne);
  own = rw (upd_same (λ q. s.loc q) p (GhostMachine.begin y w (s.loc p)), upd_same s.sh.start p n);
}
