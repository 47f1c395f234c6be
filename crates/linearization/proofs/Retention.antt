-- Retention: while fewer than 2N successes followed a success, its buffer keeps its value.
use mathlib.Core.Path.{◌≡◌, refl, ap, ◌∙◌}
use mathlib.Core.Bool.{Bool, cond}
use mathlib.Core.List.{List}
use Prim.Native.Nat.{ℕ, suc, ◌+◌, ◌*◌, ◌%◌, ◌≤◌, ◌<◌}
use native.Mathlib.Omega.{arith}
use lib.Dec.{ltb, eqb}
use Rattle.laws.proofs.Updates.{upd, upd_other, by_test}
use Rattle.linearization.proofs.GhostMachine.{Shared, State, step, step_at}
use Rattle.model.specs.Points.{Point, idle, line1, line2, line3, line4, line5, line6, line7, line7copy, line8, line9}
use Rattle.model.specs.Points.{line10, line11, line12, line12valid, line13, line14, line14valid, line15, line17, line18}
use Rattle.model.specs.Points.{line19, line23}
use Rattle.linearization.proofs.Invariants.{Invariant}
use Rattle.linearization.proofs.GhostRuns.{Cmd, exec}
use Rattle.linearization.proofs.InvariantRuns.{execs, along, by_command}

-- a longer list of successes, its buffers and values: it begins with the shorter one
pub record Longer (S S' : ℕ) (B B' : ℕ → ℕ) (X X' : ℕ → ℕ → ℕ) : Type 0 where
  pub more : S ≤ S'
  pub buffers : (i : ℕ) → i ≤ S → B' i ≡ B i
  pub values : (i : ℕ) → i ≤ S → X' i ≡ X i

abbrev pub Grows : State → State → Type 0
Grows s t = Longer s.sh.successes t.sh.successes s.sh.buffers t.sh.buffers s.sh.values t.sh.values

pub grows_none : (s : State) → Grows s s
grows_none s = record { more = omega arith; buffers = λ i h. refl; values = λ i h. refl }

pub grows_then : (s t u : State) → Grows s t → Grows t u → Grows s u
grows_then s t u a b =
    let m = a.more in
    record {
      more = omega arith;
      buffers = λ i h. b.buffers i (omega arith) ∙ a.buffers i h;
      values = λ i h. b.values i (omega arith) ∙ a.values i h;
    }

-- X, and the list of successes
abbrev pub x_part : Shared → ℕ × ℕ × ℕ × (ℕ → ℕ) × (ℕ → ℕ → ℕ)
x_part h = (h.xbuf, h.xseq, h.successes, h.buffers, h.values)

-- what a command makes of them: nothing, or one success more
pub data OnX (s t : State) : Type 0 where
  left_alone : x_part t.sh ≡ x_part s.sh → OnX s t
  succeeded : (b : ℕ) (v : ℕ → ℕ) → t.sh.successes ≡ suc s.sh.successes → t.sh.buffers ≡ upd s.sh.buffers (suc s.sh.successes) b
      → t.sh.values ≡ upd s.sh.values (suc s.sh.successes) v → OnX s t

grows_by : (s t : State) → OnX s t → Grows s t
grows_by s t (left_alone e) =
    let k : t.sh.successes ≡ s.sh.successes = ap (λ x. x.2) e in
    record { more = omega arith; buffers = λ i h. ap (λ x. x.3 i) e; values = λ i h. ap (λ x. x.4 i) e }
grows_by s t (succeeded b v k e f) = record {
  more = omega arith;
  buffers = λ i h. ap (λ B. B i) e ∙ upd_other s.sh.buffers (suc s.sh.successes) i b (λ z. omega arith);
  values = λ i h. ap (λ X. X i) f ∙ upd_other s.sh.values (suc s.sh.successes) i v (λ z. omega arith);
}

module _ (N W : ℕ) where
  module _ (n : ℕ) (s : State) where
    two : (b : Bool) (x y : State) → OnX s x → OnX s y → OnX s (cond b x y)
    two b x y f g = by_test (OnX s) b (λ _. f) (λ _. g)

    step_on_x : (p : ℕ) (y : Point) → OnX s (step_at N W y n p s)
    unfolding step_at
    step_on_x p idle = left_alone refl
    step_on_x p line1 = left_alone refl
    step_on_x p line2 = left_alone refl
    step_on_x p line3 = left_alone refl
    step_on_x p line4 = two (s.sh.flag p) _ _ (left_alone refl) (left_alone refl)
    step_on_x p line5 = left_alone refl
    step_on_x p line6 = left_alone refl
    step_on_x p line7 = two (s.loc p).link_x _ _ (left_alone refl) (left_alone refl)
    step_on_x p line7copy = left_alone refl
    step_on_x p line8 = two (s.sh.flag p) _ _ (left_alone refl) (left_alone refl)
    step_on_x p line9 = two ((s.loc p).link_help p) _ _ (left_alone refl) (left_alone refl)
    step_on_x p line10 = left_alone refl
    step_on_x p line11 = two (ltb (suc (s.loc p).word) W) _ _ (left_alone refl) (left_alone refl)
    step_on_x p line12 = two (eqb (s.sh.bank (s.loc p).copy_seq) (s.loc p).copy_buf) _ _ (left_alone refl) (left_alone refl)
    step_on_x p line12valid = two (s.loc p).link_x _ _ (left_alone refl) (left_alone refl)
    step_on_x p line13 = two ((s.loc p).link_bank (s.loc p).copy_seq) _ _ (left_alone refl) (left_alone refl)
    step_on_x p line14 = two (s.sh.flag ((s.loc p).copy_seq % N)) _ _ (left_alone refl) (left_alone refl)
    step_on_x p line14valid = two (s.loc p).link_x _ _ (left_alone refl) (left_alone refl)
    step_on_x p line15 = two ((s.loc p).link_help ((s.loc p).copy_seq % N)) _ _ (left_alone refl) (left_alone refl)
    step_on_x p line17 = left_alone refl
    step_on_x p line18 = left_alone refl
    step_on_x p line19 = two (s.loc p).link_x _ _ (succeeded _ _ refl refl refl) (left_alone refl)
    step_on_x p line23 = left_alone refl

    pub exec_on_x : (c : Cmd) → OnX s (exec N W n c s)
    unfolding step
    exec_on_x c = by_command N W (OnX s) n s (left_alone refl) (λ p y w f hp e. left_alone refl) (λ p hp. step_on_x p (s.loc p).point) c

  -- what has been a success stays one, over every list of commands
  pub execs_grow : (n : ℕ) (cs : List Cmd) (s : State) → Grows s (execs N W n cs s)
  execs_grow n cs s = along N W (λ _ t. Grows s t) (λ m t c g. grows_then s t (exec N W m c t) g (grows_by t _ (exec_on_x m t c))) n cs s (grows_none s)

  -- success i's buffer holds its value while fewer than 2N successes followed (i = 0: the set-up's)
  pub success_kept : (m : ℕ) (s t : State) → Invariant N W m t → Grows s t → (i : ℕ) → i ≤ s.sh.successes → t.sh.successes < i + 2 * N
      → (w : ℕ) → w < W → t.sh.buf (s.sh.buffers i) w ≡ s.sh.values i w
  success_kept m s t j g i hi few w hw =
      let more = g.more in
      let there : t.sh.buf (t.sh.buffers i) w ≡ t.sh.values i w = j.all.recent_values i (omega arith) few w hw in
      let b = g.buffers i hi in let v = g.values i hi in cc
