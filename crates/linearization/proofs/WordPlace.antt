-- The word place is 0 but in a run of words; so an idle process has word place 0.
use mathlib.Core.Path.{◌≡◌, refl, subst}
use mathlib.Core.Bool.{false}
use Prim.Native.Nat.{ℕ, suc, ◌%◌, ◌<◌}
use lib.Dec.{ltb, eqb}
use Rattle.laws.proofs.Updates.{upd, upd_same, upd_other, Split, same, other, split, by_test}
use Rattle.linearization.proofs.GhostMachine.{Local, Shared, State, quiet, noisy, step, step_at, set_link_help, set_link_bank, set_link_x, w_buf, w_start, begin}
use Rattle.linearization.proofs.GhostRuns.{Cmd, exec, setup}
use Rattle.linearization.proofs.InvariantRuns.{First, ll, vl, sc, by_command}
use Rattle.model.specs.Points.{Point, idle, line1, line2, line3, line4, line5, line6, line7, line7copy, line8, line9}
use Rattle.model.specs.Points.{line10, line11, line12, line12valid, line13, line14, line14valid, line15, line17, line18}
use Rattle.model.specs.Points.{line19, line23}

abbrev pub AtFirst : Point → ℕ → Type 0
AtFirst idle k = k ≡ 0
AtFirst line1 k = k ≡ 0
AtFirst line2 k = k ≡ 0
AtFirst line3 k = Unit {0}
AtFirst line4 k = k ≡ 0
AtFirst line5 k = k ≡ 0
AtFirst line6 k = Unit {0}
AtFirst line7 k = k ≡ 0
AtFirst line7copy k = Unit {0}
AtFirst line8 k = k ≡ 0
AtFirst line9 k = k ≡ 0
AtFirst line10 k = k ≡ 0
AtFirst line11 k = Unit {0}
AtFirst line12 k = k ≡ 0
AtFirst line12valid k = k ≡ 0
AtFirst line13 k = k ≡ 0
AtFirst line14 k = k ≡ 0
AtFirst line14valid k = k ≡ 0
AtFirst line15 k = k ≡ 0
AtFirst line17 k = Unit {0}
AtFirst line18 k = k ≡ 0
AtFirst line19 k = k ≡ 0
AtFirst line23 k = k ≡ 0

module _ (N W : ℕ) where
  pub record PInv (s : State) : Type 0 where
    pub each : (q : ℕ) → q < N → AtFirst (s.loc q).point (s.loc q).word

  pub idle_word : (s : State) (q : ℕ) → q < N → PInv s → (s.loc q).point ≡ idle → (s.loc q).word ≡ 0
  idle_word s q hq i e = subst (λ y. AtFirst y (s.loc q).word) e (i.each q hq)

  module _ (s : State) (p t : ℕ) (hp : p < N) (i : PInv s) where
    abbrev l : Local
    l = s.loc p

    pub place_noisy : (h' : Shared) (g : Local → Local) (k : Local) → ((m : Local) → (g m).point ≡ m.point) → ((m : Local) → (g m).word ≡ m.word)
        → AtFirst k.point k.word → PInv (noisy s p h' g k)
    place_noisy h' g k a b me = record { each = λ q hq. go q hq (split q p) }
      where
        go : (q : ℕ) → q < N → Split q p → AtFirst (upd (λ r. g (s.loc r)) p k q).point (upd (λ r. g (s.loc r)) p k q).word
        go q hq (same e) = rw e (rw (upd_same (λ r. g (s.loc r)) p k) me)
        go q hq (other ne) = rw (upd_other (λ r. g (s.loc r)) p q k ne) (rw (a (s.loc q), b (s.loc q)) (i.each q hq))

    q! : (k : Local) → AtFirst k.point k.word → PInv (quiet s p k)
    q! k me = place_noisy s.sh (λ m. m) k (λ _. refl) (λ _. refl) me

    pub place_step : (y : Point) → AtFirst y l.word → PInv (step_at N W y t p s)
    unfolding step_at
    place_step idle m = i
    place_step line1 m = place_noisy _ (set_link_help p false) _ (λ _. refl) (λ _. refl) m
    place_step line2 m = q! _ tt
    place_step line3 m = by_test (λ x. PInv (quiet s p x)) (ltb (suc l.word) W) (λ _. q! _ tt) (λ _. q! _ refl)
    place_step line4 m = by_test PInv (s.sh.flag p) (λ _. q! _ m) (λ _. q! _ m)
    place_step line5 m = q! _ tt
    place_step line6 m = by_test (λ x. PInv (quiet s p x)) (ltb (suc l.word) W) (λ _. q! _ tt) (λ _. q! _ refl)
    place_step line7 m = by_test PInv l.link_x (λ _. q! _ m) (λ _. q! _ tt)
    place_step line7copy m = by_test (λ x. PInv (quiet s p x)) (ltb (suc l.word) W) (λ _. q! _ tt) (λ _. q! _ refl)
    place_step line8 m = by_test PInv (s.sh.flag p) (λ _. q! _ m) (λ _. q! _ m)
    place_step line9 m = by_test PInv (l.link_help p) (λ _. place_noisy _ (set_link_help p false) _ (λ _. refl) (λ _. refl) m) (λ _. q! _ m)
    place_step line10 m = q! _ tt
    place_step line11 m = by_test PInv (ltb (suc l.word) W) (λ _. place_noisy _ (λ m. m) _ (λ _. refl) (λ _. refl) tt) (λ _. place_noisy _ (λ m. m) _ (λ _. refl) (λ _. refl) refl)
    place_step line12 m = by_test PInv (eqb (s.sh.bank l.copy_seq) l.copy_buf) (λ _. q! _ m) (λ _. q! _ m)
    place_step line12valid m = by_test PInv l.link_x (λ _. q! _ m) (λ _. q! _ m)
    place_step line13 m = by_test PInv (l.link_bank l.copy_seq) (λ _. place_noisy _ (set_link_bank l.copy_seq false) _ (λ _. refl) (λ _. refl) m) (λ _. q! _ m)
    place_step line14 m = by_test PInv (s.sh.flag (l.copy_seq % N)) (λ _. q! _ m) (λ _. q! _ tt)
    place_step line14valid m = by_test PInv l.link_x (λ _. q! _ m) (λ _. q! _ tt)
    place_step line15 m = by_test PInv (l.link_help (l.copy_seq % N)) (λ _. place_noisy _ (set_link_help (l.copy_seq % N) false) _ (λ _. refl) (λ _. refl) tt) (λ _. q! _ tt)
    place_step line17 m =
        by_test (λ x. PInv (noisy s p (w_buf l.mybuf l.word (l.offered l.word) s.sh) (λ m. m) x)) (ltb (suc l.word) W)
        (λ _. place_noisy _ (λ m. m) _ (λ _. refl) (λ _. refl) tt)
        (λ _. place_noisy _ (λ m. m) _ (λ _. refl) (λ _. refl) refl)
    place_step line18 m = q! _ m
    place_step line19 m = by_test PInv l.link_x (λ _. place_noisy _ (set_link_x false) _ (λ _. refl) (λ _. refl) m) (λ _. place_noisy _ (λ m. m) _ (λ _. refl) (λ _. refl) m)
    place_step line23 m = place_noisy _ (λ m. m) _ (λ _. refl) (λ _. refl) m

  -- the first line of a call
  first_place : {off : ℕ → ℕ} {y : Point} {w : ℕ → ℕ} → First off y w → AtFirst y 0
  first_place ll = refl
  first_place vl = refl
  first_place (sc w) = refl

  pub exec_places : (n : ℕ) (s : State) (c : Cmd) → PInv s → PInv (exec N W n c s)
  unfolding step
  exec_places n s c i =
      by_command N W PInv n s i
      (λ p y w f hp e. place_noisy s p n hp i (w_start p n s.sh) (λ l. l) (begin y w (s.loc p)) (λ _. refl) (λ _. refl) (first_place f))
      (λ p hp. place_step s p n hp i (s.loc p).point (i.each p hp)) c

  pub setup_places : (v : ℕ → ℕ) → PInv (setup N W v)
  setup_places v = record { each = λ q hq. refl }
