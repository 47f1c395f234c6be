-- What an accepted command found.
use mathlib.Core.Path.{◌≡◌, refl, ap, subst}
use mathlib.Core.Bool.{Bool, true, false, not, ◌&&◌, cond}
use mathlib.Core.List.{List, [], ◌∷◌}
use Prim.Native.Nat.{ℕ, zero, suc, ◌+◌, ◌≤◌, ◌<◌}
use native.Mathlib.Omega.{arith}
use lib.Dec.{ltb, leb}
use borrow.Author.Tests.{ltb-true, ltb-false, leb-false, eqb-true, eq-eqb, ne_eqb, not-false}
use lib.ListN.{length, get_or, take}
use lib.Seq.{get_or-take, length-take-le}
use Rattle.model.specs.declared.Reply.TheVariants.{Refused}
use Rattle.llsc.specs.Rows.{every, is_start, needs_ll, brings_value}
use Rattle.model.specs.Refusals.{bench_ok}
use Rattle.model.specs.SetUp.{numbers}
use Rattle.laws.proofs.Updates.{contra}
use Rattle.serving.proofs.RefusalFacts.{and_true, or_false, no_row, none_holds, inside}
use Rattle.station.specs.Station.{StationMemory, station_words, no_station_process, process_at, holding_at}
use Rattle.station.specs.Projection.{bench_of, at_rest, embed}
use Rattle.station.specs.StationRefusals.{StationOrder, record_for, station_rows, station_in_range, station_process_ok, called_ok}
use Rattle.station.specs.StationCommand.{station_refusal, station_command, obeyed_on}

pub record Accepts (s : StationMemory) (c : StationOrder) : Type 0 where
  pub n_low : 1 ≤ s.n
  pub n_high : s.n ≤ 16
  pub w_low : 1 ≤ s.w
  pub w_high : s.w ≤ 64
  pub r_low : 1 ≤ s.r
  pub r_high : s.r ≤ 8
  pub words : station_words s.n s.w s.r ≤ length s.words
  pub processes : s.n ≤ length s.processes
  pub below : c.process < s.n
  pub on : (record_for s c).0 < s.r
  pub value : brings_value c.order ≡ true → length c.value ≡ s.w
  pub start : is_start c.order ≡ true → at_rest (process_at s c.process) ≡ true
  pub step : is_start c.order ≡ false → at_rest (process_at s c.process) ≡ false
  pub answered : needs_ll c.order ≡ true → (holding_at (process_at s c.process) (record_for s c)).answered ≡ true
  pub ranges : station_process_ok s.n s.w s.r (process_at s c.process) ≡ true

pub every_at : {A : Type 0} (f : A → Bool) (d : A) (xs : List A) (i : ℕ) → every f xs ≡ true → i < length xs → f (get_or xs i d) ≡ true
every_at f d [] i e h = absurd (omega arith)
every_at f d (x ∷ xs) zero e h = (and_true (f x) _ e).0
every_at f d (x ∷ xs) (suc i) e h = every_at f d xs i (and_true (f x) _ e).1 (omega arith)

every_from : (f : ℕ → Bool) (a n i : ℕ) → every f (numbers a n) ≡ true → i < n → f (a + i) ≡ true
every_from f a zero i e h = absurd (omega arith)
every_from f a (suc n) zero e h = subst (λ k. f k ≡ true) (let z : a ≡ a + 0 = omega arith in z) (and_true (f a) _ e).0
every_from f a (suc n) (suc i) e h =
    subst (λ k. f k ≡ true) (let z : suc a + i ≡ a + suc i = omega arith in z) (every_from f (suc a) n i (and_true (f a) _ e).1 (omega arith))

pub every_number : (f : ℕ → Bool) (r i : ℕ) → every f (numbers 0 r) ≡ true → i < r → f i ≡ true
every_number f r i e h = subst (λ k. f k ≡ true) (let z : 0 + i ≡ i = omega arith in z) (every_from f 0 r i e h)

of_and : (a b : Bool) → a && b ≡ false → a ≡ true → b ≡ false
of_and true b e h = e
of_and false b e h = absurd (contra h refl)

which : (b : Bool) (k l r : ℕ) → b && leb r k ≡ false → l < r → cond b k l < r
which true k l r e h = leb-false r k e
which false k l r e h = h

in_range_lem : (s : StationMemory) (p : ℕ) → station_in_range s ≡ true → s.n ≤ length s.processes → p < s.n → station_process_ok s.n s.w s.r (process_at s p) ≡ true
unfolding station_in_range
in_range_lem s p e h hp =
    let l = length-take-le s.n s.processes h in
    subst (λ q. station_process_ok s.n s.w s.r q ≡ true) (get_or-take s.n s.processes p no_station_process hp)
    (every_at (station_process_ok s.n s.w s.r) no_station_process (take s.n s.processes) p
    (and_true (every (λ j. bench_ok (bench_of s (record { 0 = j }))) (numbers 0 s.r)) _ e).1 (omega arith))

called_below : (s : StationMemory) (p : ℕ) → station_process_ok s.n s.w s.r (process_at s p) ≡ true → (process_at s p).called.0 < s.r
called_below s p ok = ltb-true _ _ (and_true (ltb (process_at s p).called.0 s.r) _ (and_true (called_ok s.r (process_at s p)) _ ok).0).0

pub accepts : (s : StationMemory) (c : StationOrder) → station_refusal s c ≡ 0 → Accepts s c
unfolding station_refusal
accepts s c e =
    let r : (i : ℕ) → (get_or (station_rows s c) i no_row).holds ≡ false = none_holds (station_rows s c) refl e in
    let a = inside 1 16 s.n (r 0) in
    let b = inside 1 64 s.w (r 1) in
    let d = inside 1 8 s.r (r 2) in
    let f = or_false _ _ (r 3) in
    let ps : s.n ≤ length s.processes = ltb-false _ _ f.1 in
    let hp : c.process < s.n = leb-false _ _ (r 5) in
    let ok = in_range_lem s c.process (not-false _ (r 4)) ps hp in
    record {
      n_low = a.0;
      n_high = a.1;
      w_low = b.0;
      w_high = b.1;
      r_low = d.0;
      r_high = d.1;
      words = ltb-false _ _ f.0;
      processes = ps;
      below = hp;
      on = which (is_start c.order) c.called (process_at s c.process).called.0 s.r (r 6) (called_below s c.process ok);
      value = λ h. eqb-true _ _ (not-false _ (of_and _ _ (r 7) h));
      start = λ h. not-false _ (of_and _ _ (r 8) h);
      step = λ h. of_and _ _ (r 9) (ap not h);
      answered = λ h. not-false _ (of_and _ _ (r 10) h);
      ranges = ok;
    }

pub obeys : (s : StationMemory) (c : StationOrder) → station_refusal s c ≡ 0 → station_command s c ≡ embed s (record_for s c) c.process (obeyed_on s (record_for s c) c)
unfolding station_command
obeys s c e = ap (λ b. cond b (embed s (record_for s c) c.process (obeyed_on s (record_for s c) c)) (Refused (station_refusal s c), s)) (eq-eqb _ 0 e)

pub refuses : (s : StationMemory) (c : StationOrder) → (station_refusal s c ≡ 0 → ⊥) → station_command s c ≡ (Refused (station_refusal s c), s)
unfolding station_command
refuses s c e = ap (λ b. cond b (embed s (record_for s c) c.process (obeyed_on s (record_for s c) c)) (Refused (station_refusal s c), s)) (ne_eqb _ 0 e)
