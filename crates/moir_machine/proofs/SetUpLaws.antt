-- The set-up: one tag more, and what it means that no row holds.
use mathlib.Core.Path.{◌≡◌, refl, sym, ap, ◌∙◌}
use mathlib.Core.List.{List, ◌++◌}
use mathlib.Core.Bool.{false, cond}
use Prim.Native.Nat.{ℕ, zero, suc, ◌+◌, ◌-◌, ◌*◌, ◌≤◌}
use native.Mathlib.Nat.{mul-le-mul_right, one-mul}
use native.Mathlib.Omega.{arith}
use lib.Dec.{eqb, ltb}
use lib.ListN.{length, replicate, length-append, length-replicate}
use lib.Seq.{sets}
use borrow.Author.Tests.{eq-eqb, ne_eqb, eqb-true, ltb-false, not-false}
use Rattle.llsc.specs.Rows.{row1, row2, row8always}
use Rattle.moir_model.specs.declared.Bench.{Bench}
use Rattle.moir_model.specs.declared.Process.{Process}
use Rattle.moir_model.specs.Machine.{Memory}
use Rattle.moir_model.specs.Refusals.{row3}
use Rattle.moir_model.specs.SetUp.{bench_at_set_up, words_at_set_up, set_up, set_up_refusal}
use Rattle.moir_machine.specs.SetUpByValue.{set_up_number, set_up_number_lem, Accepted, prepared, records_set}
use Rattle.laws.proofs.ListLaws.{sets_append}
use Rattle.rows.proofs.RowLaws.{cleared, n_in, w_in, neither}
use Rattle.llsc.proofs.RefusalNumbers.{number_some}

-- A[0] and the segments are rows of the lent words
pub first_row_lem : (n w : ℕ) → 1 ≤ n → w ≤ n * w
first_row_lem n w h = omega (arith, mul-le-mul_right {m = 1} {n = n} w h, one-mul w)

-- the four runs of words
pub words_set : (ws value : List ℕ) (n w : ℕ) → 1 ≤ n → length value ≡ w
    → sets (sets (sets (sets ws 0 value) w (replicate (n * w - w) 0)) (n * w) value) (n * w + w)
    (replicate ((3 * n + 1) * w - (n * w + w)) 0) ≡ words_at_set_up ws n w value
words_set ws value n w h e =
    let z1 : List ℕ = replicate ((n - 1) * w) 0 in
    let z2 : List ℕ = replicate (2 * n * w) 0 in
    let rows : (n - 1) * w ≡ n * w - w = let k : suc (n - 1) ≡ n = omega arith in let y : suc (n - 1) * w ≡ n * w = ap (◌* w) k in omega arith in
    let last : (3 * n + 1) * w - (n * w + w) ≡ 2 * n * w = omega arith in
    let la : 0 + length value ≡ w = omega arith in
    let lb : 0 + length (value ++ z1) ≡ n * w = let x = length-append value z1 in let y : length z1 ≡ (n - 1) * w =
    length-replicate ((n - 1) * w) 0 in let z = first_row_lem n w h in omega arith in
    let lc : 0 + length (value ++ z1 ++ value) ≡ n * w + w = let x = length-append (value ++ z1) value in omega arith in
    rw (last, sym rows)
    (sym (sets_append ws 0 (value ++ z1 ++ value) z2 ∙ rw lc
    (ap (λ (l : List ℕ). sets l (n * w + w) z2) (sets_append ws 0 (value ++ z1) value ∙ rw lb
    (ap (λ (l : List ℕ). sets l (n * w) value) (sets_append ws 0 value z1 ∙ rw la refl))))))

-- the words after each of them
pub four_runs : (ws value a b c d : List ℕ) (n w l : ℕ) → 1 ≤ n → length value ≡ w → l ≡ (3 * n + 1) * w
    → a ≡ sets ws 0 value → b ≡ sets a w (replicate (n * w - w) 0) → c ≡ sets b (n * w) value
    → d ≡ sets c (n * w + w) (replicate (l - (n * w + w)) 0) → d ≡ words_at_set_up ws n w value
four_runs ws value a b c d n w l h e el ea eb ec ed =
    ed ∙ ap (λ (k : ℕ). sets c (n * w + w) (replicate (k - (n * w + w)) 0)) el ∙
    ap (λ (x : List ℕ). sets x (n * w + w) (replicate ((3 * n + 1) * w - (n * w + w)) 0))
    (ec ∙ ap (λ (x : List ℕ). sets x (n * w) value) (eb ∙ ap (λ (x : List ℕ). sets x w (replicate (n * w - w) 0)) ea)) ∙ words_set ws value n w h e

-- where the number is 0, the set-up fits what is lent: words and records
fits_lent : (n w len words value : ℕ) → set_up_number n w len words value ≡ 0 → Accepted n w words value × (n ≤ len)
unfolding set_up_number
fits_lent n w len words value e =
    let r8 : ℕ = cond (row8always w value).holds 8 0 in
    let r3 : ℕ = cond (row3 n w len words).holds 3 r8 in
    let r2 : ℕ = cond (row2 w).holds 2 r3 in
    let c1 = cleared (row1 n).holds 0 r2 e in
    let c2 = cleared (row2 w).holds 1 r3 c1.1 in
    let c3 = cleared (row3 n w len words).holds 2 r8 c2.1 in
    let c8 = cleared (row8always w value).holds 7 0 c3.1 in
    let few = neither (ltb words ((3 * n + 1) * w)) (ltb len n) c3.0 in (
      record {
        n_most = (n_in n c1.0).1;
        w_most = (w_in w c2.0).1;
        n_some = (n_in n c1.0).0;
        words_lent = ltb-false words ((3 * n + 1) * w) few.0;
        value_words = eqb-true value w (not-false (eqb value w) c8.0);
      },
      ltb-false len n few.1,
    )

pub set_up_fits : (n w len words value : ℕ) → set_up_number n w len words value ≡ 0 → Accepted n w words value
set_up_fits n w len words value e = (fits_lent n w len words value e).0

pub records_fit : (n w len words value : ℕ) → set_up_number n w len words value ≡ 0 → n ≤ len
records_fit n w len words value e = (fits_lent n w len words value e).1

-- the two answers of a set-up
module _ (b : Bench) (len n w : ℕ) (value ws : List ℕ) where
  pub prepared_refused : (k : ℕ) → k ≡ set_up_number n w len (length ws) (length value) → (k ≡ 0 → ⊥)
      → ◌≡◌ {A = ℕ × Bench × List ℕ} (k, b, ws) (prepared b len n w value ws)
  unfolding prepared
  prepared_refused k e h = rw e (simp (ne_eqb (set_up_number n w len (length ws) (length value)) 0 (λ z. h (e ∙ z))))

  pub prepared_done : set_up_number n w len (length ws) (length value) ≡ 0
      → ◌≡◌ {A = ℕ × Bench × List ℕ} (0, bench_at_set_up b n w, words_at_set_up ws n w value) (prepared b len n w value ws)
  unfolding prepared
  prepared_done e = simp (eq-eqb (set_up_number n w len (length ws) (length value)) 0 e)

  -- the number that it tells is that of its refusal
  pub prepared_number : (prepared b len n w value ws).0 ≡ set_up_number n w len (length ws) (length value)
  unfolding prepared
  prepared_number = by (set_up_number n w len (length ws) (length value))
    where
      by : (k : ℕ) → (cond {A = ℕ × Bench × List ℕ} (eqb k 0) (0, bench_at_set_up b n w, words_at_set_up ws n w value) (k, b, ws)).0 ≡ k
      by zero = refl
      by (suc k) = rw (ne_eqb (suc k) 0 (λ z. omega (arith, z))) refl

-- what `prepare` rests on
pub ruleset preparing = (set_up_fits, number_some, prepared_refused, prepared_done)

-- The by-value set-up is the set-up, once the records are set up too.
module _ (b : Bench) (rs : List Process) (ws : List ℕ) (n w : ℕ) (value : List ℕ) where
  abbrev number : ℕ
  number = set_up_number n w (length rs) (length ws) (length value)

  by_number : (k : ℕ) → number ≡ k → records_set rs n (prepared b (length rs) n w value ws) ≡ set_up (record { bench = b; records = rs; words = ws }) n w value
  unfolding prepared set_up
  by_number zero e =
      let m : Memory = record { bench = b; records = rs; words = ws } in
      let s : set_up_refusal m n w value ≡ 0 = sym (set_up_number_lem m n w value) ∙ e in
      simp (eq-eqb number 0 e, s)
  by_number (suc k) e =
      let m : Memory = record { bench = b; records = rs; words = ws } in
      let s : set_up_refusal m n w value ≡ number = sym (set_up_number_lem m n w value) in
      let t : eqb number 0 ≡ false = ne_eqb number 0 (λ z. omega (arith, e, z)) in
      simp (s, t)

  pub set_up_law : records_set rs n (prepared b (length rs) n w value ws) ≡ set_up (record { bench = b; records = rs; words = ws }) n w value
  set_up_law = by_number number refl
