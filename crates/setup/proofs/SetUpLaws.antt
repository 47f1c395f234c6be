-- The set-up: one place more, and what it means that no row holds.
use mathlib.Core.Path.{◌≡◌, refl, sym, ap, ◌∙◌}
use mathlib.Core.List.{List, [], ◌∷◌, ◌++◌, map}
use mathlib.Core.Bool.{cond}
use Prim.Native.Nat.{ℕ, zero, suc, ◌+◌, ◌-◌, ◌*◌, ◌≤◌}
use native.Mathlib.Nat.{add-zero, zero-add, add-suc, suc-add, mul-le-mul_right, one-mul}
use native.Mathlib.Numerals.{add-one}
use native.Mathlib.Omega.{arith}
use lib.Dec.{eqb}
use lib.ListN.{length, set, replicate}
use lib.Seq.{sets}
use borrow.Author.Tests.{eqb-true, not-false}
use Rattle.model.specs.Places.{BankPlace, HelpPlace}
use Rattle.model.specs.declared.Bench.{Bench}
use Rattle.model.specs.Tables.{put_bank, put_help}
use Rattle.model.specs.SetUp.{numbers, bank_at_set_up, help_at_set_up, words_at_set_up}
use Rattle.llsc.specs.Rows.{row8always}
use Rattle.setup.specs.SetUpByValue.{set_up_number, banks_set, helps_set, Accepted}
use Rattle.laws.proofs.ListLaws.{sets_append, sets_replicate}
use Rattle.rows.proofs.RowLaws.{cleared, begins_in_order}

module _ {ℓ} {A : Type ℓ} (f : ℕ → A) where
  pub mapped_next : (a k : ℕ) → map f (numbers a (suc k)) ≡ map f (numbers a k) ++ (f (a + k) ∷ [])
  mapped_next a zero = ap (λ (j : ℕ). f j ∷ []) (sym (add-zero a))
  mapped_next a (suc k) = ap (λ (l : List A). f a ∷ l) (mapped_next (suc a) k ∙ ap (λ (j : ℕ). map f (numbers (suc a) k) ++ (f j ∷ [])) (suc-add a k ∙ sym (add-suc a k)))

  pub mapped_length : (a k : ℕ) → length (map f (numbers a k)) ≡ k
  mapped_length a zero = refl
  mapped_length a (suc k) = ap suc (mapped_length (suc a) k)

  sets_mapped : (l : List A) (k : ℕ) → set (sets l 0 (map f (numbers 0 k))) k (f k) ≡ sets l 0 (map f (numbers 0 (k + 1)))
  sets_mapped l k = sym (rw (add-one k, mapped_next 0 k, sets_append l 0 (map f (numbers 0 k)) (f (0 + k) ∷ []), mapped_length 0 k, zero-add k))

pub banks_next : (b : Bench) (k : ℕ) → put_bank (banks_set b k) (record { 0 = k }) (bank_at_set_up k) ≡ banks_set b (k + 1)
banks_next b k = ap (λ (l : List BankPlace). record { n = b.n; w = b.w; x = b.x; bank = l; help = b.help }) (sets_mapped bank_at_set_up b.bank k)

pub helps_next : (b : Bench) (k : ℕ) → put_help (helps_set b k) (record { 0 = k }) help_at_set_up ≡ helps_set b (k + 1)
helps_next b k =
    ap (λ (l : List HelpPlace). record { n = b.n; w = b.w; x = b.x; bank = b.bank; help = l })
    (ap (λ (j : ℕ). set (sets b.help 0 (replicate k help_at_set_up)) j help_at_set_up) (sym (zero-add k)) ∙ sym (sets_replicate b.help 0 k help_at_set_up))

-- BUF[0] is one of the 5N rows
pub first_row_lem : (n w : ℕ) → 1 ≤ n → w ≤ 5 * n * w
first_row_lem n w h = omega (arith, mul-le-mul_right {m = 1} {n = 5 * n} w (omega arith), one-mul w)

pub words_set : (ws value : List ℕ) (n w : ℕ) → length value ≡ w → sets (sets ws 0 value) w (replicate (5 * n * w - w) 0) ≡ words_at_set_up ws n w value
words_set ws value n w e =
    ap (λ (j : ℕ). sets (sets ws 0 value) j (replicate (5 * n * w - w) 0)) (sym e ∙ sym (zero-add (length value))) ∙
    sym (sets_append ws 0 value (replicate (5 * n * w - w) 0))

-- where the number is 0, the set-up fits what is lent
pub set_up_fits : (n w len words value : ℕ) → set_up_number n w len words value ≡ 0 → Accepted n w words value
unfolding set_up_number
set_up_fits n w len words value e =
    let c3 = begins_in_order n w len words (cond (row8always w value).holds 8 0) e in
    let c8 = cleared (row8always w value).holds 7 0 c3.1 in
    record {
      n_most = c3.0.n_most;
      w_most = c3.0.w_most;
      n_some = c3.0.n_some;
      words_lent = c3.0.words_lent;
      value_words = eqb-true value w (not-false (eqb value w) c8.0);
    }
