-- Digit after digit of an argument.
use mathlib.Core.Path.{◌≡◌, sym, ap, ◌∙◌}
use Prim.Native.Nat.{ℕ, suc, ◌+◌, ◌≤◌, ◌<◌}
use mathlib.Core.List.{List}
use mathlib.Core.Bool.{Bool, true, false, cond}
use native.Mathlib.Numerals.{add-one}
use lib.Dec.{ltb}
use lib.ListN.{length, get_or, drop, drop_of_length-le}
use lib.Seq.{drop-cons}
use borrow.Author.Tests.{lt-ltb, le-ltb}
use Rattle.std.specs.Prelude.{Option, Some, None}
use Rattle.std.specs.Char.{is_ascii_digit}
use Rattle.fractions.specs.Arguments.{with_digit, number_from, number_told}

-- the digits left make the same number
pub record DigitInv (text : List ℕ) (v i : ℕ) : Type 0 where
  pub small : v ≤ 4294967295
  pub same : number_from v (drop i text) ≡ number_told text

module _ (text : List ℕ) (v i : ℕ) (inv : DigitInv text v i) where
  module _ (h : i < length text) where
    abbrev b : ℕ
    b = get_or text i 0

    abbrev go : Option ℕ
    go = number_from (with_digit v b) (drop (suc i) text)

    abbrev second : Bool → Option ℕ
    second t = cond t None go

    abbrev first : Bool → Option ℕ
    first t = cond t (second (ltb 4294967295 (with_digit v b))) None

    one : number_told text ≡ first (is_ascii_digit b)
    unfolding number_from
    one = sym inv.same ∙ ap (number_from v) (drop-cons text i 0 h)

    pub no_digit : is_ascii_digit b ≡ false → None ≡ number_told text
    no_digit e = sym (one ∙ ap first e)

    module _ (digit : is_ascii_digit b ≡ true) where
      two : number_told text ≡ second (ltb 4294967295 (with_digit v b))
      two = one ∙ ap first digit

      pub too_large : 4294967295 < with_digit v b → None ≡ number_told text
      too_large e = sym (two ∙ ap second (lt-ltb 4294967295 (with_digit v b) e))

      pub goes_on : with_digit v b ≤ 4294967295 → DigitInv text (with_digit v b) (i + 1)
      goes_on e = record {
        small = e;
        same =
            ap (λ j. number_from (with_digit v b) (drop j text)) (add-one i)
            ∙ sym (two ∙ ap second (le-ltb 4294967295 (with_digit v b) e));
      }

  pub all_read : length text ≤ i → Some v ≡ number_told text
  unfolding number_from
  all_read h = sym (ap (number_from v) (drop_of_length-le text {i = i} h)) ∙ inv.same

pub ruleset reading_digits = (no_digit, too_large, goes_on, all_read)
