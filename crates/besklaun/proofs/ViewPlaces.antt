-- What each way out of `views::besklaun_view` returns is what `view_told` says.
use mathlib.Core.Path.{◌≡◌, ◌∙◌}
use mathlib.Core.List.{List}
use mathlib.Core.Bool.{Bool, true, false}
use Prim.Native.Nat.{ℕ, ◌-◌, ◌*◌}
use borrow.Author.Tests.{eq-eqb, ne_eqb}
use Rattle.model.specs.View.{view_number, view_part}
use Rattle.viewing.proofs.ViewLaws.{viewed, words_fit}
use Rattle.besklaun.specs.declared.views.View.{View}
use Rattle.besklaun.specs.Views.{view_told}

abbrev part : ℕ → Bool → ℕ → ℕ → View
part number written start count = record { number = number; written = written; start = start; count = count }

module _ (w : ℕ) (value written : List ℕ) (k : ℕ) where
  pub refused_place : (number : ℕ) → number ≡ view_number w value written k → (number ≡ 0 → ⊥) →
      part number false 0 0 ≡ view_told w value written k
  unfolding view_part
  refused_place number e z = rw e (simp (ne_eqb (view_number w value written k) 0 (λ x. z (e ∙ x))))

  pub value_place : view_number w value written k ≡ 0 → k ≡ 0 → part 0 false 0 w ≡ view_told w value written k
  unfolding view_part
  value_place e z = rw e (simp (eq-eqb k 0 z))

  pub list_place : view_number w value written k ≡ 0 → (k ≡ 0 → ⊥) → part 0 true ((k - 1) * w) w ≡ view_told w value written k
  unfolding view_part
  list_place e z = rw e (simp (ne_eqb k 0 z))

pub ruleset place_laws = (viewed, words_fit, refused_place, value_place, list_place)
