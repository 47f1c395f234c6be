-- The two answers of a set-up.
use mathlib.Core.Path.{◌≡◌, refl, sym, ap, ap₂, ◌∙◌}
use mathlib.Core.List.{List}
use mathlib.Core.Bool.{Bool, cond}
use Prim.Native.Nat.{ℕ, ◌+◌, ◌-◌, ◌*◌, ◌≤◌}
use native.Mathlib.Nat.{mul-le-mul_right}
use native.Mathlib.Omega.{arith}
use lib.ListN.{length, length-drop}
use borrow.Author.Tests.{eq-eqb, ne_eqb}
use Rattle.serving.proofs.RefusalFacts.{none_holds, inside}
use Rattle.station.specs.Station.{StationMemory}
use Rattle.station.specs.StationRefusals.{station_set_up_rows_of}
use Rattle.station.specs.StationSetUp.{station_set_up, station_set_up_refusal, station_at_set_up}
use Rattle.station_setup.specs.StationSetUpByValue.{station_set_up_number}
use Rattle.station_setup.proofs.StationSetUpLaws.{set_up_fits}
use Rattle.held_model.specs.Layout.{words_place}
use Rattle.held_model.specs.Memory.{process_in, laid_out}
use Rattle.held_model.specs.HeldCommand.{MarksSet, SetUpDone}
use Rattle.held_model.proofs.TabLaws.{tab_length}
use Rattle.held_setup.specs.Setting.{Room}

module _ (l : List ℕ) (n w r : ℕ) (value : List ℕ) where
  abbrev number : ℕ
  number = station_set_up_number n w r 16 (length l - words_place r) (length value)

  abbrev s : StationMemory
  s = laid_out r l

  pub number_is : number ≡ station_set_up_refusal s n w r value
  unfolding station_set_up_number station_set_up_refusal
  number_is =
      sym (ap₂ (λ (i k : ℕ). station_set_up_number n w r i k (length value)) (tab_length (process_in r l) 0 16) (length-drop (words_place r) l))

  w_some : number ≡ 0 → 1 ≤ w
  unfolding station_set_up_number
  w_some e = (inside 1 64 w (none_holds (station_set_up_rows_of n w r 16 (length l - words_place r) (length value)) refl e 1)).0

  -- what an accepted set-up's rows leave
  pub room : number ≡ 0 → Room l n w r (length value)
  room e =
      let a = set_up_fits n w r 16 (length l - words_place r) (length value) e in
      let some : 1 * n ≤ (3 * r + 2) * n = mul-le-mul_right n (omega arith) in
      let more : 1 * w ≤ (3 * r + 2) * n * w = mul-le-mul_right w (omega (arith, some, a.n_some)) in
      record { admitted = a; long = omega (arith, a.words_lent, more, w_some e) }

  answer : (t : Bool) → ℕ × StationMemory
  answer t = (station_set_up_refusal s n w r value, cond t (station_at_set_up s n w r value) s)

  pub set_up_refused : (k : ℕ) → k ≡ number → (k ≡ 0 → ⊥) → SetUpDone l n w r value k l
  unfolding station_set_up answer
  set_up_refused k e h =
      let is : k ≡ station_set_up_refusal s n w r value = e ∙ number_is in
      record {
        done = ap (λ (z : ℕ). (z, s)) is ∙ ap answer (sym (ne_eqb (station_set_up_refusal s n w r value) 0 (λ z. h (is ∙ z))));
        marks = λ z. absurd (h z);
        refused = λ z. refl;
      }

  pub set_up_done : (l' : List ℕ) → number ≡ 0 → laid_out r l' ≡ station_at_set_up s n w r value → MarksSet l n r l' → SetUpDone l n w r value 0 l'
  unfolding station_set_up answer
  set_up_done l' e h marks =
      let none : station_set_up_refusal s n w r value ≡ 0 = sym number_is ∙ e in
      record {
        done = ap (λ (m : StationMemory). (0, m)) h ∙ ap (λ (k : ℕ). (k, station_at_set_up s n w r value)) (sym none)
            ∙ ap answer (sym (eq-eqb (station_set_up_refusal s n w r value) 0 none));
        marks = λ z. marks;
        refused = λ z. absurd (z refl);
      }
