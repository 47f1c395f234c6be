-- The numbers of a set-up, run by run.
-- Inner: `SettingLaws` proves that the memory of the list is then `moir_model`'s after a set-up.
use Rattle.std.specs.Prelude.{◌≡◌, ℕ, ◌-◌, ◌*◌, ◌≤◌, List, [], ◌∷◌, length, replicate, take, drop}
use Rattle.std.proofs.lemmas.List.Edits.{sets}
use Rattle.moir_model.specs.SetUp.{words_at_set_up}
use Rattle.moir_machine.specs.SetUpByValue.{Accepted}
use Rattle.moir_held_model.specs.Layout.{tag_place, process_place, words_place}

-- N, W, a header of 0, the tags of W segments, and N processes
abbrev pub head_set : List ℕ → ℕ → ℕ → List ℕ
head_set l n w =
    sets (sets (sets l 0 (n ∷ w ∷ 0 ∷ 0 ∷ [])) (tag_place 0) (replicate w 0)) (process_place 0) (replicate (17 * n) 0)

-- the words, from the number `at` on: the numbers before them stay
pub record WordsSet (l l' : List ℕ) (at n w : ℕ) (value : List ℕ) : Type 0 where
  pub numbers_stay : take at l' ≡ take at l
  pub length_stays : length l' ≡ length l
  pub set : drop at l' ≡ words_at_set_up (drop at l) n w value

-- what an accepted set-up's rows leave of a list
pub record Room (l : List ℕ) (n w value : ℕ) : Type 0 where
  pub accepted : Accepted n w (length l - words_place) value
  pub long : words_place ≤ length l
