-- The numbers of a set-up, run by run.
-- Inner: `SettingLaws` proves that the memory of the list is then `station`'s after a set-up.
use Rattle.std.specs.Prelude.{◌≡◌, ℕ, zero, suc, ◌+◌, ◌-◌, ◌*◌, ◌≤◌, List, [], ◌∷◌, ◌++◌, length, take, drop, replicate}
use Rattle.std.proofs.lemmas.List.Edits.{sets}
use Rattle.station.specs.StationSetUp.{blocks}
use Rattle.station_setup.specs.StationSetUpByValue.{Admitted}
use Rattle.held_model.specs.Layout.{call_place, record_place, bank_place, help_place, holding_place, words_place}

-- f 0, f 1, .., k of them, one after another
abbrev pub runs : (ℕ → List ℕ) → ℕ → List ℕ
runs f zero = []
runs f (suc k) = runs f k ++ f k

-- Bank[i] = i; what process p holds of a record, where the processes own the buffers from m on
abbrev pub bank_run : ℕ → List ℕ
bank_run i = i ∷ 0 ∷ []

abbrev pub holding_run : ℕ → ℕ → List ℕ
holding_run m p = (m + p) ∷ 0 ∷ 0 ∷ 0 ∷ []

-- record j set up for n processes
abbrev pub record_set : List ℕ → ℕ → ℕ → List ℕ
record_set l n j =
    sets (sets (sets (sets l (record_place j) (replicate 3 0)) (bank_place j 0) (runs bank_run (2 * n))) (help_place j 0) (replicate (3 * n) 0))
    (holding_place j 0) (runs (holding_run (2 * n)) n)

-- the first r records
abbrev pub records_set : List ℕ → ℕ → ℕ → List ℕ
records_set l n zero = l
records_set l n (suc j) = record_set (records_set l n j) n j

-- N, W and R, and the processes idle
abbrev pub head_set : List ℕ → ℕ → ℕ → ℕ → List ℕ
head_set l n w r = sets (sets l 0 (n ∷ w ∷ r ∷ [])) (call_place 0) (replicate (8 * n) 0)

-- the words, from the number `at` on: the numbers before them stay
pub record WordsSet (l l' : List ℕ) (at n w r : ℕ) (value : List ℕ) : Type 0 where
  pub numbers_stay : take at l' ≡ take at l
  pub length_stays : length l' ≡ length l
  pub set : drop at l' ≡ sets (drop at l) 0 (blocks r n w value)

-- what an accepted set-up's rows leave of a list
pub record Room (l : List ℕ) (n w r value : ℕ) : Type 0 where
  pub admitted : Admitted n w r (length l - words_place r) value
  pub long : words_place r ≤ length l
