-- The buffer of each holder, read off a held list.
-- Inner: `HolderLaws` proves that it is `buffer_held` of the record's memory.
use Rattle.std.specs.Prelude.{◌≡◌, true, ℕ, ◌+◌, ◌-◌, ◌*◌, ◌<◌, ◌≤◌, List, [], ◌∷◌, Bool, ◌&&◌, cond, eqb, ltb, length}
use Rattle.std.proofs.lemmas.List.Edits.{sets}
use Rattle.llsc.specs.declared.Order.TheVariants.{StartLl}
use Rattle.llsc.specs.Rows.{first, some, row9}
use Rattle.model.specs.Points.{line_number, line2, line3, line4, line5, line6, line7, line7copy, line8, line9, line10}
use Rattle.model.specs.Sizes.{sequence_numbers}
use Rattle.station.specs.StationRefusals.{row24, station_in_range}
use Rattle.held_model.specs.Layout.{record_place, bank_place, help_place, holding_place, words_place}
use Rattle.held_model.specs.Memory.{number_at, memory_of}
use Rattle.held_rows.specs.Reads.{seen_from}
use Rattle.held_rows.specs.ListRows.{LentList}
use Rattle.held_buffers.specs.Places.{holders, row3places}

abbrev pub asking_at : ℕ → Bool
asking_at k = some (λ y. eqb k (line_number y)) (line2 ∷ line3 ∷ line4 ∷ line5 ∷ line6 ∷ line7 ∷ line7copy ∷ line8 ∷ line9 ∷ line10 ∷ [])

abbrev pub kept_from : List ℕ → ℕ → ℕ → ℕ
kept_from l j i = cond (eqb i (number_at l (record_place j + 1))) (number_at l (record_place j)) (number_at l (bank_place j i))

abbrev pub owned_from : List ℕ → ℕ → ℕ → ℕ
owned_from l j p =
    cond (asking_at (seen_from l j p).line && eqb (number_at l (help_place j p)) 0) (number_at l (help_place j p + 1)) (number_at l (holding_place j p))

abbrev pub held_from : List ℕ → ℕ → ℕ → ℕ → ℕ
held_from l n j k = cond (ltb k (sequence_numbers n)) (kept_from l j k) (owned_from l j (k - sequence_numbers n))

-- what noting the holders of record j needs: the record's numbers are there, each holder has one of the 3N buffers, and
-- the list has a place for each
pub record Noted (l : List ℕ) (n j : ℕ) (out : List ℕ) : Type 0 where
  pub long : words_place (j + 1) ≤ length l
  pub small : (k : ℕ) → k < 3 * n → held_from l n j k < 3 * n
  pub room : length out ≡ 3 * n

pub record Tellable (l : List ℕ) (j : ℕ) (out : List ℕ) : Type 0 where
  pub lent : LentList l
  pub in_range : station_in_range (memory_of l) ≡ true
  pub on : j < number_at l 2
  pub room : 3 * number_at l 0 ≤ length out

-- the holders at the beginning of a list
pub record HoldersNoted (l : List ℕ) (j : ℕ) (out out' : List ℕ) : Type 0 where
  pub noted : out' ≡ sets out 0 (holders (held_from l (number_at l 0) j) (3 * number_at l 0) (3 * number_at l 0))

-- rows 3 for the list lent, 9 and 24
abbrev pub holders_late_number : List ℕ → ℕ → ℕ → ℕ
holders_late_number l j room =
    first (row3places (number_at l 0) room ∷ row9 (station_in_range (memory_of l)) ∷ row24 StartLl (number_at l 2) j ∷ [])
