-- The tables keep the lengths that their declared types give them, over a set-up.
use mathlib.Core.Path.{◌≡◌, refl, ◌∙◌}
use mathlib.Core.Bool.{Bool, true, false, cond}
use mathlib.Core.List.{List, [], ◌∷◌, map}
use Prim.Native.Nat.{ℕ, zero, suc, ◌<◌}
use lib.Dec.{eqb}
use lib.ListN.{length, get_or, replicate}
use lib.Seq.{length-sets}
use Rattle.model.specs.Sizes.{sequence_numbers}
use Rattle.model.specs.SetUp.{numbers, bank_at_set_up, help_at_set_up}
use Rattle.station.specs.declared.Tables.{Tables}
use Rattle.station.specs.Station.{StationMemory, no_tables}
use Rattle.station.specs.StationRefusals.{StationShaped}
use Rattle.station.specs.StationSetUp.{firsts, tables_at_set_up, station_at_set_up, station_set_up_refusal, station_set_up}
use Rattle.station_facts.proofs.Firsts.{firsts_length}

-- what `StationShaped` says of the tables
pub record TableLengths (s : StationMemory) : Type 0 where
  pub tables : length s.tables ≡ 8
  pub bank : (j : ℕ) → j < 8 → length (get_or s.tables j no_tables).bank ≡ 32
  pub help : (j : ℕ) → j < 8 → length (get_or s.tables j no_tables).help ≡ 16

pub table_lengths : (s : StationMemory) → StationShaped s → TableLengths s
table_lengths s h = record { tables = h.tables; bank = h.bank; help = h.help }

-- f on the first elements leaves what it leaves of each
firsts_like : {A : Type 0} (f : ℕ → A → A) (g : A → ℕ) → ((k : ℕ) (x : A) → g (f k x) ≡ g x) → (a c : ℕ) (xs : List A) (i : ℕ) (d : A)
    → g (get_or (firsts f a c xs) i d) ≡ g (get_or xs i d)
firsts_like f g e a zero xs i d = refl
firsts_like f g e a (suc c) [] i d = refl
firsts_like f g e a (suc c) (x ∷ xs) zero d = e a x
firsts_like f g e a (suc c) (x ∷ xs) (suc i) d = firsts_like f g e (suc a) c xs i d

pub set_up_lengths : (s : StationMemory) → TableLengths s → (n w r : ℕ) (value : List ℕ) → TableLengths (station_set_up s n w r value).1
unfolding station_set_up
set_up_lengths s h n w r value = go (eqb (station_set_up_refusal s n w r value) 0)
  where
    go : (b : Bool) → TableLengths (cond b (station_at_set_up s n w r value) s)
    go true =
        let bank : (k : ℕ) (t : Tables) → length (tables_at_set_up n k t).bank ≡ length t.bank = λ k t. length-sets t.bank 0 (map bank_at_set_up (numbers 0 (sequence_numbers n))) in
        let help : (k : ℕ) (t : Tables) → length (tables_at_set_up n k t).help ≡ length t.help = λ k t. length-sets t.help 0 (replicate n help_at_set_up) in
        record {
          tables = firsts_length (tables_at_set_up n) 0 r s.tables ∙ h.tables;
          bank = λ j hj. firsts_like (tables_at_set_up n) (λ t. length t.bank) bank 0 r s.tables j no_tables ∙ h.bank j hj;
          help = λ j hj. firsts_like (tables_at_set_up n) (λ t. length t.help) help 0 r s.tables j no_tables ∙ h.help j hj;
        }
    go false = h
