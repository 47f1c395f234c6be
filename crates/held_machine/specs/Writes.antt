-- What a step made, as numbers, and written back.
-- Inner: `MemoryAfter` proves that the memory of the list is then `station`'s.
use Rattle.std.specs.Prelude.{◌≡◌, true, ℕ, ◌+◌, ◌*◌, ◌≤◌, List, [], ◌∷◌, cond, eqb, length, take, drop}
use Rattle.std.proofs.lemmas.List.Edits.{sets}
use Rattle.llsc.specs.declared.Order.{Order}
use Rattle.llsc.specs.declared.ProcessNumber.{ProcessNumber}
use Rattle.llsc.specs.Rows.{brings_value}
use Rattle.model.specs.declared.Process.{Process}
use Rattle.model.specs.Places.{XPlace, BankPlace, HelpPlace}
use Rattle.model.specs.Sizes.{buffers}
use Rattle.words.specs.declared.layouts.FirstRows.{FirstRows}
use Rattle.words.specs.Layouts.{layout_from}
use Rattle.taken.specs.declared.Taken.{Taken}
use Rattle.taken.specs.declared.Stepped.{Stepped}
use Rattle.steps.specs.Layouts.{ReadyIn}
use Rattle.steps.specs.Steps.{offered_in, obey_on_in}
use Rattle.held_model.specs.Layout.{call_place, record_place, holding_place, words_place}
use Rattle.held_model.specs.Memory.{x_from, bank_from, help_from}
use Rattle.held_rows.specs.Reads.{XFits, BankFits, HelpFits}

abbrev pub x_numbers : XPlace → List ℕ
x_numbers x = x.content.buf.0 ∷ x.content.seq.0 ∷ x.links ∷ []

abbrev pub bank_numbers : BankPlace → List ℕ
bank_numbers b = b.content.0 ∷ b.links ∷ []

abbrev pub help_numbers : HelpPlace → List ℕ
help_numbers h = h.content.flag ∷ h.content.buf.0 ∷ h.links ∷ []

-- what a process holds of a record, and its open call, on record j
abbrev pub holding_numbers : Process → List ℕ
holding_numbers q = q.mybuf.0 ∷ q.x.buf.0 ∷ q.x.seq.0 ∷ cond q.answered 1 0 ∷ []

abbrev pub call_numbers : ℕ → Process → List ℕ
call_numbers j q = q.line ∷ q.word ∷ q.count ∷ cond (eqb q.line 0) 0 j ∷ q.b.0 ∷ q.c.0 ∷ q.d.0 ∷ q.e.0 ∷ []

-- all that a step of process p on record j left, its places of Bank and Help being those whose numbers begin at i and h
abbrev pub written : List ℕ → ℕ → ℕ → ℕ → ℕ → Stepped → List ℕ
written l j i h p s =
    sets (sets (sets (sets (sets l (record_place j) (x_numbers s.taken.x)) i (bank_numbers s.taken.bank)) h (help_numbers s.taken.help))
    (holding_place j p) (holding_numbers s.process)) (call_place p) (call_numbers j s.process)

-- the rows at which record j's words begin, of r records
pub record RowsOf (n w r j : ℕ) (f : FirstRows) : Type 0 where
  pub buffers_at : f.buffers ≡ j * buffers n
  pub returns_at : f.returns ≡ r * buffers n
  pub offers_at : f.offers ≡ r * buffers n + n
  pub width : f.w ≡ w

-- what an order needs to be obeyed on places taken out for it
pub record Ordered (f : FirstRows) (o : Order) (n : ℕ) (p : ProcessNumber) (value : List ℕ) (q : Process) (ws : List ℕ) : Type 0 where
  pub ready : ReadyIn f n q p ws
  pub value_words : brings_value o ≡ true → length value ≡ f.w

-- an order obeyed on the words, an SC's words offered first: the numbers before the words, m of them, stay
pub record OnWords (l l' : List ℕ) (m : ℕ) (f : FirstRows) (o : Order) (n : ℕ) (p : ProcessNumber) (value : List ℕ) (t : Taken) (q : Process) (s : Stepped) : Type 0 where
  pub numbers_stay : take m l' ≡ take m l
  pub length_stays : length l' ≡ length l
  pub step : (s, drop m l') ≡ obey_on_in (layout_from f) o p n f.w t q (offered_in (layout_from f) o p f.w value (drop m l))

-- the places of record j whose numbers of Bank and Help begin at i and h: they are there, and fit
abbrev pub taken_from : List ℕ → ℕ → ℕ → ℕ → Taken
taken_from l j i h = record { x = x_from l (record_place j); bank = bank_from l i; help = help_from l h }

pub record PlacesThere (l : List ℕ) (j i h : ℕ) : Type 0 where
  pub long : words_place (j + 1) ≤ length l
  pub bank_long : i + 2 ≤ length l
  pub help_long : h + 3 ≤ length l
  pub x : XFits (x_from l (record_place j))
  pub bank : BankFits (bank_from l i)
  pub help : HelpFits (help_from l h)
