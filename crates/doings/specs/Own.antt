-- What a process has for itself (01: "Each process owns .. a return area and an offer area of W words" beside its
-- record).
use Rattle.std.specs.Prelude.{ℕ, List, take, drop}
use Rattle.std.proofs.lemmas.List.Edits.{sets}
use Rattle.llsc.specs.declared.ProcessNumber.{ProcessNumber}
use Rattle.model.specs.Words.{Layout, return_in, offer_in}

-- its record, of the type P, its return area and its offer area
pub record Own (P : Type 0) : Type 0 where
  pub process : P
  pub returned : List ℕ
  pub offered : List ℕ

module _ {P : Type 0} (l : Layout) (w : ℕ) (p : ProcessNumber) where
  abbrev pub own_in : P → List ℕ → Own P
  own_in q ws = record {
    process = q;
    returned = take w (drop (return_in l w p 0) ws);
    offered = take w (drop (offer_in l w p 0) ws);
  }

  -- the words with these areas
  abbrev pub put_areas : Own P → List ℕ → List ℕ
  put_areas o ws = sets (sets ws (return_in l w p 0) o.returned) (offer_in l w p 0) o.offered
