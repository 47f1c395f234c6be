-- The layout of a record's words, from the rows at which they begin.
-- Inner: `LayoutLaws` proves that the one of one record alone is `model`'s.
use Rattle.std.specs.Prelude.{◌≡◌, ℕ, ◌+◌}
use Rattle.model.specs.Sizes.{buffers, rows_before_offers}
use Rattle.model.specs.Words.{Layout}
use Rattle.words.specs.declared.layouts.FirstRows.{FirstRows}

abbrev pub layout_from : FirstRows → Layout
layout_from f = record { buffer = λ b. f.buffers + b; returns = f.returns; offers = f.offers }

-- the rows of one record alone, n for N and w for W
pub record OneRecord (n w : ℕ) (f : FirstRows) : Type 0 where
  pub buffers_at : f.buffers ≡ 0
  pub returns_at : f.returns ≡ buffers n
  pub offers_at : f.offers ≡ rows_before_offers n
  pub width : f.w ≡ w
