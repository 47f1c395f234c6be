-- The layout of one record alone.
use mathlib.Core.Path.{◌≡◌, ap, fun_ext}
use Prim.Native.Nat.{ℕ, ◌+◌}
use native.Mathlib.Omega.{arith}
use Rattle.model.specs.Sizes.{buffers, rows_before_offers}
use Rattle.model.specs.Words.{one_record}
use Rattle.words.specs.declared.layouts.FirstRows.{FirstRows}
use Rattle.words.specs.Layouts.{layout_from, OneRecord}

pub one_layout : {n w : ℕ} {f : FirstRows} → OneRecord n w f → layout_from f ≡ one_record n
one_layout {n} {w} {f} o =
    let b : ◌≡◌ {A = ℕ → ℕ} (λ i. f.buffers + i) (λ i. i) = fun_ext (λ i. omega (arith, o.buffers_at)) in
    rw (o.returns_at, o.offers_at) (ap (λ (g : ℕ → ℕ). record { buffer = g; returns = buffers n; offers = rows_before_offers n }) b)
