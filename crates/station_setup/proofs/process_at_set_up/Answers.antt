-- `station_setup::process_at_set_up` meets its contract: what it holds of the records below r is set up.
use mathlib.Core.Path.{◌≡◌, refl, ap, ap₂, ◌∙◌}
use mathlib.Core.List.{List, ◌++◌}
use Prim.Native.Nat.{ℕ, ◌+◌}
use native.Mathlib.Omega.{arith}
use borrow.Author.Rules.{rules}
use lib.ListN.{length, take, drop, replicate, length-take}
use Rattle.model.specs.Sizes.{sequence_numbers}
use Rattle.station.specs.declared.Holding.{Holding}
use Rattle.station.specs.Station.{no_holding}
use Rattle.station.specs.StationSetUp.{firsts, holding_at_set_up}
use Rattle.station_setup.proofs.FilledLaws.{filled}
use Rattle.station_setup.proofs.process_at_set_up.Goals as goal

pub returns : goal.returns
returns c =
    let a = c.args in
    let l = a.q.holdings in
    let eight : length l ≡ 8 = omega arith in
    let many : length (take a.r l) ≡ a.r = omega (arith, length-take a.r l, eight, c.requires.1.0) in
    let one = c.holding_at_set_up-h.ensures ∙ ap (λ (k : ℕ). holding_at_set_up (k + a.p) 0 no_holding) c.sequence_numbers.ensures in
    let whole : c.fill.new.self ++ drop a.r l ≡ firsts (holding_at_set_up (sequence_numbers a.n + a.p)) 0 a.r l =
    ap (λ (hs : List Holding). hs ++ drop a.r l) (c.fill.ensures.after (λ y e. search rules) ∙ ap₂ (λ (k : ℕ) (h : Holding). replicate k h) many one)
    ∙ filled _ _ (λ j h. refl) 0 a.r l (omega (arith, eight, c.requires.1.0)) in
    rw (c.empty_process.ensures, whole) refl
