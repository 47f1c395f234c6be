-- `logtext::number_places::number_place`: what is left of the text leads to the same place.
use mathlib.Core.Path.{◌≡◌}
use mathlib.Core.Bool.{false, not, ◌&&◌}
use native.Mathlib.Omega.{arith}
use Rattle.logtext.proofs.PlaceLaws.{place_first, place_other}
use Rattle.logtext.proofs.number_places.number_place.Goals as goal
use Rattle.logtext.proofs.number_places.number_place.Goals.{then-digit+then-not-inside+else-is_last, else-digit}
use Rattle.logtext.proofs.number_places.number_place.Goals.{else-digit-via-then-digit+else-not-inside, else-digit-via-else-digit}

pub loop-i-preserved : goal.loop-i-preserved
loop-i-preserved c =
    let digit = c.is_ascii_digit-digit in
    elim c.if-digit.branch [
      | then-digit+then-not-inside+else-is_last w ↦
          place_first _ _ _ _ _ c.loop-i.invariant (omega arith) _ digit.ensures.value
          w.if-digit.true w.if-not-inside.true w.if-is_last.false _ _ w.left-is w.inside-is
      | else-digit w ↦
          let none : (digit.result && not c.loop-i.inside) ≡ false =
          elim w.else-digit.branch [
            | else-digit-via-then-digit+else-not-inside w' ↦ simp (w'.if-digit.true, w'.if-not-inside.false)
            | else-digit-via-else-digit w' ↦ simp w'.if-digit.false
          ] in
          place_other _ _ _ _ _ c.loop-i.invariant (omega arith) _ digit.ensures.value none _ _ w.left-is w.inside-is
    ]
