-- `logtext::number_places::number_place`: what is left of the text leads to the same place.
use Rattle.logtext.proofs.PlaceLaws.{PlaceInv}
use Rattle.logtext.proofs.number_places.number_place.Given as goal

abbrev pub invariant-loop-i : goal.invariant-loop-i
invariant-loop-i l = PlaceInv l.text l.index l.i l.left l.inside
