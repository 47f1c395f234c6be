-- `station_setup::words_at_set_up` meets its contract: one record after another, then the areas.
use mathlib.Core.Path.{◌≡◌}
use Prim.Native.Nat.{◌*◌}
use lib.Seq.{sets}
use Rattle.model.specs.Sizes.{buffers}
use Rattle.station_setup.proofs.StationSetUpLaws.{many}
use Rattle.station_setup.proofs.words_at_set_up.Given as goal

abbrev pub invariant-loop-j : goal.invariant-loop-j
invariant-loop-j l = l.words ≡ sets l.initial.words 0 (many l.j (buffers l.n * l.w) l.value)
