-- `held_buffers::telling::note` meets its contract: the holders below k are noted.
use mathlib.Core.Path.{◌≡◌}
use Prim.Native.Nat.{◌*◌}
use Rattle.held_buffers.specs.Places.{holders}
use Rattle.held_buffers.specs.HoldersRead.{held_from}
use Rattle.held_buffers.proofs.telling.note.Given as goal

abbrev pub invariant-loop-k : goal.invariant-loop-k
invariant-loop-k l = l.places ≡ holders (held_from l.held l.count.n l.j.0) (3 * l.count.n) l.k
