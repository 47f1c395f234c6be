-- `judge::text_room`: its length by a law, since it is too long to be counted out.
use mathlib.Core.Path.{refl}
use Rattle.judge.proofs.RoomLaws.{zeros}
use Rattle.judge.proofs.text_room.Goals as goal

pub returns : goal.returns
returns c = record { value = zeros 2097152; value_2 = refl }
