-- `held_buffers::telling::note_in` meets its contract: the part of the list that is lent on is its beginning.
use Rattle.held_buffers.proofs.ToldLaws.{can_note, noted_in}
use Rattle.held_buffers.proofs.telling.note_in.Goals as goal

pub note-requires : goal.note-requires
note-requires c = rw (c.buffers.ensures, c.sizes-n.ensures.n) (can_note c.requires)

pub returns : goal.returns
returns c = rw (c.buffers.ensures, c.sizes-n.ensures.n) (noted_in c.requires (rw c.sizes-n.ensures.n at c.note.ensures))
