-- `access::access_of::access_of`: the words that are read are lent.
use Rattle.access.proofs.PlaceLaws.{read_lies}
use Rattle.access.proofs.access_of.access_of.Goals as goal

-- `points::LINE_3 => on_words::read(3, ..)`
pub read-requires : goal.read-requires
read-requires c = let h = c.requires in read_lies h c.args.process.x.buf h.x_buf

-- `points::LINE_6 => on_words::read(6, ..)`
pub read-requires-in-6 : goal.read-requires-in-6
read-requires-in-6 c = let h = c.requires in read_lies h c.args.process.x.buf h.x_buf

-- `points::LINE_7_COPY => on_words::read(7, ..)`
pub read-requires-in-24 : goal.read-requires-in-24
read-requires-in-24 c = let h = c.requires in read_lies h c.args.process.b h.b_buf
