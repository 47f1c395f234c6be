-- `moir_held_machine::writes::write_back` meets its contract: the three blocks, one after another.
use Rattle.moir_held_machine.proofs.writes.write_back.Goals as goal

pub returns : goal.returns
returns c =
    rw (
      c.process_numbers.ensures,
      c.process_place.ensures,
      c.copy_in-2.ensures,
      c.tag_place.ensures,
      c.copy_in.ensures,
      c.header_numbers.ensures,
    ) at c.copy_in-3.ensures
