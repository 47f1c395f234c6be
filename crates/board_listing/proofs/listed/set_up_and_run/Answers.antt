-- `board_listing::listed::set_up_and_run`: the set-up refused, or done and the file run.
use mathlib.Core.Bool.{false}
use native.Mathlib.Omega.{arith}
use Rattle.board_listing.proofs.ListedLaws.{begun_between}
use Rattle.board_listing.proofs.listed.set_up_and_run.Goals as goal

pub run_file-requires : goal.run_file-requires
run_file-requires c =
    let done = c.in_default.ensures in
    let room = c.requires.1 in
    (begun_between done.kept.2 room (done.sound false (record { list = c.args.list; written = 0 }) (omega (arith, room))), room)
