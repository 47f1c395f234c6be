-- `judge::log_lines::looked`: the loop's invariant is that the bytes left lead to the same lines.
use mathlib.Core.Path.{◌≡◌}
use lib.ListN.{drop}
use Rattle.judge.specs.LogLines.{lines_from, lines_in}
use Rattle.judge.proofs.log_lines.looked.Given as goal

abbrev pub invariant-loop-b : goal.invariant-loop-b
invariant-loop-b l = lines_in l.text l.width.w ≡ lines_from (drop l.b-index l.text) l.width.w l.s
