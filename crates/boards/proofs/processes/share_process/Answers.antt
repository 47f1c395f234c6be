-- `boards::processes::share_process`: what the library finds is a process that is marked.
use Rattle.std.proofs.Common.{rules, tests}
use Rattle.std.proofs.lemmas.Iterator.{YieldsList-from_slice}
use Rattle.std.proofs.lemmas.Iterator.Search.{any_from_yields_List}
use Rattle.boards.specs.Files.{record_of}
use Rattle.boards.specs.Places.{read}
use Rattle.boards.specs.Promises.{of_these}
use Prim.Native.Nat.{ℕ, ◌<◌}
use mathlib.Core.Path.{◌≡◌, ◌∙◌}
use mathlib.Core.Bool.{false}
use lib.Dec.{eqb}
use lib.ListN.{get_or}
use Rattle.llsc.specs.Rows.{some}
use Rattle.boards.proofs.ProcessLaws.{in_marks, any_shares}
use Rattle.boards.proofs.processes.share_process.Goals as goal

pub returns : goal.returns
returns c =
    let xs = read c.args.first.now in
    let is_marked : (p q : ℕ) → p ≡ q → p < 256 → get_or c.marked-table.result p false ≡ some (λ x. eqb x.process q) xs = in_marks xs c.marked-table.ensures in
    any_from_yields_List (λ r. of_these xs (record_of r)) _ _ _ c.any.ensures.ran (YieldsList-from_slice c.args.second.now cc) (λ x b q k. search (rules, tests, is_marked))
    ∙ any_shares xs c.args.second.now
