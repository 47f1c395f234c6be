-- `boards::records::good_records`: the first is good, and each one after it follows the one before it.
use Rattle.std.proofs.Common.{rules, tests}
use mathlib.Core.Path.{◌≡◌}
use Rattle.std.proofs.lemmas.Fn.{always_returns_same}
use Rattle.boards.specs.Places.{follows}
use Rattle.boards.proofs.FrontLaws.{neighbours}
use Rattle.boards.proofs.records.good_records.Goals as goal

pub returns-then-is_none_or : goal.returns-then-is_none_or
returns-then-is_none_or c =
    let each = c.is_sorted_by.ensures.cases follows (always_returns_same _ (λ a r. r ≡ follows a.0.now a.1.0.now) _ (λ a r f k. search (rules, tests))) in
    neighbours c.args.records.now _ (λ l. search (rules, tests)) each
