-- `boards::refusals::records_of_both` meets its contract: the rows in order.
use mathlib.Core.Path.{sym, ap, ◌∙◌}
use Prim.Native.Nat.{ℕ}
use Rattle.boards.specs.Merging.{file_size, too_large}
use Rattle.boards.specs.Places.{RecordsOf}
use Rattle.boards.specs.declared.merging.Left.{Left}
use Rattle.boards.proofs.RefusalLaws.{its_records, first_record, second_record, shared, large, may_merge}
use Rattle.boards.proofs.refusals.records_of_both.Goals as goal
use Rattle.boards.proofs.refusals.records_of_both.Goals.{then-not-good_records-via-then-not-good_records, then-not-good_records-via-else-not-good_records+then-not-good_records-2}
use Rattle.boards.proofs.refusals.records_of_both.Goals.{In_ok-second}

-- the records of both
abbrev left_of : In_ok-second → Left
left_of c = record { first = c.in_ok-first.first; second = c.in_ok-second.second }

firsts : (c : In_ok-second) → RecordsOf c.args.first.now c.in_ok-first.first.now
firsts c = its_records _ c.args.first.now c.records_of.ensures _ c.in_ok-first.ensures.value

seconds : (c : In_ok-second) → RecordsOf c.args.second.now c.in_ok-second.second.now
seconds c = its_records _ c.args.second.now c.records_of-2.ensures _ c.in_ok-second.ensures.value

pub returns-then-not-good_records : goal.returns-then-not-good_records
returns-then-not-good_records c =
    let x = c.args in let at = (goal.at.returns-then-not-good_records c).In_ok-second in
    elim c.then-not-good_records.branch [
      | then-not-good_records-via-then-not-good_records w ↦
          first_record x.first.now x.second.now x.room (left_of at) (firsts at) (seconds at) (sym c.good_records.ensures ∙ w.if-not-good_records.true)
      | then-not-good_records-via-else-not-good_records+then-not-good_records-2 w ↦
          second_record x.first.now x.second.now x.room (left_of at) (firsts at) (seconds at) (sym w.good_records-else-not-good_records.ensures ∙ w.if-not-good_records-2.true)
    ]

pub returns-then-share_process : goal.returns-then-share_process
returns-then-share_process c =
    let x = c.args in let at = (goal.at.returns-then-share_process c).In_ok-second in
    shared x.first.now x.second.now x.room (left_of at) (firsts at) (seconds at) (sym c.good_records.ensures ∙ c.if-not-good_records.false)
    (sym c.good_records-else-not-good_records.ensures ∙ c.if-not-good_records-2.false) (sym c.share_process.ensures ∙ c.if-share_process.true)

pub returns-then-too_large : goal.returns-then-too_large
returns-then-too_large c =
    let x = c.args in let at = (goal.at.returns-then-too_large c).In_ok-second in
    large x.first.now x.second.now x.room (left_of at) (firsts at) (seconds at) (sym c.good_records.ensures ∙ c.if-not-good_records.false)
    (sym c.good_records-else-not-good_records.ensures ∙ c.if-not-good_records-2.false) (sym c.share_process.ensures ∙ c.if-share_process.false)
    (ap (λ (n : ℕ). too_large (file_size n) x.room) (sym c.count.ensures) ∙ sym c.too_large.ensures ∙ c.if-too_large.true)

pub returns : goal.returns
returns c =
    let x = c.args in let at = (goal.at.returns c).In_ok-second in
    may_merge x.first.now x.second.now x.room (left_of at) (firsts at) (seconds at) (sym c.good_records.ensures ∙ c.if-not-good_records.false)
    (sym c.good_records-else-not-good_records.ensures ∙ c.if-not-good_records-2.false) (sym c.share_process.ensures ∙ c.if-share_process.false)
    (ap (λ (n : ℕ). too_large (file_size n) x.room) (sym c.count.ensures) ∙ sym c.too_large.ensures ∙ c.if-too_large.false)
