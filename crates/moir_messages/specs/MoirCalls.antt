-- The open call of a process of Moir's bench, as a message tells it: by the numbers of program points
-- (`moir_model/specs/Points`); `proofs/MoirPoints` computes that they are these for each point.
use Rattle.std.specs.Prelude.{ℕ, ◌-◌, cond, List, eqb, leb, ltb, get_or, Option, None, Some}
use Rattle.std.specs.Option.{option_map}
use Rattle.moir_model.specs.declared.Process.{Process}
use Rattle.moir_model.specs.Records.{no_process}
use Rattle.messages.specs.declared.calls.Call.{Call}
use Rattle.llsc.specs.declared.calls.CallKind.{CallKind}
use Rattle.llsc.specs.declared.calls.CallKind.TheVariants.{Ll, Sc, Vl}
use Rattle.messages.specs.declared.calls.Moves.{Moves}
use Rattle.messages.specs.declared.calls.Moves.TheVariants.{Whole}

-- none where the process is idle
abbrev pub kind_of : ℕ → Option CallKind
kind_of k = cond (eqb k 0) None (cond (leb k 10) (Some Ll) (cond (eqb k 13) (Some Vl) (Some Sc)))

-- the line of Figure 6: a point in the Copy of an SC has 20 more
abbrev pub figure_line : ℕ → ℕ
figure_line k = cond (ltb 20 k) (k - 20) k

-- which lines work on word i, a whole word to a step: those of Copy, 2 to 7, and 17
abbrev pub moves_of : ℕ → Option Moves
moves_of k = cond (leb k 7) (Some Whole) (cond (eqb k 17) (Some Whole) None)

abbrev pub call_of : Process → Option Call
call_of q =
    let line = figure_line q.line in
    option_map
    (λ kind. record { kind = kind; line = line; moves = moves_of line; place = q.word; count = q.count })
    (kind_of q.line)

-- the call of process p among these records; none of a number that is no process of them
abbrev pub call_at : ℕ → List Process → Option Call
call_at p records = call_of (get_or records p no_process)
