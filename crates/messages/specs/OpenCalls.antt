-- The open call of a process of Figure 2's bench, as a message tells it: by the numbers of program points
-- (`model/specs/Points`); `proofs/Points` computes that they are these for each point.
use Rattle.std.specs.Prelude.{ℕ, cond, List, eqb, leb, get_or, Option, None, Some}
use Rattle.std.specs.Option.{option_map}
use Rattle.model.specs.declared.Process.{Process}
use Rattle.model.specs.Records.{no_process}
use Rattle.messages.specs.declared.calls.Call.{Call}
use Rattle.llsc.specs.declared.calls.CallKind.{CallKind}
use Rattle.llsc.specs.declared.calls.CallKind.TheVariants.{Ll, Sc, Vl}
use Rattle.messages.specs.declared.calls.Moves.{Moves}
use Rattle.messages.specs.declared.calls.Moves.TheVariants.{Halves}

-- none where the process is idle
abbrev pub kind_of : ℕ → Option CallKind
kind_of k = cond (eqb k 0) None (cond (leb k 11) (Some Ll) (cond (eqb k 24) (Some Ll) (cond (eqb k 23) (Some Vl) (Some Sc))))

-- the line of Figure 2 to which a point belongs: 24 is the copy of line 7, 25 and 26 the VL(X) of lines 12 and 14
abbrev pub figure_line : ℕ → ℕ
figure_line k = cond (eqb k 24) 7 (cond (eqb k 25) 12 (cond (eqb k 26) 14 k))

-- "Each word move in lines 3, 6, 7, 11 and 17 becomes two steps, low half first" (02, CR 4); none where no word moves
abbrev pub moves_of : ℕ → Option Moves
moves_of k =
    cond (eqb k 3) (Some Halves)
    (cond (eqb k 6) (Some Halves)
    (cond (eqb k 24) (Some Halves) (cond (eqb k 11) (Some Halves) (cond (eqb k 17) (Some Halves) None))))

abbrev pub call_of : Process → Option Call
call_of q =
    option_map
    (λ kind. record { kind = kind; line = figure_line q.line; moves = moves_of q.line; place = q.word; count = q.count })
    (kind_of q.line)

-- the call of process p among these records; none of a number that is no process of them
abbrev pub call_at : ℕ → List Process → Option Call
call_at p records = call_of (get_or records p no_process)
