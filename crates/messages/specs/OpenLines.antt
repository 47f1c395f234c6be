-- The words that tell an open call.
use Rattle.std.specs.Prelude.{ℕ, ◌/◌, ◌%◌, ◌+◌, ◌++◌, min, take, List, [], ◌∷◌, cond, eqb, codes, Option, None, Some}
use Rattle.std.specs.Fmt.{decimal}
use Rattle.llsc.specs.CallKinds.{kind_text}
use Rattle.messages.specs.declared.calls.Call.{Call}
use Rattle.messages.specs.declared.calls.Figure.{Figure}
use Rattle.messages.specs.declared.calls.Figure.TheVariants.{Two, Six}
use Rattle.messages.specs.declared.calls.Method.{Method}
use Rattle.messages.specs.declared.calls.Moves.{Moves}
use Rattle.messages.specs.declared.calls.Moves.TheVariants.{Whole, Halves}
use Rattle.messages.specs.declared.calls.Told.{Told}
use Rattle.messages.specs.declared.calls.Word.{Word}
use Rattle.messages.specs.declared.Left.{Left}
use Rattle.positions.specs.declared.Sizes.{Sizes}
use Rattle.positions.specs.declared.StopReport.{StopReport}
use Rattle.positions.specs.declared.StopReport.TheVariants.{NotRead, AtFault, AtNoItem, AtItem}

abbrev pub figure_text : Figure → List ℕ
figure_text Two = codes "Figure 2"
figure_text Six = codes "Figure 6"

-- which half of its word a place is
abbrev pub half_text : ℕ → List ℕ
half_text place = cond (eqb (place % 2) 0) (codes "low") (codes "high")

-- the word at a word place, from 0 on as in a trace; two places make a word that moves in halves
abbrev pub moved_text : Option Moves → ℕ → ℕ → List ℕ
moved_text None place w = []
moved_text (Some Whole) place w = codes ", word " ++ decimal place ++ codes " of " ++ decimal w
moved_text (Some Halves) place w =
    codes ", word " ++ decimal (place / 2) ++ codes " of " ++ decimal w
    ++ codes ", " ++ half_text place ++ codes " half"

abbrev pub word_text : Word → List ℕ
word_text x = moved_text x.moves x.place x.w

abbrev pub steps_text : ℕ → List ℕ
steps_text n = cond (eqb n 1) (codes "step") (codes "steps")

-- "LL, line 3 of Figure 2, word 0 of 1, low half next, 2 own steps so far"
abbrev pub told_text : Told → List ℕ
told_text t =
    kind_text t.call.kind ++ (codes ", line " ++ (decimal t.call.line
    ++ (codes " of " ++ (figure_text t.method.figure
    ++ (moved_text t.call.moves t.call.place t.method.w
    ++ (codes " next, " ++ (decimal t.call.count
    ++ (codes " own " ++ (steps_text t.call.count ++ codes " so far")))))))))

-- the line of process p, if its call is open
abbrev pub open_line : Method → ℕ → Option Call → List ℕ
open_line m p None = []
open_line m p (Some c) = codes "open: process " ++ decimal p ++ codes ", " ++ told_text (record { call = c; method = m }) ++ codes "\n"

-- those of the processes from p on, whose calls these are
unfoldable pub open_lines : Method → ℕ → List (Option Call) → List ℕ
open_lines m p [] = []
open_lines m p (c ∷ cs) = open_line m p c ++ open_lines m (p + 1) cs

-- those of the processes below N
abbrev pub open_below : Left → Sizes → List ℕ
open_below left s = open_lines (record { figure = left.figure; w = s.w }) 0 (take (min s.n 16) left.calls)

-- those that a run leaves, of whose stop this is reported: no call is open where N and W are not read
abbrev pub still_open : Left → StopReport → List ℕ
still_open left NotRead = []
still_open left (AtFault place) = []
still_open left (AtNoItem s) = open_below left s
still_open left (AtItem s item) = open_below left s
