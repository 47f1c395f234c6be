-- Lines of a trace, byte for byte: the first eighteen of case A, made of the machine's own steps, and the forms that it does not show.
use Prim.Native.Nat.{ℕ, ◌+◌}
use mathlib.Core.Path.{◌≡◌, refl}
use mathlib.Core.List.{List, [], ◌∷◌, ◌++◌}
use mathlib.Core.Bool.{true, false}
use lib.ListN.{get_or}
use Rattle.llsc.specs.declared.Order.{Order}
use Rattle.llsc.specs.declared.Order.TheVariants.{StartLl, StartSc, StartVl, Step}
use Rattle.model.specs.declared.Reply.{Reply}
use Rattle.model.specs.declared.Reply.TheVariants.{Refused, Accepted, LlAnswered, ScAnswered, VlAnswered}
use Rattle.model.specs.Records.{record_at}
use Rattle.model.specs.Words.{return_area}
use Rattle.model.specs.Points.{point_of}
use Rattle.model.specs.Machine.{Memory, step_at, obey}
use Rattle.model.specs.Refusals.{in_range}
use Rattle.model.specs.Command.{refusal, command}
use Rattle.model.specs.SetUp.{set_up, set_up_refusal}
use Rattle.llsc.specs.History.{Command}
use Rattle.model.proofs.Schedules.{l, s, steps, dirty}
use Rattle.listing.specs.Decimal.{digits, decimal}
use Rattle.listing.specs.Lines.{letter_s, letter_v, answer_head, words_of, ll_line, truth_line}
use Rattle.access.specs.declared.Access.{Access}
use Rattle.access.specs.declared.Act.TheVariants.{Sc}
use Rattle.doings.specs.Doings.{doing_at}
use Rattle.access.specs.AccessOn.{bank_access, vl_of_x}
use Rattle.access.specs.Accesses.{access_of}
use Rattle.listing.specs.Quoted.{quoted}
use Rattle.access.specs.TraceLines.{half_text, half_place_text, item_text, values_text, stored_text}
use Rattle.trace_parts.specs.TraceParts.{spaced, bracketed, head_text, truth_text}
use Rattle.access.specs.TraceLines.{written_text, act_text, access_text, step_line}
use Rattle.trace_parts.specs.TraceParts as Parts
use Rattle.trace_parts.specs.TraceParts.{end_text, start_text, start_line}
use Rattle.trace_parts.specs.declared.Start.TheVariants as call

-- the line of a step of p, with its answer; ws are the words after it
stepped : ℕ → ℕ → Access → ℕ → ℕ → List ℕ → Reply → List ℕ
stepped entry p a n w ws (Refused k) = []
stepped entry p a n w ws Accepted = step_line entry p a false
stepped entry p a n w ws (LlAnswered k) = step_line entry p a true ++ ll_line p k (return_area n w (record { 0 = p }) ws)
stepped entry p a n w ws (ScAnswered t k) = step_line entry p a true ++ truth_line p letter_s k t
stepped entry p a n w ws (VlAnswered t k) = step_line entry p a true ++ truth_line p letter_v k t

-- the line of a command that finds the memory m and leaves `out`
entry_line : ℕ → ℕ → Order → List ℕ → Memory → Reply × Memory → List ℕ
entry_line entry p StartLl value m out = start_line entry p call.Ll
entry_line entry p StartSc value m out = start_line entry p (call.Sc (get_or value 0 0))
entry_line entry p StartVl value m out = start_line entry p call.Vl
entry_line entry p Step value m out =
    let q = record_at m.records (record { 0 = p }) in
    stepped entry p (access_of (point_of q.line) (record { 0 = p }) m.bench q m.words) m.bench.n m.bench.w out.1.words out.0

traced : ℕ → Memory → List Command → List ℕ
traced entry m [] = []
traced entry m (c ∷ cs) =
    let out = command m c.process c.order c.value in
    entry_line entry c.process c.order c.value m out ++ traced (entry + 1) out.1 cs

-- case A: `2 1 5`, `0l 0! 0s7 0! ..`
case-A :
    traced 1 (set_up dirty 2 1 (5 ∷ [])).1 (l 0 ++ steps 10 0 ++ s 1 0 7 ++ steps 6 0)
    ≡ quoted "1 0 start L\n"
    ++ quoted "2 0 1 Help[0] write 1 4 links cleared\n"
    ++ quoted "3 0 2 X LL 0 0 link set\n"
    ++ quoted "4 0 3 BUF[0][0] low read 5\n"
    ++ quoted "5 0 3 BUF[0][0] high read 0\n"
    ++ quoted "6 0 4 Help[0] LL 1 4 link set\n"
    ++ quoted "7 0 8 Help[0] LL 1 4 link set\n"
    ++ quoted "8 0 9 Help[0] SC 0 4 true links cleared\n"
    ++ quoted "9 0 10 Help[0] read 0 4\n"
    ++ quoted "10 0 11 BUF[4][0] low write 5\n"
    ++ quoted "11 0 11 BUF[4][0] high write 0 answers 0 L 10 5\n"
    ++ quoted "12 0 start S 7\n"
    ++ quoted "13 0 12 Bank[0] LL 0 link set\n"
    ++ quoted "14 0 14 Help[0] LL 0 4 link set\n"
    ++ quoted "15 0 17 BUF[4][0] low write 7\n"
    ++ quoted "16 0 17 BUF[4][0] high write 0\n"
    ++ quoted "17 0 18 Bank[1] read 1\n"
    ++ quoted "18 0 19 X SC 4 1 true links cleared answers 0 S 6 1\n"
unfolding traced entry_line stepped command refusal in_range obey step_at access_of doing_at set_up set_up_refusal spaced bracketed
    head_text half_text half_place_text item_text values_text stored_text truth_text written_text act_text end_text access_text Parts.step_line start_text
    start_line ll_line truth_line answer_head words_of decimal digits
case-A = refl

-- an SC that did nothing, a VL of each truth, and a start of a VL
not_stored : step_line 60000 15 (bank_access 13 (record { 0 = 31 }) (Sc false) (record { 0 = 47 })) false ≡ quoted "60000 15 13 Bank[31] SC 47 false\n"
unfolding spaced bracketed head_text item_text values_text stored_text truth_text act_text access_text end_text Parts.step_line decimal digits
not_stored = refl

valid : step_line 3 1 (vl_of_x 23 true) true ++ truth_line 1 letter_v 1 true ≡ quoted "3 1 23 X VL true answers 1 V 1 1\n"
unfolding spaced head_text item_text truth_text act_text access_text end_text Parts.step_line truth_line answer_head decimal digits
valid = refl

not_valid : step_line 4 1 (vl_of_x 7 false) false ≡ quoted "4 1 7 X VL false\n"
unfolding spaced head_text item_text truth_text act_text access_text end_text Parts.step_line decimal digits
not_valid = refl

vl_started : start_line 5 1 call.Vl ≡ quoted "5 1 start V\n"
unfolding spaced head_text start_text start_line decimal digits
vl_started = refl
