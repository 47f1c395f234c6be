-- What a trace shows of the steps of runs, byte for byte: the machine's own steps, computed. The runs are
-- `examples/first-steps`, `examples/moir/second-read` and one of two words; their lines are worked out from Figure 6.
use Prim.Native.Nat.{ℕ}
use mathlib.Core.Path.{◌≡◌, refl}
use mathlib.Core.List.{List, [], ◌∷◌, ◌++◌}
use Rattle.llsc.specs.declared.Order.{Order}
use Rattle.llsc.specs.declared.Order.TheVariants.{StartLl, StartSc, StartVl, Step}
use Rattle.llsc.specs.History.{Command}
use Rattle.moir_model.specs.Points.{point_of}
use Rattle.moir_model.specs.Records.{record_at}
use Rattle.moir_model.specs.Machine.{Memory, step_at, obey}
use Rattle.moir_model.specs.Refusals.{in_range}
use Rattle.moir_model.specs.Command.{refusal, command}
use Rattle.moir_model.specs.SetUp.{set_up, set_up_refusal}
use Rattle.moir_model.proofs.Schedules.{l, v, s, steps, dirty}
use Rattle.listing.specs.Quoted.{quoted}
use Rattle.listing.specs.Decimal.{digits, decimal}
use Rattle.moir_access.specs.Accesses.{access_of}
use Rattle.trace_parts.specs.TraceParts.{spaced, bracketed, truth_text}
use Rattle.moir_access.specs.TraceParts.{item_text, values_text, act_text, access_text}

-- of a step of p: p and the access, on a line of its own
line_of : ℕ → Order → Memory → List ℕ
line_of p StartLl m = []
line_of p StartSc m = []
line_of p StartVl m = []
line_of p Step m =
    let q = record_at m.records (record { 0 = p }) in
    decimal p ++ access_text (access_of (point_of q.line) (record { 0 = p }) m.bench q m.words) ++ quoted "\n"

traced : Memory → List Command → List ℕ
traced m [] = []
traced m (c ∷ cs) = line_of c.process c.order m ++ traced (command m c.process c.order c.value).1 cs

-- `2 1 5`, `0l 0! 0s7 0! 1l 1! 0v 0!`
first_steps :
    traced (set_up dirty 2 1 (5 ∷ [])).1
    (l 0 ++ steps 3 0 ++ s 1 0 7 ++ steps 8 0 ++ l 1 ++ steps 3 1 ++ v 0 ++ steps 1 0)
    ≡ quoted "0 10 hdr read 0 0\n"
    ++ quoted "0 2 data[0] read 0 5\n"
    ++ quoted "0 7 hdr read 0 0\n"
    ++ quoted "0 14 hdr read 0 0\n"
    ++ quoted "0 17 A[0][0] write 7\n"
    ++ quoted "0 19 hdr CAS 0 0 1 0 true\n"
    ++ quoted "0 2 data[0] read 0 5\n"
    ++ quoted "0 4 A[0][0] read 7\n"
    ++ quoted "0 5 data[0] CAS 0 5 1 7 true\n"
    ++ quoted "0 6 data[0] read 1 7\n"
    ++ quoted "0 7 hdr read 1 0\n"
    ++ quoted "1 10 hdr read 1 0\n"
    ++ quoted "1 2 data[0] read 1 7\n"
    ++ quoted "1 7 hdr read 1 0\n"
    ++ quoted "0 13 hdr read 1 0\n"
unfolding traced line_of command refusal in_range obey step_at access_of set_up set_up_refusal spaced bracketed item_text
    values_text truth_text act_text access_text decimal digits
first_steps = refl

-- `2 1 5`, `0l 0! 0s6 5(0.) 1l 2(1.) 0! 0l 0! 0s7 2(0.) 1! 1s8 1! 0!`: a CAS on the segment and one on the header fail
second_read :
    traced (set_up dirty 2 1 (5 ∷ [])).1
    (l 0 ++ steps 3 0 ++ s 1 0 6 ++ steps 5 0 ++ l 1 ++ steps 2 1 ++ steps 3 0 ++ l 0 ++ steps 3 0 ++ s 1 0 7
    ++ steps 2 0 ++ steps 4 1 ++ s 1 1 8 ++ steps 8 1 ++ steps 1 0)
    ≡ quoted "0 10 hdr read 0 0\n"
    ++ quoted "0 2 data[0] read 0 5\n"
    ++ quoted "0 7 hdr read 0 0\n"
    ++ quoted "0 14 hdr read 0 0\n"
    ++ quoted "0 17 A[0][0] write 6\n"
    ++ quoted "0 19 hdr CAS 0 0 1 0 true\n"
    ++ quoted "0 2 data[0] read 0 5\n"
    ++ quoted "0 4 A[0][0] read 6\n"
    ++ quoted "1 10 hdr read 1 0\n"
    ++ quoted "1 2 data[0] read 0 5\n"
    ++ quoted "0 5 data[0] CAS 0 5 1 6 true\n"
    ++ quoted "0 6 data[0] read 1 6\n"
    ++ quoted "0 7 hdr read 1 0\n"
    ++ quoted "0 10 hdr read 1 0\n"
    ++ quoted "0 2 data[0] read 1 6\n"
    ++ quoted "0 7 hdr read 1 0\n"
    ++ quoted "0 14 hdr read 1 0\n"
    ++ quoted "0 17 A[0][0] write 7\n"
    ++ quoted "1 4 A[0][0] read 7\n"
    ++ quoted "1 5 data[0] CAS 0 5 1 7 false\n"
    ++ quoted "1 6 data[0] read 1 6\n"
    ++ quoted "1 7 hdr read 1 0\n"
    ++ quoted "1 14 hdr read 1 0\n"
    ++ quoted "1 17 A[1][0] write 8\n"
    ++ quoted "1 19 hdr CAS 1 0 2 1 true\n"
    ++ quoted "1 2 data[0] read 1 6\n"
    ++ quoted "1 4 A[1][0] read 8\n"
    ++ quoted "1 5 data[0] CAS 1 6 2 8 true\n"
    ++ quoted "1 6 data[0] read 2 8\n"
    ++ quoted "1 7 hdr read 2 1\n"
    ++ quoted "0 19 hdr CAS 1 0 2 0 false\n"
unfolding traced line_of command refusal in_range obey step_at access_of set_up set_up_refusal spaced bracketed item_text
    values_text truth_text act_text access_text decimal digits
second_read = refl

-- `2 2 5`, `0l 0! 0s6 12(0.)`: the tags of the two segments differ between the copies of word 0 and of word 1
two_words :
    traced (set_up dirty 2 2 (5 ∷ 5 ∷ [])).1 (l 0 ++ steps 5 0 ++ s 2 0 6 ++ steps 12 0)
    ≡ quoted "0 10 hdr read 0 0\n"
    ++ quoted "0 2 data[0] read 0 5\n"
    ++ quoted "0 7 hdr read 0 0\n"
    ++ quoted "0 2 data[1] read 0 5\n"
    ++ quoted "0 7 hdr read 0 0\n"
    ++ quoted "0 14 hdr read 0 0\n"
    ++ quoted "0 17 A[0][0] write 6\n"
    ++ quoted "0 17 A[0][1] write 6\n"
    ++ quoted "0 19 hdr CAS 0 0 1 0 true\n"
    ++ quoted "0 2 data[0] read 0 5\n"
    ++ quoted "0 4 A[0][0] read 6\n"
    ++ quoted "0 5 data[0] CAS 0 5 1 6 true\n"
    ++ quoted "0 6 data[0] read 1 6\n"
    ++ quoted "0 7 hdr read 1 0\n"
    ++ quoted "0 2 data[1] read 0 5\n"
    ++ quoted "0 4 A[0][1] read 6\n"
    ++ quoted "0 5 data[1] CAS 0 5 1 6 true\n"
unfolding traced line_of command refusal in_range obey step_at access_of set_up set_up_refusal spaced bracketed item_text
    values_text truth_text act_text access_text decimal digits
two_words = refl
