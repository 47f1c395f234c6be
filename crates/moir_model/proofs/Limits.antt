-- Two checks on memory that a set-up alone does not leave: the tags wrap, and row 9 has its limits. Computed.
use mathlib.Core.Path.{◌≡◌, refl}
use Prim.Native.Nat.{ℕ}
use mathlib.Core.List.{List, [], ◌∷◌, ◌++◌}
use mathlib.Core.Bool.{true}
use lib.ListN.{replicate}
use Rattle.llsc.specs.declared.Order.TheVariants.{StartLl}
use Rattle.moir_model.specs.declared.Header.{Header}
use Rattle.moir_model.specs.declared.Process.{Process}
use Rattle.moir_model.specs.Records.{no_process}
use Rattle.moir_model.specs.Machine.{Memory, step_at, obey}
use Rattle.moir_model.specs.Refusals.{in_range}
use Rattle.moir_model.specs.Command.{command, refusal}
use Rattle.moir_model.specs.SetUp.{set_up, set_up_refusal}
use Rattle.moir_model.specs.Replies.{words, sc_truth}
use Rattle.moir_model.specs.History.{events}
use Rattle.moir_model.proofs.Schedules.{l, s, steps, answer, dirty, shown}

-- N = 2, W = 1, the value 5
abbrev ready : Memory
ready = (set_up dirty 2 1 (5 ∷ [])).1

-- the same after 65,535 successes: every tag is 65,535
abbrev last_tag : Memory
last_tag = record { bench = record { n = 2; w = 1; header = record { tag = 65535; pid = record { 0 = 0 } }; tags = replicate 64 65535 }; records = ready.records; words = ready.words }

-- the next success has the tag 0, is copied, and is read: 0l 0! 0s7 0! 1l 1! 1s8 1! 0l 0!
pub tags_wrap : shown (events last_tag (l 0 ++ steps 3 0 ++ s 1 0 7 ++ steps 8 0 ++ l 1 ++ steps 3 1 ++ s 1 1 8 ++ steps 8 1 ++ l 0 ++ steps 3 0))
    ≡ answer 0 (words (5 ∷ [])) 3 ∷ answer 0 (sc_truth true) 8 ∷ answer 1 (words (7 ∷ [])) 3 ∷ answer 1 (sc_truth true) 8 ∷ answer 0 (words (8 ∷ [])) 3 ∷ []
unfolding command refusal in_range step_at obey set_up set_up_refusal events
tags_wrap = refl

-- a memory with one process record q
abbrev holding : Process → Memory
holding q = record { bench = ready.bench; records = q ∷ no_process ∷ []; words = ready.words }

-- a start of a WLL by process 1 is refused with these numbers
abbrev numbers : List Process → List ℕ
numbers [] = []
numbers (q ∷ qs) = refusal (holding q) 1 StartLl [] ∷ numbers qs

abbrev of : ℕ → Header
of p = record { tag = 65535; pid = record { 0 = p } }

abbrev q : Process
q = no_process

-- at its limit: process numbers, the line of a point, the word place, a busy count
abbrev inside : List Process
inside =
    record { line = q.line; word = q.word; count = q.count; answered = q.answered; keep = q.keep; x = of 1; oldhdr = q.oldhdr; newhdr = q.newhdr; h = q.h; y = q.y; z = q.z } ∷
    record { line = q.line; word = q.word; count = q.count; answered = q.answered; keep = q.keep; x = q.x; oldhdr = of 1; newhdr = q.newhdr; h = q.h; y = q.y; z = q.z } ∷
    record { line = q.line; word = q.word; count = q.count; answered = q.answered; keep = q.keep; x = q.x; oldhdr = q.oldhdr; newhdr = of 1; h = q.h; y = q.y; z = q.z } ∷
    record { line = q.line; word = q.word; count = q.count; answered = q.answered; keep = q.keep; x = q.x; oldhdr = q.oldhdr; newhdr = q.newhdr; h = of 1; y = q.y; z = q.z } ∷
    record { line = 27; word = 0; count = 7; answered = q.answered; keep = q.keep; x = q.x; oldhdr = q.oldhdr; newhdr = q.newhdr; h = q.h; y = q.y; z = q.z } ∷ []

-- one more, and an idle process with a count or at a line that is none
abbrev outside : List Process
outside =
    record { line = q.line; word = q.word; count = q.count; answered = q.answered; keep = q.keep; x = of 2; oldhdr = q.oldhdr; newhdr = q.newhdr; h = q.h; y = q.y; z = q.z } ∷
    record { line = q.line; word = q.word; count = q.count; answered = q.answered; keep = q.keep; x = q.x; oldhdr = of 2; newhdr = q.newhdr; h = q.h; y = q.y; z = q.z } ∷
    record { line = q.line; word = q.word; count = q.count; answered = q.answered; keep = q.keep; x = q.x; oldhdr = q.oldhdr; newhdr = of 2; h = q.h; y = q.y; z = q.z } ∷
    record { line = q.line; word = q.word; count = q.count; answered = q.answered; keep = q.keep; x = q.x; oldhdr = q.oldhdr; newhdr = q.newhdr; h = of 2; y = q.y; z = q.z } ∷
    record { line = 23; word = q.word; count = q.count; answered = q.answered; keep = q.keep; x = q.x; oldhdr = q.oldhdr; newhdr = q.newhdr; h = q.h; y = q.y; z = q.z } ∷
    record { line = q.line; word = 1; count = q.count; answered = q.answered; keep = q.keep; x = q.x; oldhdr = q.oldhdr; newhdr = q.newhdr; h = q.h; y = q.y; z = q.z } ∷
    record { line = 27; word = q.word; count = 8; answered = q.answered; keep = q.keep; x = q.x; oldhdr = q.oldhdr; newhdr = q.newhdr; h = q.h; y = q.y; z = q.z } ∷
    record { line = q.line; word = q.word; count = 1; answered = q.answered; keep = q.keep; x = q.x; oldhdr = q.oldhdr; newhdr = q.newhdr; h = q.h; y = q.y; z = q.z } ∷ []

pub row_nine : (numbers inside ≡ replicate 5 0) × (numbers outside ≡ replicate 8 9)
unfolding refusal in_range set_up set_up_refusal
row_nine = (refl, refl)

-- the header's own process number
pub row_nine_header : refusal (record { bench = record { n = 2; w = 1; header = of 2; tags = ready.bench.tags }; records = ready.records; words = ready.words }) 1 StartLl [] ≡ 9
unfolding refusal in_range set_up set_up_refusal
row_nine_header = refl
