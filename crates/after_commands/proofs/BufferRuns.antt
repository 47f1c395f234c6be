-- The definitions of `specs/Buffers` on runs, computed: each number is found once where a definition that is a little
-- different would find one twice and another not at all, and where every process is halted at another line.
use mathlib.Core.Path.{◌≡◌, refl}
use Prim.Native.Nat.{ℕ}
use mathlib.Core.List.{List, [], ◌∷◌, ◌++◌, map}
use lib.ListN.{replicate}
use Rattle.model.specs.declared.Process.{Process}
use Rattle.model.specs.Sizes.{buffers}
use Rattle.model.specs.Points.{Point, line_number, line2, line3, line4, line5, line6, line7copy, line8, line9, line10, line11}
use Rattle.model.specs.Points.{line13, line15, line17, line18, line19, line23}
use Rattle.model.specs.Records.{no_process}
use Rattle.model.specs.Machine.{Memory, step_at, obey}
use Rattle.model.specs.Refusals.{in_range}
use Rattle.model.specs.Command.{command, refusal}
use Rattle.model.specs.SetUp.{set_up, set_up_refusal, numbers}
use Rattle.llsc.specs.History.{Command}
use Rattle.model.proofs.Schedules.{l, v, s, steps, dirty}
use Rattle.after_commands.specs.After.{after}
use Rattle.after_commands.specs.Buffers.{held, occurrences}

-- lent memory for every N, with W = 1
abbrev lent : Memory
lent = record { bench = dirty.bench; records = replicate 16 no_process; words = replicate 80 1234 }

-- the memory after the commands, for N = n, W = 1 and the initial value 5
abbrev reached : ℕ → List Command → Memory
reached n cs = after (set_up lent n 1 (5 ∷ [])).1 cs

-- how often each of the 3N numbers is found
abbrev counted : ℕ → List ℕ → List ℕ
counted n places = map (λ b. occurrences b places) (numbers 0 (buffers n))

abbrev found : ℕ → List Command → List ℕ
found n cs = counted n (held (reached n cs) n)

-- an LL with nobody beside it, and the first success of process 0
abbrev alone_ll : ℕ → List Command
alone_ll p = l p ++ steps 10 p

abbrev first_success : List Command
first_success = alone_ll 0 ++ s 1 0 7 ++ steps 6 0

-- One process, one success: X is (2, 1), mybuf 1, and Bank[1] still 1. Bank alone would have 1 twice and 2 not at all.
pub kept_at_x : found 1 first_success ≡ replicate 3 1
unfolding command refusal in_range step_at obey set_up set_up_refusal after
kept_at_x = refl

-- The same, and process 0 starts an LL: Help[0] still names 2, the buffer of its last LL, which X names now.
-- A process that asks from its start on would have 2 twice.
pub not_asking_at_line_1 : found 1 (first_success ++ l 0) ≡ replicate 3 1
unfolding command refusal in_range step_at obey set_up set_up_refusal after
not_asking_at_line_1 = refl

-- Process 0 asks, and process 1 hands its buffer 5 over for 4 in the line 15 of its SC: mybuf of process 0 is still 4.
abbrev handed_over : List Command
handed_over = l 0 ++ steps 1 0 ++ alone_ll 1 ++ s 1 1 7 ++ steps 4 1

-- mybuf alone would have 4 twice and 5 not at all
pub owned_in_help : found 2 handed_over ≡ replicate 6 1
unfolding command refusal in_range step_at obey set_up set_up_refusal after
owned_in_help = refl

-- process 0 goes on to line 10: up to there it asks
pub asking_at_line_10 : found 2 (handed_over ++ steps 9 0) ≡ replicate 6 1
unfolding command refusal in_range step_at obey set_up set_up_refusal after
asking_at_line_10 = refl

-- "Can a buffer go missing when processes halt?" Sixteen processes, each halted at another line, with half a word done
-- where the line moves words. Processes 0 to 2 ask and are handed a buffer, by the first three successes of process 15;
-- a fourth success takes process 2's link. Then one process after the other is halted, process 4 while it asks, and
-- process 12 hands it a buffer.
abbrev asked : List Command
asked = l 0 ++ steps 1 0 ++ l 1 ++ steps 1 1 ++ l 2 ++ steps 1 2

abbrev writes : ℕ → List Command
writes k = alone_ll 15 ++ s 1 15 k ++ steps 10 15

abbrev helped_halt : List Command
helped_halt = asked ++ writes 2 ++ writes 3 ++ writes 4 ++ steps 4 0 ++ steps 6 1 ++ steps 7 2 ++ writes 6 ++ steps 2 2

abbrev ll_halt : List Command
ll_halt = l 3 ++ steps 1 3 ++ l 4 ++ steps 3 4 ++ l 5 ++ steps 4 5 ++ l 6 ++ steps 5 6 ++ l 7 ++ steps 6 7 ++ l 8 ++ steps 7 8 ++ l 9 ++ steps 9 9

abbrev sc_halt : List Command
sc_halt =
    alone_ll 10 ++ s 1 10 910 ++ steps 2 10 ++ alone_ll 11 ++ s 1 11 911 ++ steps 5 11 ++ alone_ll 12 ++ s 1 12 912 ++ steps 5 12
    ++ alone_ll 13 ++ s 1 13 913 ++ steps 4 13 ++ alone_ll 14 ++ s 1 14 914 ++ steps 5 14

abbrev halted : List Command
halted = helped_halt ++ ll_halt ++ sc_halt ++ v 15

abbrev halted_at : List Point
halted_at =
    line5 ∷ line6 ∷ line7copy ∷ line2 ∷ line3 ∷ line4 ∷ line8 ∷ line9 ∷ line10 ∷ line11 ∷ line13 ∷ line15 ∷ line17 ∷ line18 ∷ line19 ∷ line23 ∷ []

-- at which line each process stands, and how often each number is found
abbrev seen : Memory → List ℕ × List ℕ
seen m = (map (λ (q : Process). q.line) m.records, counted 16 (held m 16))

pub none_lost : seen (reached 16 halted) ≡ (map line_number halted_at, replicate 48 1)
unfolding command refusal in_range step_at obey set_up set_up_refusal after
none_lost = refl
