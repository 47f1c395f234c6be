-- Why CR 8 has a copier read the segment again: without it "a WLL could answer words never written". One schedule on Figure
-- 6 as printed, where line 6 is `y := z` and makes no access, and on the bench.
use mathlib.Core.Path.{◌≡◌, refl}
use Prim.Native.Nat.{ℕ}
use mathlib.Core.List.{List, [], ◌∷◌, ◌++◌}
use mathlib.Core.Bool.{true, false, cond}
use lib.Dec.{eqb}
use Rattle.llsc.specs.declared.ProcessNumber.{ProcessNumber}
use Rattle.llsc.specs.declared.Order.{Order}
use Rattle.llsc.specs.declared.Order.TheVariants.{StartLl, StartSc, StartVl, Step}
use Rattle.llsc.specs.History.{Command}
use Rattle.moir_model.specs.declared.Bench.{Bench}
use Rattle.moir_model.specs.declared.Process.{Process}
use Rattle.moir_model.specs.declared.Reply.{Reply}
use Rattle.moir_model.specs.declared.Reply.TheVariants.{Refused}
use Rattle.moir_model.specs.declared.Moved.{Moved}
use Rattle.moir_model.specs.Points.{Point, line_number, point_of, idle, ll10, ll2, ll4, ll5, ll6, ll7, sc14, sc17, sc19, sc2, sc4, sc5, sc6, sc7, vl13}
use Rattle.moir_model.specs.Records.{record_at, with_y}
use Rattle.moir_model.specs.Machine.{Memory, step5, step_at, obey}
use Rattle.moir_model.specs.Refusals.{in_range}
use Rattle.moir_model.specs.Command.{command, refusal, put_back}
use Rattle.moir_model.specs.SetUp.{set_up, set_up_refusal}
use Rattle.moir_model.specs.Replies.{words, sc_truth, says}
use Rattle.moir_model.specs.History.{Event, events}
use Rattle.moir_model.proofs.Schedules.{l, s, steps, answer, Run, begun, shown, Right}

-- lines 5 and 6 as printed, in one step: the CAS, then y := z; the point z follows
abbrev printed5 : Point → Bench → Process → List ℕ → Moved × List ℕ
printed5 z b q ws =
    let out = step5 (line_number z) b q ws in
    (record { bench = out.0.bench; process = with_y q.z out.0.process; reply = out.0.reply }, out.1)

abbrev printed_at : Point → ProcessNumber → Bench → Process → List ℕ → Moved × List ℕ
printed_at idle p b q ws = step_at idle p b q ws
printed_at ll10 p b q ws = step_at ll10 p b q ws
printed_at ll2 p b q ws = step_at ll2 p b q ws
printed_at ll4 p b q ws = step_at ll4 p b q ws
printed_at ll5 p b q ws = printed5 ll7 b q ws
printed_at ll6 p b q ws = step_at ll6 p b q ws
printed_at ll7 p b q ws = step_at ll7 p b q ws
printed_at sc14 p b q ws = step_at sc14 p b q ws
printed_at sc17 p b q ws = step_at sc17 p b q ws
printed_at sc19 p b q ws = step_at sc19 p b q ws
printed_at sc2 p b q ws = step_at sc2 p b q ws
printed_at sc4 p b q ws = step_at sc4 p b q ws
printed_at sc5 p b q ws = printed5 sc7 b q ws
printed_at sc6 p b q ws = step_at sc6 p b q ws
printed_at sc7 p b q ws = step_at sc7 p b q ws
printed_at vl13 p b q ws = step_at vl13 p b q ws

abbrev printed_obey : Order → ProcessNumber → List ℕ → Bench → Process → List ℕ → Moved × List ℕ
printed_obey StartLl p value b q ws = obey StartLl p value b q ws
printed_obey StartSc p value b q ws = obey StartSc p value b q ws
printed_obey StartVl p value b q ws = obey StartVl p value b q ws
printed_obey Step p value b q ws = printed_at (point_of q.line) p b q ws

abbrev printed : Memory → Command → Reply × Memory
printed m c =
    let number = refusal m c.process c.order c.value in
    let p : ProcessNumber = record { 0 = c.process } in
    cond (eqb number 0) (put_back m p (printed_obey c.order p c.value m.bench (record_at m.records p) m.words)) (Refused number, m)

abbrev printed_events : Memory → List Command → List Event
printed_events m [] = []
printed_events m (c ∷ cs) =
    let out = printed m c in
    record { command = c; said = says out.1 (record { 0 = c.process }) out.0; won = false } ∷ printed_events out.1 cs

-- 0l 0! 0s6 5(0.) 1l 2(1.) 0! 0l 0! 0s7 2(0.) 1! 1s8 1! 0!, on the bench
abbrev repaired : Run
repaired = record {
  n = 2;
  w = 1;
  k = 5;
  entries = 37;
  commands = l 0 ++ steps 3 0 ++ s 1 0 6 ++ steps 5 0 ++ l 1 ++ steps 2 1 ++ steps 3 0 ++ l 0 ++ steps 3 0
      ++ s 1 0 7 ++ steps 2 0 ++ steps 4 1 ++ s 1 1 8 ++ steps 8 1 ++ steps 1 0;
  shows = answer 0 (words (5 ∷ [])) 3 ∷ answer 0 (sc_truth true) 8 ∷ answer 0 (words (6 ∷ [])) 3
      ∷ answer 1 (words (6 ∷ [])) 6 ∷ answer 1 (sc_truth true) 8 ∷ answer 0 (sc_truth false) 3 ∷ [];
}

-- and on Figure 6 as printed: process 1 reads 7, and the SC of 7 fails
abbrev unrepaired : Run
unrepaired = record {
  n = 2;
  w = 1;
  k = 5;
  entries = 34;
  commands = l 0 ++ steps 3 0 ++ s 1 0 6 ++ steps 5 0 ++ l 1 ++ steps 2 1 ++ steps 2 0 ++ l 0 ++ steps 3 0
      ++ s 1 0 7 ++ steps 2 0 ++ steps 3 1 ++ s 1 1 8 ++ steps 7 1 ++ steps 1 0;
  shows = answer 0 (words (5 ∷ [])) 3 ∷ answer 0 (sc_truth true) 7 ∷ answer 0 (words (6 ∷ [])) 3
      ∷ answer 1 (words (7 ∷ [])) 5 ∷ answer 1 (sc_truth true) 7 ∷ answer 0 (sc_truth false) 3 ∷ [];
}

pub words_written : Right (repaired ∷ [])
unfolding command refusal in_range step_at obey set_up set_up_refusal events
words_written = (refl, (refl, tt))

pub words_never_written : shown (printed_events (begun unrepaired) unrepaired.commands) ≡ unrepaired.shows
unfolding refusal in_range step_at obey set_up set_up_refusal
words_never_written = refl
