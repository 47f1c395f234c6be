-- Computed turns: 22 first of all, the rows before a pass, the calls that leave the list, and N = 1.
use mathlib.Core.Path.{◌≡◌, refl}
use Prim.Native.Nat.{ℕ}
use mathlib.Core.List.{List, [], ◌∷◌}
use lib.ListN.{get_or, replicate}
use Rattle.llsc.specs.Answers.{refused, accepted, answered, ll_words}
use Rattle.model.specs.Machine.{step_at}
use Rattle.model.specs.declared.Reply.TheVariants.{Refused, Accepted}
use Rattle.station.specs.declared.StationProcess.{StationProcess}
use Rattle.station.specs.Station.{StationMemory, no_holding}
use Rattle.station.specs.StationRefusals.{station_in_range}
use Rattle.station.specs.StationCommand.{station_refusal, station_command}
use Rattle.station.specs.StationSetUp.{empty_process, empty_tables, station_set_up, station_set_up_refusal}
use Rattle.llsc.specs.declared.calls.CallKind.TheVariants.{Ll, Sc}
use Rattle.turns_model.specs.declared.TurnReply.{TurnReply}
use Rattle.turns_model.specs.declared.TurnReply.TheVariants.{Replied, Passed}
use Rattle.turns_model.specs.TurnReplies.{turn_number, TurnSaid, passed, told, turn_says}
use Rattle.turns_model.specs.Turns.{ListedCall, AfterTurn, turn, lent_refusal}

-- a process in the middle of a call on record 5
abbrev astray : StationProcess
astray = record {
  holdings = replicate 8 no_holding;
  called = record { 0 = 5 };
  line = 1;
  word = 0;
  count = 0;
  b = record { 0 = 0 };
  c = record { 0 = 0 };
  d = record { 0 = 0 };
  e = record { 0 = 0 };
}

-- lent: two process records and 20 words, 16 of which a station of N = 2, W = 1 and R = 2 needs
abbrev lent_with : List StationProcess → StationMemory
lent_with ps = record { n = 0; w = 0; r = 0; tables = replicate 8 empty_tables; processes = ps; words = replicate 20 0 }

abbrev begun : StationMemory
begun = (station_set_up (lent_with (replicate 2 empty_process)) 2 1 2 (5 ∷ [])).1

-- the same with process 1 astray, and N = 1 with another record astray behind it
abbrev spoilt : StationMemory
spoilt = record { n = 2; w = 1; r = 2; tables = begun.tables; processes = empty_process ∷ astray ∷ []; words = begun.words }

abbrev alone : StationMemory
alone = (station_set_up (lent_with (empty_process ∷ astray ∷ [])) 1 1 2 (5 ∷ [])).1

abbrev an_ll : ListedCall
an_ll = record { kind = Ll; named = 1; value = [] }

abbrev an_sc : ListedCall
an_sc = record { kind = Sc; named = 1; value = 7 ∷ [] }

abbrev seen : AfterTurn → TurnReply × List ListedCall
seen a = (a.reply, a.left)

-- 22 before row 1; row 9 before a pass and before a start, and all calls are left
third_process : turn (lent_with []) 2 (an_ll ∷ []) ≡ record { reply = Replied (Refused 22); left = an_ll ∷ []; memory = lent_with [] }
unfolding turn
third_process = refl

row9_before_a_pass : turn spoilt 0 [] ≡ record { reply = Replied (Refused 9); left = []; memory = spoilt }
unfolding turn lent_refusal station_in_range station_set_up station_set_up_refusal
row9_before_a_pass = refl

row9_before_a_start : turn spoilt 0 (an_ll ∷ []) ≡ record { reply = Replied (Refused 9); left = an_ll ∷ []; memory = spoilt }
unfolding turn lent_refusal station_in_range station_set_up station_set_up_refusal
row9_before_a_start = refl

-- a pass changes nothing
pass : turn begun 1 [] ≡ record { reply = Passed; left = []; memory = begun }
unfolding turn lent_refusal station_in_range station_set_up station_set_up_refusal
pass = refl

-- an SC before any LL is refused with 7, and gone
refused_call_gone : turn begun 0 (an_sc ∷ an_ll ∷ []) ≡ record { reply = Replied (Refused 7); left = an_ll ∷ []; memory = begun }
unfolding turn lent_refusal station_in_range station_set_up station_set_up_refusal station_refusal station_command
refused_call_gone = refl

-- an LL starts; then its process steps, whatever its list holds
start_then_step : (seen (turn begun 0 (an_ll ∷ [])) ≡ (Replied Accepted, []))
    × (seen (turn (turn begun 0 (an_ll ∷ [])).memory 0 (an_sc ∷ [])) ≡ (Replied Accepted, an_sc ∷ []))
unfolding turn lent_refusal station_in_range station_set_up station_set_up_refusal station_refusal station_command
start_then_step = (refl, refl)

-- "at N = 1 process 1 counts as idle", whatever its record holds: a pass, or 4 and the call is gone
alone_passes : turn alone 1 [] ≡ record { reply = Passed; left = []; memory = alone }
unfolding turn lent_refusal station_in_range station_set_up station_set_up_refusal
alone_passes = refl

alone_refused : turn alone 1 (an_ll ∷ []) ≡ record { reply = Replied (Refused 4); left = []; memory = alone }
unfolding turn lent_refusal station_in_range station_set_up station_set_up_refusal station_refusal station_command
alone_refused = refl

-- a start is on the record that its call names
starts_its_record : (get_or (turn begun 0 (an_ll ∷ [])).memory.processes 0 empty_process).called ≡ record { 0 = 1 }
unfolding turn lent_refusal station_in_range station_set_up station_set_up_refusal station_refusal station_command
starts_its_record = refl

-- what turns say: 22, a pass, an accepted start, and the words of record 1 once its LL is answered
abbrev turned : ℕ → List ListedCall → StationMemory → StationMemory
turned p calls m = (turn m p calls).memory

says_of : ℕ → List ListedCall → StationMemory → ℕ × TurnSaid
says_of p calls m = let a = turn m p calls in (turn_number a.reply, turn_says a.memory p a.reply)

-- process 0's LL on record 1 after nine of its ten steps
almost : StationMemory
almost =
    let steps = turned 0 [] in
    steps (steps (steps (steps (steps (steps (steps (steps (steps (turned 0 (an_ll ∷ []) begun)))))))))

record TurnsSay : Type 0 where
  third : says_of 2 [] begun ≡ (22, told (refused 22))
  pass_says : says_of 1 [] begun ≡ (0, passed)
  start_says : says_of 0 (an_ll ∷ []) begun ≡ (0, told accepted)
  answer_says : says_of 0 [] almost ≡ (0, told (answered (ll_words (5 ∷ [])) 10))

turns_say : TurnsSay
unfolding says_of almost turn lent_refusal station_in_range station_set_up station_set_up_refusal station_refusal station_command step_at
turns_say = record { third = refl; pass_says = refl; start_says = refl; answer_says = refl }
