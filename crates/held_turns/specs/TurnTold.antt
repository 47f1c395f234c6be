-- What a turn (02, CR 5) makes of a held list, and what it tells.
use Rattle.std.specs.Prelude.{◌≡◌, ℕ, List, true, false, cond, eqb, ltb}
use Rattle.llsc.specs.declared.calls.CallKind.{CallKind}
use Rattle.llsc.specs.declared.calls.CallKind.TheVariants.{Ll, Sc, Vl}
use Rattle.station.specs.Station.{StationMemory}
use Rattle.station.specs.StationRefusals.{StationOrder, record_for}
use Rattle.station.specs.StationCommand.{station_refusal}
use Rattle.turns_model.specs.declared.NextCall.{NextCall}
use Rattle.turns_model.specs.declared.TurnReply.{TurnReply}
use Rattle.turns_model.specs.declared.TurnReply.TheVariants.{Replied, Passed}
use Rattle.turns_model.specs.declared.Turned.{Turned}
use Rattle.turns_model.specs.Turns.{ListedCall, start_by, step_by, counts_as_idle, lent_refusal, listed_as, turn_of}
use Rattle.held_model.specs.HeldCommand.{MarksAfter}
use Rattle.held_model.specs.Memory.{memory_of}
use Rattle.held_model.specs.Told.{told_with, told}
use Rattle.held_turns.specs.declared.HeldTurn.{HeldTurn}

-- "every kind is 1 for LL, 2 for SC or 3 for VL"; every other number is a VL
abbrev pub kind_named : ℕ → CallKind
kind_named k = cond (eqb k 1) Ll (cond (eqb k 2) Sc Vl)

abbrev pub next_named : ℕ → ℕ → NextCall
next_named kind on = record { kind = kind_named kind; named = on }

-- "gives the command's reply, or pass, and the calls left"
abbrev pub turn_told : ℕ → ℕ → ℕ → ℕ → TurnReply → ℕ → HeldTurn
turn_told n w r p (Replied x) left = record { told = told n w r p x; passed = false; left = left }
turn_told n w r p Passed left = record { told = told_with 0 0 false 0; passed = true; left = left }

abbrev pub turned_told : StationMemory → ℕ → Turned → HeldTurn
turned_told s p t = turn_told s.n s.w s.r p t.reply t.left

-- the command that a turn gives, where it gives one, and the number of a turn's refusal, 0 for none
abbrev pub order_given : StationMemory → ℕ → ListedCall → StationOrder
order_given s p call = cond (counts_as_idle s p) (start_by p call) (step_by p)

abbrev pub turn_refusal : StationMemory → ℕ → ListedCall → ℕ
turn_refusal s p call =
    cond (ltb 1 p) 22 (cond (eqb (lent_refusal s) 0) (station_refusal s (order_given s p call)) (lent_refusal s))

-- What is told, and the memory of the list after it, are those of `turn_of`, and the marks are those of the command given;
-- a turn that is refused, and one that passes, leave every number.
pub record TurnDone (l : List ℕ) (p : ℕ) (next : NextCall) (value : List ℕ) (left : ℕ) (t : HeldTurn) (l' : List ℕ) : Type 0 where
  pub answer : t ≡ turned_told (memory_of l) p (turn_of (memory_of l) p next value left).0
  pub memory : memory_of l' ≡ (turn_of (memory_of l) p next value left).1
  pub marks : turn_refusal (memory_of l) p (listed_as next value) ≡ 0 → t.passed ≡ false
      → MarksAfter l l' p (record_for (memory_of l) (order_given (memory_of l) p (listed_as next value))).0
  pub refused : (turn_refusal (memory_of l) p (listed_as next value) ≡ 0 → ⊥) → l' ≡ l
  pub passed : t.passed ≡ true → l' ≡ l
