-- A text's entries carried out one after the other, by what a bench holds of the run.
-- Inner: `MiddleLaws` and `LoopLaws` prove that the loop over them is `carry_all` of `TextRun` and stops at `stop_index`
-- of `StopPlaces`.
use Rattle.std.specs.Prelude.{◌≡◌, ℕ, ◌+◌, List, Bool, false, Result, Ok, Err, length}
use Rattle.llsc.specs.declared.refusals.Refusal.{Refusal}
use Rattle.llsc.specs.Refusals.{refusal_number}
use Rattle.listing.specs.declared.Writer.{Writer}
use Rattle.notation.specs.declared.Entry.{Entry}
use Rattle.notation.specs.declared.Entry.TheVariants.{StartLl, StartVl, StartSc, Step, Finish}
use Rattle.text_runs.specs.declared.runs.Run.{Run}
use Rattle.text_runs.specs.Machines.{Machine}
use Rattle.text_runs.specs.TextRun.{Progress, single, unanswered, carry_all}
use Rattle.text_runs.specs.StopPlaces.{stop_index}

-- as much is lent as before
pub record Kept (ws : List ℕ) (to : Writer) (ws' : List ℕ) (to' : Writer) : Type 0 where
  pub words : length ws' ≡ length ws
  pub listing : length to'.list.now ≡ length to.list.now
  pub same : to'.list.ghost_name ≡ to.list.ghost_name

-- the number that an entry stops the run with: 0 where it is carried out
abbrev pub turn_number : Result Bool Refusal → ℕ
turn_number (Ok stays) = 0
turn_number (Err f) = refusal_number f

-- and the entries done after it: one more, or none
abbrev pub done_after : Result Bool Refusal → ℕ → ℕ
done_after (Ok stays) k = k + 1
done_after (Err f) k = k

-- a run with what its bench holds
abbrev pub in_run : {H : Type 0} → H → ℕ → Bool → Run H
in_run held entries t = record { held = held; entries = entries; traced = t }

-- `!`: whether a further step follows
unfoldable pub gone_on : (M : Machine) → Entry → Progress M → Bool
gone_on M (StartLl p) s = false
gone_on M (StartVl p) s = false
gone_on M (StartSc p k) s = false
gone_on M (Step p) s = false
gone_on M (Finish p) s = unanswered M p s

-- whether the entry stays, where the run goes on
abbrev pub stays_as : (M : Machine) → Entry → Result Bool Refusal → Progress M → Type 0
stays_as M e (Ok stays) s = gone_on M e s ≡ stays
stays_as M e (Err f) s = Unit {0}

-- one step of an entry: what it makes of the run, and whether it stays
pub record Turned (M : Machine) (e : Entry) (s : Progress M) (out : Result Bool Refusal) (s' : Progress M) : Type 0 where
  pub same : s' ≡ single M e s
  pub stays : stays_as M e out s'

-- the list is carried out, or an entry of it stopped the run
pub record Over (M : Machine) (es : List Entry) (first : Progress M) (at : ℕ) (now : Progress M) : Type 0 where
  pub same : now ≡ carry_all M es first
  pub index : at ≡ stop_index M es first
