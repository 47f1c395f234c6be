-- The command by value: `list` is the lent records with a filler after them, `len` how many were lent.
-- Inner: `DecidedLaws` proves that this, stored back, is `model`'s command.
use Rattle.std.specs.Prelude.{ℕ, List, cond, eqb, length, set}
use Rattle.model.specs.declared.Bench.{Bench}
use Rattle.model.specs.declared.Process.{Process}
use Rattle.llsc.specs.declared.Order.{Order}
use Rattle.model.specs.declared.Reply.{Reply}
use Rattle.model.specs.declared.Reply.TheVariants.{Refused}
use Rattle.model.specs.declared.Moved.{Moved}
use Rattle.model.specs.Records.{no_process, record_at}
use Rattle.model.specs.Machine.{Memory, obey}
use Rattle.rows.specs.CommandRows.{decision_number}

-- what a command comes to: the record `process` is to be stored at place `at`
pub record Outcome : Type 0 where
  pub bench : Bench
  pub at : ℕ
  pub process : Process
  pub reply : Reply

-- A refusal names place `len`, where a store does nothing.
abbrev pub refused_outcome : Bench → ℕ → ℕ → Outcome
refused_outcome b len number = record { bench = b; at = len; process = no_process; reply = Refused number }

abbrev pub obeyed_outcome : Moved → ℕ → Outcome
obeyed_outcome m p = record { bench = m.bench; at = p; process = m.process; reply = m.reply }

abbrev pub obeyed_at : ℕ → Moved × List ℕ → Outcome × List ℕ
obeyed_at p out = (obeyed_outcome out.0 p, out.1)

unfoldable pub decided : Bench → List Process → ℕ → ℕ → Order → List ℕ → List ℕ → Outcome × List ℕ
decided b list len p o value words =
    cond (eqb (decision_number b list len p o (length value) (length words)) 0)
    (obeyed_at p (obey o (record { 0 = p }) value b (record_at list (record { 0 = p })) words))
    (refused_outcome b len (decision_number b list len p o (length value) (length words)), words)

-- the reply and all lent memory, once the caller has stored the outcome's record
abbrev pub stored_back : List Process → Outcome × List ℕ → Reply × Memory
stored_back rs out = (out.0.reply, record { bench = out.0.bench; records = set rs out.0.at out.0.process; words = out.1 })
