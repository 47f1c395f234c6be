-- The command by value: `list` is the lent records with a filler after them, `len` how many were lent.
-- Inner: `DecisionLaws` proves that this, stored back, is `moir_model`'s command.
use Rattle.std.specs.Prelude.{◌≡◌, ℕ, List, Result, Ok, Err, length, set}
use Rattle.llsc.specs.declared.Order.{Order}
use Rattle.llsc.specs.declared.refusals.Refusal.{Refusal}
use Rattle.llsc.specs.Refusals.{refusal_number}
use Rattle.moir_model.specs.declared.Bench.{Bench}
use Rattle.moir_model.specs.declared.Process.{Process}
use Rattle.moir_model.specs.declared.Reply.{Reply}
use Rattle.moir_model.specs.declared.Reply.TheVariants.{Refused}
use Rattle.moir_model.specs.declared.Moved.{Moved}
use Rattle.moir_model.specs.Records.{record_at}
use Rattle.moir_model.specs.Machine.{Memory, obey}
use Rattle.moir_rows.specs.CommandRows.{decision_number}

-- where no row holds the order is obeyed; else the first that holds refuses it, and the words stay
abbrev pub Decides : Bench → List Process → ℕ → ℕ → Order → List ℕ → List ℕ → Result Moved Refusal → List ℕ → Type 0
Decides b list len p o value words (Ok m) words' =
    (decision_number b list len p o (length value) (length words) ≡ 0) ×
    ((m, words') ≡ obey o (record { 0 = p }) value b (record_at list (record { 0 = p })) words)
Decides b list len p o value words (Err r) words' =
    (decision_number b list len p o (length value) (length words) ≡ refusal_number r) × (words' ≡ words)

-- the reply and all lent memory, once the caller has stored the bench and the record of an obeyed order
abbrev pub stored_back : Bench → List Process → ℕ → Result Moved Refusal → List ℕ → Reply × Memory
stored_back b rs p (Ok m) words = (m.reply, record { bench = m.bench; records = set rs p m.process; words = words })
stored_back b rs p (Err r) words = (Refused (refusal_number r), record { bench = b; records = rs; words = words })
