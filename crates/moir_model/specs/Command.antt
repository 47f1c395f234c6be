-- The command: refused with the first row that holds, and then nothing changes; or obeyed.
use Rattle.std.specs.Prelude.{ℕ, List, cond, eqb, set}
use Rattle.llsc.specs.declared.ProcessNumber.{ProcessNumber}
use Rattle.llsc.specs.declared.Order.{Order}
use Rattle.llsc.specs.Rows.{first}
use Rattle.moir_model.specs.declared.Reply.{Reply}
use Rattle.moir_model.specs.declared.Reply.TheVariants.{Refused}
use Rattle.moir_model.specs.declared.Moved.{Moved}
use Rattle.moir_model.specs.Records.{record_at}
use Rattle.moir_model.specs.Machine.{Memory, obey}
use Rattle.moir_model.specs.Refusals.{command_rows}

-- what process p's part of a command leaves, put back into all lent memory
abbrev pub put_back : Memory → ProcessNumber → Moved × List ℕ → Reply × Memory
put_back m p out = (out.0.reply, record { bench = out.0.bench; records = set m.records p.0 out.0.process; words = out.1 })

abbrev pub obeyed : Memory → ProcessNumber → Order → List ℕ → Reply × Memory
obeyed m p o value = put_back m p (obey o p value m.bench (record_at m.records p) m.words)

-- the number of a refusal, 0 for none
unfoldable pub refusal : Memory → ℕ → Order → List ℕ → ℕ
refusal m p o value = first (command_rows m p o value)

-- Process p, any number, is given the order o with the words `value`.
unfoldable pub command : Memory → ℕ → Order → List ℕ → Reply × Memory
command m p o value = cond (eqb (refusal m p o value) 0) (obeyed m (record { 0 = p }) o value) (Refused (refusal m p o value), m)
