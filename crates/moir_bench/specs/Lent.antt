-- Lent memory as the model sees it: one line, which the contracts of the entries cite.
use Rattle.std.specs.Prelude.{ℕ, List}
use Rattle.moir_model.specs.declared.Bench.{Bench}
use Rattle.moir_model.specs.declared.Process.{Process}
use Rattle.moir_model.specs.Machine.{Memory}

-- all lent memory
abbrev pub memory : Bench → List Process → List ℕ → Memory
memory b rs ws = record { bench = b; records = rs; words = ws }
