-- Commands to a station written short, and memory lent to it, full of dirt that a set-up must not read.
use Prim.Native.Nat.{ℕ}
use mathlib.Core.List.{List, [], ◌∷◌}
use lib.ListN.{replicate}
use Rattle.llsc.specs.declared.Order.TheVariants.{StartLl, StartSc, StartVl, Step}
use Rattle.model.specs.SetUp.{x_at_set_up, bank_at_set_up, help_at_set_up}
use Rattle.station.specs.declared.StationProcess.{StationProcess}
use Rattle.station.specs.Station.{StationMemory, no_holding}
use Rattle.station.specs.StationRefusals.{StationOrder}

-- process p starts an LL, a VL, an SC of the words ws, on record j; and makes n steps, whichever record is named
abbrev pub l : ℕ → ℕ → List StationOrder
l p j = record { process = p; order = StartLl; called = j; value = [] } ∷ []

abbrev pub v : ℕ → ℕ → List StationOrder
v p j = record { process = p; order = StartVl; called = j; value = [] } ∷ []

abbrev pub s : ℕ → ℕ → List ℕ → List StationOrder
s p j ws = record { process = p; order = StartSc; called = j; value = ws } ∷ []

abbrev pub steps : ℕ → ℕ → List StationOrder
steps n p = replicate n (record { process = p; order = Step; called = 9; value = [] })

-- lent: eight records, three processes, 40 words
abbrev dirty_process : StationProcess
dirty_process = record {
  holdings = replicate 8 no_holding;
  called = record { 0 = 5 };
  line = 4;
  word = 3;
  count = 2;
  b = record { 0 = 99 };
  c = record { 0 = 99 };
  d = record { 0 = 99 };
  e = record { 0 = 99 };
}

abbrev pub dirty : StationMemory
dirty = record {
  n = 3;
  w = 9;
  r = 7;
  tables = replicate 8 (record { x = x_at_set_up; bank = replicate 32 (bank_at_set_up 77); help = replicate 16 help_at_set_up });
  processes = replicate 3 dirty_process;
  words = replicate 40 4;
}
