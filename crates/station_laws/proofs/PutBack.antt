-- A bench that is put back: its own record shows it, the other records stay.
use mathlib.Core.Path.{◌≡◌, refl, ap, ap₂, ◌∙◌}
use mathlib.Core.Bool.{Bool, true, false, not, ◌&&◌, cond}
use mathlib.Core.List.{List}
use Prim.Native.Nat.{ℕ, ◌<◌}
use lib.Dec.{eqb}
use lib.ListN.{length}
use lib.Seq.{get_or-set_same, get_or-set_other}
use borrow.Author.Tests.{eq-eqb}
use Rattle.model.specs.declared.Process.{Process}
use Rattle.model.specs.declared.Moved.{Moved}
use Rattle.laws.proofs.Updates.{Split, same, other, split}
use Rattle.station.specs.declared.RecordNumber.{RecordNumber}
use Rattle.station.specs.declared.StationProcess.{StationProcess}
use Rattle.station.specs.declared.Holding.{Holding}
use Rattle.station.specs.Station.{StationMemory, no_tables, no_holding, no_station_process, tables_at, holding_at, process_at}
use Rattle.station.specs.Projection.{process_of, put_tables, put_process, embed}

-- the process record: record j sees what was put
not_elsewhere : (k j : ℕ) → not (eqb k 0) && not (eqb (cond (eqb k 0) 0 j) j) ≡ false
not_elsewhere k j = go (eqb k 0)
  where
    go : (b : Bool) → not b && not (eqb (cond b 0 j) j) ≡ false
    go true = refl
    go false = ap not (eq-eqb j j refl)

pub process_back : (j : RecordNumber) (q : StationProcess) (u : Process) → j.0 < length q.holdings → process_of j (put_process j q u) ≡ u
process_back j q u h =
    ap₂ (λ (a : Holding) (b : Bool). record {
      mybuf =
          a.mybuf;
      x = a.x;
      line = cond b 0 u.line;
      word = cond b 0 u.word;
      count = cond b 0 u.count;
      answered = a.answered;
      b = u.b;
      c = u.c;
      d = u.d;
      e = u.e;
    })
    (get_or-set_same q.holdings j.0 (record { mybuf = u.mybuf; x = u.x; answered = u.answered }) no_holding h) (not_elsewhere u.line j.0)

module _ (s : StationMemory) (j : RecordNumber) (p : ℕ) (out : Moved × List ℕ) where
  abbrev after : StationMemory
  after = (embed s j p out).1

  -- its own record
  pub tables_back : j.0 < length s.tables → tables_at after j ≡ put_tables out.0.bench
  tables_back h = get_or-set_same s.tables j.0 (put_tables out.0.bench) no_tables h

  -- the others
  pub tables_other : (i : RecordNumber) → (i.0 ≡ j.0 → ⊥) → tables_at after i ≡ tables_at s i
  tables_other i ne = get_or-set_other s.tables j.0 i.0 (put_tables out.0.bench) no_tables ne

  pub process_other : (q : ℕ) → (q ≡ p → ⊥) → process_at after q ≡ process_at s q
  process_other q ne = get_or-set_other s.processes p q (put_process j (process_at s p) out.0.process) no_station_process ne

  pub process_put : p < length s.processes → process_at after p ≡ put_process j (process_at s p) out.0.process
  process_put h = get_or-set_same s.processes p (put_process j (process_at s p) out.0.process) no_station_process h

  pub holding_other : p < length s.processes → (i : RecordNumber) → (i.0 ≡ j.0 → ⊥) → (q : ℕ) → holding_at (process_at after q) i ≡ holding_at (process_at s q) i
  holding_other h i ne q = go (split q p)
    where
      go : Split q p → holding_at (process_at after q) i ≡ holding_at (process_at s q) i
      go (same e) = rw e (ap (λ u. holding_at u i) (process_put h) ∙ get_or-set_other (process_at s p).holdings j.0 i.0 _ no_holding ne)
      go (other n) = ap (λ u. holding_at u i) (process_other q n)
