-- An accepted command is the effect of its doing, whose item is there: all that the theorems need of the machine.
use mathlib.Core.Path.{◌≡◌, refl, ap, ◌∙◌}
use mathlib.Core.Bool.{Bool}
use mathlib.Core.List.{List}
use Prim.Native.Nat.{ℕ, ◌<◌}
use lib.Seq.{set-get_or}
use Rattle.llsc.specs.declared.ProcessNumber.{ProcessNumber}
use Rattle.model.specs.declared.Bench.{Bench}
use Rattle.model.specs.declared.Process.{Process}
use Rattle.model.specs.Words.{Layout}
use Rattle.model.specs.Refusals.{process_ok}
use Rattle.serving.proofs.RefusalFacts.{and_true}
use Rattle.rows.proofs.RowLaws as row
use Rattle.station.specs.declared.RecordNumber.{RecordNumber}
use Rattle.station.specs.declared.Tables.{Tables}
use Rattle.station.specs.declared.StationProcess.{StationProcess}
use Rattle.station.specs.Station.{StationMemory, no_tables, process_at, layout_of}
use Rattle.station.specs.Projection.{bench_of, process_of, embed}
use Rattle.station.specs.StationRefusals.{StationOrder, record_for, called_ok}
use Rattle.station.specs.StationCommand.{station_command}
use Rattle.station_facts.proofs.Accepts.{Accepts, accepts, obeys, every_number}
use Rattle.doings.specs.declared.Item.{Item}
use Rattle.doings.specs.Own.{own_in}
use Rattle.doings.specs.Doings.{Touching, nothing, one, doing, outcome, effect}
use Rattle.doings.proofs.AreaLaws.{Areas}
use Rattle.doings.proofs.Figure2 as record_level
use Rattle.doings.proofs.Figure2.{Ranged, InsideT, order_follows}
use Rattle.commuting_laws.specs.Parts.{StationItem}
use Rattle.commuting_laws.specs.StationDoings.{on_record, number_of, does, outcome_of, effect_on}
use Rattle.commuting_laws.specs.Commuting.{Accepted}
use Rattle.commuting_laws.proofs.StationParts.{Sized, stands}
use Rattle.commuting_laws.proofs.Swaps.{PresentT, Exact}
use Rattle.commuting_laws.proofs.Lengths.{TableLengths}

pub record Made (s : StationMemory) (c : StationOrder) (t : Touching StationItem StationProcess) : Type 0 where
  pub sized : Sized s
  pub below : c.process < s.n
  pub made : station_command s c ≡ effect_on t (number_of c) s
  pub present : PresentT s t
  pub areas : Areas s.w (outcome_of t (number_of c) s).1
  pub exact : Exact s (number_of c) t

-- a doing on record j of s, by p
module _ (s : StationMemory) (j : RecordNumber) (hj : j.0 < s.r) (p : ProcessNumber) where
  abbrev l : Layout
  l = layout_of s j

  abbrev b : Bench
  b = bench_of s j

  abbrev q : StationProcess
  q = process_at s p.0

  -- its effect on the record, put back, is its effect on the station
  put_back : (t : Touching Item Process) → embed s j p.0 (effect l p t b s.words) ≡ effect_on (on_record j q t) p s
  put_back (nothing out) =
      let left = (embed s j p.0 (effect l p (nothing out) b s.words)).1 in
      ap (λ (ts : List Tables). (out.0, record { n = s.n; w = s.w; r = s.r; tables = ts; processes = left.processes; words = left.words }))
      (set-get_or s.tables j.0 no_tables)
  put_back (one d) = refl

  present : (t : Touching Item Process) → InsideT b t → PresentT s (on_record j q t)
  present (nothing out) k = tt
  present (one d) k = record { number = hj; item = k }

  areas_too : (t : Touching Item Process) → Areas s.w (outcome l p t b s.words).1 → Areas s.w (outcome_of (on_record j q t) p s).1
  areas_too (nothing out) f = record { returned = f.returned; offered = f.offered }
  areas_too (one d) f = record { returned = f.returned; offered = f.offered }

  exact_too : (t : Touching Item Process) → record_level.Exact l p b s.words t → Exact s p (on_record j q t)
  exact_too (nothing out) e = e
  exact_too (one d) e = e

sized : (s : StationMemory) → TableLengths s → (c : StationOrder) → Accepts s c → Sized s
sized s h c a = record {
  tables = h.tables;
  bank = h.bank;
  help = h.help;
  n_most = a.n_high;
  n_some = a.n_low;
  r_most = a.r_high;
  r_some = a.r_low;
  wide = a.w_low;
  words = a.words;
  processes = a.processes;
}

ranged : (s : StationMemory) (c : StationOrder) → Accepts s c → Ranged s.n s.w (process_of (record_for s c) (process_at s c.process)) (number_of c)
ranged s c a =
    let q = process_at s c.process in
    let ok : ℕ → Bool = λ k. process_ok s.n s.w (process_of (record { 0 = k }) q) in
    let here = every_number ok s.r (record_for s c).0 (and_true (called_ok s.r q) _ a.ranges).1 a.on in
    let k = row.in_range_lem s.n s.w (process_of (record_for s c) q) a.w_high here in
    record { process = a.below; mybuf = k.mybuf; x_buf = k.x_buf; x_seq = k.x_seq; b_buf = k.b_buf; word = k.word }

pub accepted_made : (s : StationMemory) → TableLengths s → (c : StationOrder) → Accepted s c → Made s c (does s c)
accepted_made s h c e =
    let a = accepts s c e in let z = sized s h c a in
    let j = record_for s c in let p = number_of c in
    let f = order_follows (stands s z j a.on) (ranged s c a) c.order c.value a.value in
    let t = doing c.order s.n s.w p c.value (own_in (layout_of s j) s.w p (process_of j (process_at s c.process)) s.words) in
    record {
      sized = z;
      below = a.below;
      made = obeys s c e ∙ ap (embed s j c.process) f.same ∙ put_back s j a.on p t;
      present = present s j a.on p t f.inside;
      areas = areas_too s j a.on p t f.areas;
      exact = exact_too s j a.on p t f.exact;
    }
