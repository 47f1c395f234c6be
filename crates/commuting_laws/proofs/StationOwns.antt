-- What a process has for itself: put and found, no part of an item or of another process, and puts change places.
use mathlib.Core.Path.{◌≡◌, refl, sym, ap, ap₂, ◌∙◌}
use mathlib.Core.Logic.{◌≢◌}
use mathlib.Core.List.{List}
use Prim.Native.Nat.{ℕ, ◌<◌}
use native.Mathlib.Omega.{arith}
use lib.ListN.{set, length-set}
use lib.Seq.{set_comm, get_or-set_same, get_or-set_other}
use Rattle.llsc.specs.declared.ProcessNumber.{ProcessNumber}
use Rattle.station.specs.declared.StationProcess.{StationProcess}
use Rattle.station.specs.Station.{StationMemory, no_station_process, process_at, layout_of}
use Rattle.station.specs.Projection.{bench_of}
use Rattle.doings.specs.Items.{Holding}
use Rattle.doings.specs.Own.{Own, own_in, put_areas}
use Rattle.doings.proofs.AreaLaws as area
use Rattle.doings.proofs.AreaLaws.{Areas, item_areas, item_areas_swap, areas_item, areas_other, areas_swap, areas_length}
use Rattle.commuting_laws.specs.Parts.{StationItem, InStation, item_of, put_item, any_record, own_of, put_own}
use Rattle.commuting_laws.proofs.StationParts.{Sized, laid}

module _ (s : StationMemory) (z : Sized s) (p : ProcessNumber) (hp : p.0 < s.n) where
  -- beside an item
  pub item_own : (i : StationItem) → InStation s i → (h : Holding) → own_of (put_item i h s) p ≡ own_of s p
  item_own i k h =
      item_areas (laid s.n s.r i.number k.number) s.w p hp s.words (bench_of s i.number) refl refl i.item k.item h (process_at s p.0)

  module _ (o : Own StationProcess) (f : Areas s.w o) where
    pub own_item : (i : StationItem) → InStation s i → item_of i (put_own p o s) ≡ item_of i s
    own_item i k = areas_item (laid s.n s.r i.number k.number) s.w p hp s.words (bench_of s i.number) refl refl o f i.item k.item

    pub item_own_swap : (i : StationItem) → InStation s i → (h : Holding) → put_item i h (put_own p o s) ≡ put_own p o (put_item i h s)
    item_own_swap i k h =
        ap (λ (ws : List ℕ). record { n = s.n; w = s.w; r = s.r; tables = (put_item i h s).tables; processes = set s.processes p.0 o.process; words = ws })
        (item_areas_swap (laid s.n s.r i.number k.number) s.w p hp s.words (bench_of s i.number) refl refl o f i.item k.item h)

    -- found again
    pub own_put : own_of (put_own p o s) p ≡ o
    own_put =
        ap (λ (q : StationProcess). own_in (layout_of s any_record) s.w p q (put_areas (layout_of s any_record) s.w p o s.words))
        (get_or-set_same s.processes p.0 o.process no_station_process (omega (arith, z.processes)))
        ∙ area.own_put (laid s.n s.r any_record z.r_some) s.w p hp s.words z.words o f

    pub own_sized : Sized (put_own p o s)
    own_sized = record {
      tables = z.tables;
      bank = z.bank;
      help = z.help;
      n_most = z.n_most;
      n_some = z.n_some;
      r_most = z.r_most;
      r_some = z.r_some;
      wide = z.wide;
      words = omega (arith, z.words, areas_length (laid s.n s.r any_record z.r_some) s.w p hp s.words o);
      processes = omega (arith, z.processes, length-set s.processes p.0 o.process);
    }

    -- of two processes
    module _ (q : ProcessNumber) (hq : q.0 < s.n) (ne : q.0 ≢ p.0) where
      pub own_other : own_of (put_own p o s) q ≡ own_of s q
      own_other =
          ap (λ (x : StationProcess). own_in (layout_of s any_record) s.w q x (put_own p o s).words) (get_or-set_other s.processes p.0 q.0 o.process no_station_process ne)
          ∙ areas_other (laid s.n s.r any_record z.r_some) s.w p q hp hq ne s.words o f (process_at s q.0)

      pub owns_swap : (g : Own StationProcess) → Areas s.w g → put_own q g (put_own p o s) ≡ put_own p o (put_own q g s)
      owns_swap g y =
          ap₂ (λ (ps : List StationProcess) (ws : List ℕ). record { n = s.n; w = s.w; r = s.r; tables = s.tables; processes = ps; words = ws })
          (set_comm s.processes p.0 q.0 o.process g.process (λ e. ne (sym e)))
          (areas_swap (laid s.n s.r any_record z.r_some) s.w p q hp hq ne s.words o f g y)
