-- Every open call has fewer own steps than its kind's largest.
use mathlib.Core.Path.{refl}
use mathlib.Core.List.{List}
use Prim.Native.Nat.{ℕ, ◌<◌}
use Rattle.model.specs.Sizes.{halves}
use Rattle.model.specs.Points.{Point, idle, line1, line2, line3, line4, line5, line6, line7, line7copy, line8, line9}
use Rattle.model.specs.Points.{line10, line11, line12, line12valid, line13, line14, line14valid, line15, line17, line18}
use Rattle.model.specs.Points.{line19, line23}
use Rattle.llsc.specs.Object.{ll, sc, vl}
use Rattle.model.specs.Linearizable.{OpenCounted}
use Rattle.linearization.proofs.GhostMachine.{Local, Shared}
use Rattle.linearization.proofs.Invariants.{ProcessClauses}
use Rattle.linearization.proofs.Counts.{ProcessCount, open_count}
use Rattle.linearization.proofs.Slots.{slot_of}

module _ (N W : ℕ) (h_w : 0 < halves W) (n : ℕ) (h : Shared) (q : ℕ) (l : Local) (start : ℕ) (offered : List ℕ) where
  pub open_counted : (y : Point) → ProcessClauses N (halves W) n y h q l → ProcessCount N (halves W) h_w y (h.flag q) l → OpenCounted W (slot_of y start l.count offered)
  open_counted idle m c = tt
  open_counted line1 m c = open_count N W h_w ll n line1 h q l refl m c
  open_counted line2 m c = open_count N W h_w ll n line2 h q l refl m c
  open_counted line3 m c = open_count N W h_w ll n line3 h q l refl m c
  open_counted line4 m c = open_count N W h_w ll n line4 h q l refl m c
  open_counted line5 m c = open_count N W h_w ll n line5 h q l refl m c
  open_counted line6 m c = open_count N W h_w ll n line6 h q l refl m c
  open_counted line7 m c = open_count N W h_w ll n line7 h q l refl m c
  open_counted line7copy m c = open_count N W h_w ll n line7copy h q l refl m c
  open_counted line8 m c = open_count N W h_w ll n line8 h q l refl m c
  open_counted line9 m c = open_count N W h_w ll n line9 h q l refl m c
  open_counted line10 m c = open_count N W h_w ll n line10 h q l refl m c
  open_counted line11 m c = open_count N W h_w ll n line11 h q l refl m c
  open_counted line12 m c = open_count N W h_w (sc offered) n line12 h q l refl m c
  open_counted line12valid m c = open_count N W h_w (sc offered) n line12valid h q l refl m c
  open_counted line13 m c = open_count N W h_w (sc offered) n line13 h q l refl m c
  open_counted line14 m c = open_count N W h_w (sc offered) n line14 h q l refl m c
  open_counted line14valid m c = open_count N W h_w (sc offered) n line14valid h q l refl m c
  open_counted line15 m c = open_count N W h_w (sc offered) n line15 h q l refl m c
  open_counted line17 m c = open_count N W h_w (sc offered) n line17 h q l refl m c
  open_counted line18 m c = open_count N W h_w (sc offered) n line18 h q l refl m c
  open_counted line19 m c = open_count N W h_w (sc offered) n line19 h q l refl m c
  open_counted line23 m c = open_count N W h_w vl n line23 h q l refl m c
