-- Row 9 never holds: the numbers of related memory are in range, with no bound on the successes.
use mathlib.Core.Path.{◌≡◌, refl, ap₂, subst}
use mathlib.Core.Bool.{Bool, true, false, ◌&&◌, cond}
use Prim.Native.Nat.{ℕ, ◌<◌}
use native.Mathlib.Omega.{arith}
use lib.Dec.{leb}
use lib.ListN.{take}
use lib.Seq.{length-take-le, get_or-take}
use borrow.Author.Tests.{lt-ltb, le-leb}
use Rattle.llsc.specs.Rows.{every}
use Rattle.laws.proofs.ListFacts.{every_true}
use Rattle.moir_model.specs.Sizes.{busy_most}
use Rattle.moir_model.specs.Tags.{tag_values}
use Rattle.moir_model.specs.Points.{Point, idle, ll10, ll2, ll4, ll5, ll6, ll7, sc14, sc17, sc19, sc2, sc4, sc5, sc6, sc7, vl13}
use Rattle.moir_model.specs.Records.{no_process}
use Rattle.moir_model.specs.Machine.{Memory}
use Rattle.moir_model.specs.Refusals.{count_ok, process_ok, in_range}
use Rattle.moir_linearization.proofs.PointRanges.{is_idle}
use Rattle.moir_linearization.proofs.PointFacts.{line_ok}
use Rattle.moir_linearization.proofs.GhostMachine.{Local, Shared, State}
use Rattle.moir_linearization.proofs.Numbers.{ProcessNumbers}
use Rattle.moir_linearization.proofs.InvariantRuns.{idle_is}
use Rattle.moir_linearization.proofs.Counts.{most_at, most_low, count_below}
use Rattle.moir_linearization.proofs.Ranges.{LowNumbers, Sound}
use Rattle.moir_linearization.proofs.Relation.{record_of, Related}

module _ (N W n : ℕ) (h_w : 0 < W) where
  -- "word place below W"
  word_low : (M : ℕ) (y : Point) (h : Shared) (q : ℕ) (l : Local) → ProcessNumbers M W n y h q l → l.word < W
  word_low M idle h q l a = let z = a.no_run in omega arith
  word_low M ll10 h q l a = let z = a.no_run in omega arith
  word_low M ll2 h q l a = a.in_ll
  word_low M ll4 h q l a = a.in_ll
  word_low M ll5 h q l a = a.in_ll
  word_low M ll6 h q l a = a.in_ll
  word_low M ll7 h q l a = a.in_ll
  word_low M sc14 h q l a = let z = a.no_run in omega arith
  word_low M sc17 h q l a = a.in_17
  word_low M sc19 h q l a = let z = a.no_run_19 in omega arith
  word_low M sc2 h q l a = a.in_copy
  word_low M sc4 h q l a = a.in_copy
  word_low M sc5 h q l a = a.in_copy
  word_low M sc6 h q l a = a.in_copy
  word_low M sc7 h q l a = a.in_copy
  word_low M vl13 h q l a = let z = a.no_run in omega arith

  -- "busy count at most 6W+1", and an idle one 0
  count_ok_is : (l : Local) → l.count < most_at W l.point → count_ok W (record_of l) ≡ true
  count_ok_is l c = go (is_idle l.point) refl
    where
      go : (b : Bool) → is_idle l.point ≡ b → leb l.count (cond b 0 (busy_most W)) ≡ true
      go true e = le-leb l.count 0 (let z : l.count < 1 = subst (λ y. l.count < most_at W y) (idle_is l.point e) c in omega arith)
      go false e = le-leb l.count (busy_most W) (let z = most_low W l.point in omega arith)

  process_ok_is : (l : Local) → LowNumbers N l → l.word < W → l.count < most_at W l.point → process_ok N W (record_of l) ≡ true
  process_ok_is l r w c =
      ap₂ ◌&&◌ (lt-ltb _ _ r.x_low) (ap₂ ◌&&◌ (lt-ltb _ _ r.old_low) (ap₂ ◌&&◌ (lt-ltb _ _ r.new_low) (ap₂ ◌&&◌ (lt-ltb _ _ r.h_low)
      (ap₂ ◌&&◌ (line_ok l.point) (ap₂ ◌&&◌ (lt-ltb _ _ w) (count_ok_is l c))))))

  pub in_range_lem : (m : Memory) (s : State) → Related N W m s → Sound N tag_values W n s → in_range m ≡ true
  unfolding in_range
  in_range_lem m s r i = rw (r.bench.n, r.bench.w, r.bench.header) (ap₂ ◌&&◌ (lt-ltb _ _ i.ranges.all) processes)
    where
      processes : every (process_ok N W) (take N m.records) ≡ true
      processes = every_true (process_ok N W) no_process (take N m.records) (λ j hj.
          let y = length-take-le N m.records r.records_length in let h : j < N = omega arith in
          rw (get_or-take N m.records j no_process h, r.process j h)
          (process_ok_is (s.loc j) (i.ranges.each j)
          (word_low tag_values (s.loc j).point s.sh j (s.loc j) (i.numbers.each j))
          (count_below tag_values W n h_w s j i.counts i.numbers)))
