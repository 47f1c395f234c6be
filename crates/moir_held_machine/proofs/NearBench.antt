-- A command reads and writes no other tag than that of the segment at its word place.
use mathlib.Core.Path.{◌≡◌, refl}
use mathlib.Core.List.{List}
use Prim.Native.Nat.{ℕ, ◌<◌}
use native.Mathlib.Omega.{arith}
use lib.ListN.{get_or, set, replicate, length-set}
use lib.Seq.{get_or-set_same}
use Rattle.std.proofs.lemmas.List.{set-get_or}
use Rattle.llsc.specs.declared.Order.{Order}
use Rattle.llsc.specs.declared.Order.TheVariants.{StartLl, StartSc, StartVl, Step}
use Rattle.llsc.specs.declared.ProcessNumber.{ProcessNumber}
use Rattle.moir_model.specs.declared.Bench.{Bench}
use Rattle.moir_model.specs.declared.Process.{Process}
use Rattle.moir_model.specs.declared.Moved.{Moved}
use Rattle.moir_model.specs.Points.{Point, point_of, idle, ll10, ll2, ll4, ll5, ll6, ll7, sc14, sc17, sc19, sc2, sc4, sc5, sc6, sc7, vl13}
use Rattle.moir_model.specs.Words.{segment_at}
use Rattle.moir_model.specs.Lines.{do_line5}
use Rattle.moir_model.specs.Machine.{step_at, obey}
use Rattle.moir_held_machine.specs.Writes.{near_bench, put_near}

module _ (p : ProcessNumber) (b : Bench) (q : Process) (ws : List ℕ) (small : q.word < 64) where
  abbrev k : ℕ
  k = q.word

  abbrev g : ℕ
  g = get_or b.tags k 0

  abbrev none : List ℕ
  none = replicate 64 0

  abbrev near : Bench
  near = near_bench b k

  -- what the near bench came to, put into the whole one
  abbrev back : Moved × List ℕ → Moved × List ℕ
  back out = (put_near b k out.0, out.1)

  same_tag : get_or (set none k g) k 0 ≡ g
  same_tag = get_or-set_same none k g 0 small

  same_tags : set b.tags k g ≡ b.tags
  same_tags = set-get_or b.tags k 0

  -- the tag that line 5 leaves
  abbrev t : ℕ
  t = (do_line5 (segment_at b ws k) q).tag

  new_tag : get_or (set (set none k g) k t) k 0 ≡ t
  new_tag = get_or-set_same (set none k g) k t 0 (omega (arith, small, length-set none k g))

  near_step : (y : Point) → step_at y p b q ws ≡ back (step_at y p near q ws)
  unfolding step_at
  near_step idle = rw (same_tag, same_tags) refl
  near_step ll10 = rw (same_tag, same_tags) refl
  near_step ll2 = rw (same_tag, same_tags) refl
  near_step ll4 = rw (same_tag, same_tags) refl
  near_step ll5 = rw (same_tag, new_tag) refl
  near_step ll6 = rw (same_tag, same_tags) refl
  near_step ll7 = rw (same_tag, same_tags) refl
  near_step sc14 = rw (same_tag, same_tags) refl
  near_step sc17 = rw (same_tag, same_tags) refl
  near_step sc19 = rw (same_tag, same_tags) refl
  near_step sc2 = rw (same_tag, same_tags) refl
  near_step sc4 = rw (same_tag, same_tags) refl
  near_step sc5 = rw (same_tag, new_tag) refl
  near_step sc6 = rw (same_tag, same_tags) refl
  near_step sc7 = rw (same_tag, same_tags) refl
  near_step vl13 = rw (same_tag, same_tags) refl

  pub near_obey : (o : Order) (value : List ℕ) → obey o p value b q ws ≡ back (obey o p value near q ws)
  unfolding obey
  near_obey StartLl value = rw (same_tag, same_tags) refl
  near_obey StartSc value = rw (same_tag, same_tags) refl
  near_obey StartVl value = rw (same_tag, same_tags) refl
  near_obey Step value = near_step (point_of q.line)
