-- The table of tags keeps the length of its declared type, whatever a set-up and commands do.
use mathlib.Core.Path.{◌≡◌, refl, ◌∙◌}
use mathlib.Core.Bool.{Bool, true, false, cond}
use mathlib.Core.List.{List}
use Prim.Native.Nat.{ℕ}
use lib.Dec.{eqb}
use lib.ListN.{length, replicate, length-set}
use lib.Seq.{length-sets}
use Rattle.llsc.specs.declared.ProcessNumber.{ProcessNumber}
use Rattle.llsc.specs.declared.Order.{Order}
use Rattle.llsc.specs.declared.Order.TheVariants.{StartLl, StartSc, StartVl, Step}
use Rattle.moir_model.specs.declared.Bench.{Bench}
use Rattle.moir_model.specs.declared.Process.{Process}
use Rattle.moir_model.specs.declared.Reply.{Reply}
use Rattle.moir_model.specs.declared.Reply.TheVariants.{Refused}
use Rattle.moir_model.specs.Records.{record_at}
use Rattle.moir_model.specs.Points.{Point, point_of, idle, ll10, ll2, ll4, ll5, ll6, ll7, sc14, sc17, sc19, sc2, sc4, sc5, sc6, sc7, vl13}
use Rattle.moir_model.specs.Machine.{Memory, Shaped, step_at, obey}
use Rattle.moir_model.specs.Command.{command, refusal, obeyed}
use Rattle.moir_model.specs.SetUp.{set_up, set_up_refusal, at_set_up}

module _ (p : ProcessNumber) (b : Bench) (q : Process) (ws : List ℕ) where
  abbrev SameLength : Bench → Type 0
  SameLength b' = length b'.tags ≡ length b.tags

  step_length : (y : Point) → SameLength (step_at y p b q ws).0.bench
  unfolding step_at
  step_length idle = refl
  step_length ll10 = refl
  step_length ll2 = refl
  step_length ll4 = refl
  step_length ll5 = length-set b.tags _ _
  step_length ll6 = refl
  step_length ll7 = refl
  step_length sc14 = refl
  step_length sc17 = refl
  step_length sc19 = refl
  step_length sc2 = refl
  step_length sc4 = refl
  step_length sc5 = length-set b.tags _ _
  step_length sc6 = refl
  step_length sc7 = refl
  step_length vl13 = refl

  obeyed_length : (o : Order) (value : List ℕ) → SameLength (obey o p value b q ws).0.bench
  unfolding obey
  obeyed_length StartLl value = refl
  obeyed_length StartSc value = refl
  obeyed_length StartVl value = refl
  obeyed_length Step value = step_length (point_of q.line)

pub command_shaped : (m : Memory) (p : ℕ) (o : Order) (value : List ℕ) → Shaped m → Shaped (command m p o value).1
unfolding command
command_shaped m p o value h = by (eqb (refusal m p o value) 0)
  where
    by : (t : Bool) → Shaped (cond {A = Reply × Memory} t (obeyed m (record { 0 = p }) o value) (Refused (refusal m p o value), m)).1
    by true = record { tags = obeyed_length (record { 0 = p }) m.bench (record_at m.records (record { 0 = p })) m.words o value ∙ h.tags }
    by false = h

pub set_up_shaped : (m : Memory) (n w : ℕ) (value : List ℕ) → Shaped m → Shaped (set_up m n w value).1
unfolding set_up
set_up_shaped m n w value h = by (eqb (set_up_refusal m n w value) 0)
  where
    by : (t : Bool) → Shaped (cond t (at_set_up m n w value) m)
    by true = record { tags = length-sets m.bench.tags 0 (replicate w 0) ∙ h.tags }
    by false = h
