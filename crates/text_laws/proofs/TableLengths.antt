-- Bank and Help keep the lengths of their declared types, whatever a set-up and commands do.
use mathlib.Core.Path.{◌≡◌, refl, sym, subst, ◌∙◌}
use mathlib.Core.Bool.{Bool, true, false, cond}
use mathlib.Core.List.{List, [], ◌∷◌, map}
use Prim.Native.Nat.{ℕ, ◌*◌}
use lib.Dec.{eqb}
use lib.ListN.{length, replicate, length-set}
use lib.Seq.{length-sets}
use Rattle.llsc.specs.declared.ProcessNumber.{ProcessNumber}
use Rattle.model.specs.declared.Bench.{Bench}
use Rattle.model.specs.declared.Process.{Process}
use Rattle.llsc.specs.declared.Order.{Order}
use Rattle.llsc.specs.declared.Order.TheVariants.{StartLl, StartSc, StartVl, Step}
use Rattle.model.specs.declared.Reply.{Reply}
use Rattle.model.specs.declared.Reply.TheVariants.{Refused}
use Rattle.model.specs.Records.{record_at}
use Rattle.model.specs.Points.{Point, point_of, idle, line1, line2, line3, line4, line5, line6, line7, line7copy, line8, line9, line10}
use Rattle.model.specs.Points.{line11, line12, line12valid, line13, line14, line14valid, line15, line17, line18, line19, line23}
use Rattle.model.specs.Machine.{Memory, Shaped, step_at, obey}
use Rattle.model.specs.Command.{command, refusal, obeyed}
use Rattle.model.specs.SetUp.{set_up, set_up_refusal, bank_at_set_up, help_at_set_up, numbers}
use Rattle.llsc.specs.History.{Command}
use Rattle.after_commands.specs.After.{after}
use Rattle.text_model.specs.Reached.{Reached}

-- the tables are as long as before
record SameLengths (b b' : Bench) : Type 0 where
  bank : length b'.bank ≡ length b.bank
  help : length b'.help ≡ length b.help

module _ (p : ProcessNumber) (b : Bench) (q : Process) (ws : List ℕ) where
  step_lengths : (y : Point) → SameLengths b (step_at y p b q ws).0.bench
  unfolding step_at
  step_lengths idle = record { bank = refl; help = refl }
  step_lengths line1 = record { bank = refl; help = length-set b.help _ _ }
  step_lengths line2 = record { bank = refl; help = refl }
  step_lengths line3 = record { bank = refl; help = refl }
  step_lengths line4 = record { bank = refl; help = length-set b.help _ _ }
  step_lengths line5 = record { bank = refl; help = refl }
  step_lengths line6 = record { bank = refl; help = refl }
  step_lengths line7 = record { bank = refl; help = refl }
  step_lengths line7copy = record { bank = refl; help = refl }
  step_lengths line8 = record { bank = refl; help = length-set b.help _ _ }
  step_lengths line9 = record { bank = refl; help = length-set b.help _ _ }
  step_lengths line10 = record { bank = refl; help = length-set b.help _ _ }
  step_lengths line11 = record { bank = refl; help = refl }
  step_lengths line12 = record { bank = length-set b.bank _ _; help = refl }
  step_lengths line12valid = record { bank = refl; help = refl }
  step_lengths line13 = record { bank = length-set b.bank _ _; help = refl }
  step_lengths line14 = record { bank = refl; help = length-set b.help _ _ }
  step_lengths line14valid = record { bank = refl; help = refl }
  step_lengths line15 = record { bank = refl; help = length-set b.help _ _ }
  step_lengths line17 = record { bank = refl; help = refl }
  step_lengths line18 = record { bank = length-set b.bank _ _; help = refl }
  step_lengths line19 = record { bank = refl; help = refl }
  step_lengths line23 = record { bank = refl; help = refl }

  obeyed_lengths : (o : Order) (value : List ℕ) → SameLengths b (obey o p value b q ws).0.bench
  unfolding obey step_at
  obeyed_lengths StartLl value = record { bank = refl; help = refl }
  obeyed_lengths StartSc value = record { bank = refl; help = refl }
  obeyed_lengths StartVl value = record { bank = refl; help = refl }
  obeyed_lengths Step value = step_lengths (point_of q.line)

still : {m m' : Memory} → SameLengths m.bench m'.bench → Shaped m → Shaped m'
still l s = record { bank = l.bank ∙ s.bank; help = l.help ∙ s.help }

-- either of two memories
either : (t : Bool) {m m' : Memory} → Shaped m → Shaped m' → Shaped (cond t m m')
either true s s' = s
either false s s' = s'

either_reply : (t : Bool) (x y : Reply × Memory) → Shaped x.1 → Shaped y.1 → Shaped (cond t x y).1
either_reply true x y s s' = s
either_reply false x y s s' = s'

shaped_set_up : (m : Memory) (n w : ℕ) (value : List ℕ) → Shaped m → Shaped (set_up m n w value).1
unfolding set_up
shaped_set_up m n w value s =
    let bank = length-sets m.bench.bank 0 (map bank_at_set_up (numbers 0 (2 * n))) in
    let help = length-sets m.bench.help 0 (replicate n help_at_set_up) in
    either (eqb (set_up_refusal m n w value) 0) (still (record { bank = bank; help = help }) s) s

shaped_command : (m : Memory) (c : Command) → Shaped m → Shaped (command m c.process c.order c.value).1
unfolding command
shaped_command m c s =
    let number = refusal m c.process c.order c.value in
    let done = obeyed m (record { 0 = c.process }) c.order c.value in
    let lengths = obeyed_lengths (record { 0 = c.process }) m.bench (record_at m.records (record { 0 = c.process })) m.words c.order c.value in
    either_reply (eqb number 0) done (Refused number, m) (still lengths s) s

shaped_after : (cs : List Command) (m : Memory) → Shaped m → Shaped (after m cs)
unfolding after
shaped_after [] m s = s
shaped_after (c ∷ cs) m s = shaped_after cs _ (shaped_command m c s)

pub reached_shaped : {m : Memory} → Reached m → Shaped m
reached_shaped r = subst Shaped (sym r.is) (shaped_after r.commands _ (shaped_set_up r.lent r.n r.w r.value r.shaped))
