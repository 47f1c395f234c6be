-- Moir's command and its set-up are refused exactly where a row of the table holds.
use mathlib.Core.Path.{◌≡◌, refl, sym, ap, ◌∙◌}
use mathlib.Core.Bool.{Bool, true, false, cond}
use mathlib.Core.List.{List}
use Prim.Native.Nat.{ℕ, ◌+◌}
use lib.Dec.{eqb, ltb}
use borrow.Author.Tests.{ne_eqb}
use Rattle.llsc.specs.Rows.{first}
use Rattle.llsc.specs.History.{Command}
use Rattle.llsc.specs.declared.ProcessNumber.{ProcessNumber}
use Rattle.llsc.specs.declared.Order.{Order}
use Rattle.llsc.specs.declared.Order.TheVariants.{StartLl, StartSc, StartVl, Step}
use Rattle.moir_model.specs.declared.Bench.{Bench}
use Rattle.moir_model.specs.declared.Process.{Process}
use Rattle.moir_model.specs.declared.Reply.{Reply}
use Rattle.moir_model.specs.declared.Reply.TheVariants.{Refused}
use Rattle.moir_model.specs.Replies.{number_of}
use Rattle.moir_model.specs.Points.{Point, point_of, idle, ll10, ll2, ll4, ll5, ll6, ll7}
use Rattle.moir_model.specs.Points.{sc14, sc17, sc19, sc2, sc4, sc5, sc6, sc7, vl13}
use Rattle.moir_model.specs.declared.LineStep.{LineStep}
use Rattle.moir_model.specs.declared.Moved.{Moved}
use Rattle.moir_model.specs.Records.{record_at}
use Rattle.moir_model.specs.Lines.{same_header, saves}
use Rattle.moir_model.specs.Machine.{Memory, step_at, obey}
use Rattle.moir_model.specs.Refusals.{command_rows, set_up_rows}
use Rattle.moir_model.specs.Command.{refusal, command, obeyed}
use Rattle.moir_model.specs.SetUp.{at_set_up, set_up_refusal, set_up}
use Rattle.promises.specs.MoirPromises.{RefusedExactly, SetUpRefusedExactly}
use Rattle.promises.proofs.RefusalLaws.{some_first, none_first}

either : (t : Bool) (a b : LineStep) → number_of a.reply ≡ 0 → number_of b.reply ≡ 0 → number_of (cond t a b).reply ≡ 0
either true a b e f = e
either false a b e f = f

module _ (p : ProcessNumber) (b : Bench) (q : Process) (ws : List ℕ) where
  abbrev replied : Moved × List ℕ → ℕ
  replied out = number_of out.0.reply

  step_replies : (y : Point) → replied (step_at y p b q ws) ≡ 0
  unfolding step_at
  step_replies idle = refl
  step_replies ll10 = refl
  step_replies ll2 = refl
  step_replies ll4 = refl
  step_replies ll5 = refl
  step_replies ll6 = refl
  step_replies ll7 = either (saves b.header q) _ _ (either (ltb (q.word + 1) b.w) _ _ refl refl) refl
  step_replies sc14 = either (eqb b.header.tag q.keep) _ _ refl refl
  step_replies sc17 = refl
  step_replies sc19 = either (same_header b.header q.oldhdr) _ _ refl refl
  step_replies sc2 = refl
  step_replies sc4 = refl
  step_replies sc5 = refl
  step_replies sc6 = refl
  step_replies sc7 = either (same_header b.header q.newhdr) _ _ (either (ltb (q.word + 1) b.w) _ _ refl refl) refl
  step_replies vl13 = refl

  obeyed_replies : (o : Order) (value : List ℕ) → replied (obey o p value b q ws) ≡ 0
  unfolding obey
  obeyed_replies StartLl value = refl
  obeyed_replies StartSc value = refl
  obeyed_replies StartVl value = refl
  obeyed_replies Step value = step_replies (point_of q.line)

module _ (m : Memory) (c : Command) where
  abbrev number : ℕ
  number = refusal m c.process c.order c.value

  number_is : number ≡ first (command_rows m c.process c.order c.value)
  unfolding refusal
  number_is = refl

  pub obeys : number ≡ 0 → command m c.process c.order c.value ≡ obeyed m (record { 0 = c.process }) c.order c.value
  unfolding command
  obeys e = simp (e)

  refuses : (number ≡ 0 → ⊥) → command m c.process c.order c.value ≡ (Refused number, m)
  unfolding command
  refuses h = simp (ne_eqb number 0 h)

  told_as : {i k : ℕ} → i ≡ k → ◌≡◌ {A = Reply × Memory} (Refused i, m) (Refused k, m)
  told_as e = ap (λ (k : ℕ). (Refused k, m)) e

  accepted_number : number ≡ 0 → number_of (command m c.process c.order c.value).0 ≡ 0
  accepted_number e =
      let q = record_at m.records (record { 0 = c.process }) in
      ap (λ (out : Reply × Memory). number_of out.0) (obeys e)
      ∙ obeyed_replies (record { 0 = c.process }) m.bench q m.words c.order c.value

  pub refused_exactly : RefusedExactly m c
  refused_exactly =
      let rows = command_rows m c.process c.order c.value in
      record {
        cause = λ h. refuses (λ z. some_first rows refl h (sym number_is ∙ z)) ∙ told_as number_is;
        told = some_first rows refl;
        no_cause = λ h. accepted_number (number_is ∙ none_first rows h);
      }

module _ (m : Memory) (n w : ℕ) (value : List ℕ) where
  abbrev told : ℕ
  told = set_up_refusal m n w value

  told_is : told ≡ first (set_up_rows m n w value)
  unfolding set_up_refusal
  told_is = refl

  refused : (told ≡ 0 → ⊥) → set_up m n w value ≡ (told, m)
  unfolding set_up
  refused h = simp (ne_eqb told 0 h)

  made : told ≡ 0 → set_up m n w value ≡ (0, at_set_up m n w value)
  unfolding set_up
  made e = simp (e)

  numbered_as : {i k : ℕ} → i ≡ k → ◌≡◌ {A = ℕ × Memory} (i, m) (k, m)
  numbered_as e = ap (λ (k : ℕ). (k, m)) e

  pub set_up_refused_exactly : SetUpRefusedExactly m n w value
  set_up_refused_exactly =
      let rows = set_up_rows m n w value in
      record {
        cause = λ h. refused (λ z. some_first rows refl h (sym told_is ∙ z)) ∙ numbered_as told_is;
        told = some_first rows refl;
        no_cause = λ h. made (told_is ∙ none_first rows h);
      }
