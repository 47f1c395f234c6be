-- An order that is obeyed is not answered with a refusal, and a refusal has a number.
use mathlib.Core.Path.{◌≡◌, refl, sym, ap, ◌∙◌}
use mathlib.Core.Bool.{Bool, true, false, cond}
use mathlib.Core.List.{List}
use Prim.Native.Nat.{ℕ, zero, suc, ◌+◌}
use native.Mathlib.Omega.{arith}
use lib.Dec.{ltb}
use Rattle.std.specs.Prelude.{Result, Ok, Err}
use lib.ListN.{length}
use Rattle.llsc.specs.declared.ProcessNumber.{ProcessNumber}
use Rattle.llsc.specs.declared.Order.{Order}
use Rattle.llsc.specs.declared.Order.TheVariants.{StartLl, StartSc, StartVl, Step}
use Rattle.model.specs.declared.Bench.{Bench}
use Rattle.model.specs.declared.Process.{Process}
use Rattle.model.specs.declared.Reply.TheVariants.{Accepted, LlAnswered}
use Rattle.model.specs.Replies.{number_of}
use Rattle.model.specs.Sizes.{halves}
use Rattle.model.specs.Words.{Layout}
use Rattle.model.specs.Points.{Point, point_of, idle, line1, line2, line3, line4, line5, line6, line7, line7copy, line8, line9, line10}
use Rattle.model.specs.Points.{line11, line12, line12valid, line13, line14, line14valid, line15, line17, line18, line19, line23}
use Rattle.model.specs.Machine.{stepped_in, obey_in}
use Rattle.station.specs.declared.Station.{Station}
use Rattle.station.specs.declared.StationProcess.{StationProcess}
use Rattle.station_rows.specs.StationCommandRows.{station_number}
use Rattle.station_machine.specs.declared.Outcome.{Outcome}
use Rattle.station_machine.specs.StationDecision.{Decided, station_decided}
use Rattle.station_machine.proofs.StationObeyLaws.{refused_law, obeyed_law}
use Rattle.board_commands.proofs.CommandLaws.{refused_in}

-- the number that is told
abbrev told_in : Result Outcome ℕ → ℕ
told_in (Ok out) = number_of out.reply
told_in (Err k) = k

module _ (l : Layout) (p : ProcessNumber) (b : Bench) (q : Process) (ws : List ℕ) where
  last_half : (t : Bool) → number_of (cond t Accepted (LlAnswered (q.count + 1))) ≡ 0
  last_half true = refl
  last_half false = refl

  step_replies : (y : Point) → number_of (stepped_in l y p b q ws).0.reply ≡ 0
  step_replies idle = refl
  step_replies line1 = refl
  step_replies line2 = refl
  step_replies line3 = refl
  step_replies line4 = refl
  step_replies line5 = refl
  step_replies line6 = refl
  step_replies line7 = refl
  step_replies line7copy = refl
  step_replies line8 = refl
  step_replies line9 = refl
  step_replies line10 = refl
  step_replies line11 = last_half (ltb (q.word + 1) (halves b.w))
  step_replies line12 = refl
  step_replies line12valid = refl
  step_replies line13 = refl
  step_replies line14 = refl
  step_replies line14valid = refl
  step_replies line15 = refl
  step_replies line17 = refl
  step_replies line18 = refl
  step_replies line19 = refl
  step_replies line23 = refl

  pub obeyed_replies : (o : Order) (value : List ℕ) → number_of (obey_in l o p value b q ws).0.reply ≡ 0
  obeyed_replies StartLl value = refl
  obeyed_replies StartSc value = refl
  obeyed_replies StartVl value = refl
  obeyed_replies Step value = step_replies (point_of q.line)

module _ (s : Station) (list : List StationProcess) (len p : ℕ) (o : Order) (named : ℕ) (value words : List ℕ) where
  abbrev number : ℕ
  number = station_number s list len p o named (length value) (length words)

  -- an order that is obeyed is answered with no refusal,
  pub obeyed_number : (out : Outcome) (ws' : List ℕ) → ◌≡◌ {A = Decided} (Ok out, ws') (station_decided s list len p o named value words) → number_of out.reply ≡ 0
  obeyed_number out ws' h = go number refl
    where
      go : (k : ℕ) → number ≡ k → number_of out.reply ≡ 0
      go zero e =
          ap (λ (x : Decided). told_in x.0) (h ∙ sym (obeyed_law s list len p o named value words _ e refl))
          ∙ obeyed_replies _ _ _ _ words o value
      go (suc k) e =
          let r = ap (λ (x : Decided). refused_in x.0) (h ∙ sym (refused_law s list len p o named value words number refl (λ z. omega (arith, z, e)))) in
          absurd (omega (arith, r))

  -- and a refusal has a number
  pub refused_number : (k : ℕ) (ws' : List ℕ) → ◌≡◌ {A = Decided} (Err k, ws') (station_decided s list len p o named value words) → k ≡ 0 → ⊥
  refused_number k ws' h = go number refl
    where
      go : (i : ℕ) → number ≡ i → k ≡ 0 → ⊥
      go zero e y =
          let r = ap (λ (x : Decided). refused_in x.0) (h ∙ sym (obeyed_law s list len p o named value words _ e refl)) in
          omega (arith, r)
      go (suc i) e y =
          let r = ap (λ (x : Decided). told_in x.0) (h ∙ sym (refused_law s list len p o named value words number refl (λ z. omega (arith, z, e)))) in
          omega (arith, r, e, y)
