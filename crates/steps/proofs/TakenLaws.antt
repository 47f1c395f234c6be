-- To take the places that a step could touch, to step on them and to put them back is `model`'s step.
use mathlib.Core.Path.{◌≡◌, sym, ap, ◌∙◌}
use mathlib.Core.List.{List}
use Prim.Native.Nat.{ℕ}
use lib.Seq.{sets, set-get_or}
use Rattle.model.specs.declared.SequenceNumber.{SequenceNumber}
use Rattle.llsc.specs.declared.ProcessNumber.{ProcessNumber}
use Rattle.model.specs.Places.{XPlace, BankPlace, HelpPlace}
use Rattle.model.specs.declared.Bench.{Bench}
use Rattle.model.specs.declared.Process.{Process}
use Rattle.llsc.specs.declared.Order.{Order}
use Rattle.llsc.specs.declared.Order.TheVariants.{StartLl, StartSc, StartVl, Step}
use Rattle.model.specs.declared.Reply.TheVariants.{Accepted}
use Rattle.model.specs.declared.LineStep.{LineStep}
use Rattle.model.specs.declared.WordStep.{WordStep}
use Rattle.model.specs.declared.Moved.{Moved}
use Rattle.model.specs.Tables.{no_bank, no_help, bank_at, help_at}
use Rattle.model.specs.Sizes.{halves}
use Rattle.model.specs.Words.{Layout, one_record, offer_in}
use Rattle.model.specs.Points.{Point, point_of, idle, line1, line2, line3, line4, line5, line6, line7, line7copy, line8}
use Rattle.model.specs.Points.{line9, line10, line11, line12, line12valid, line13, line14, line14valid, line15, line17}
use Rattle.model.specs.Points.{line18, line19, line23}
use Rattle.model.specs.Lines.{do_line1, do_line2, do_line4, do_line7, do_line8, do_line9, do_line10, do_line12, do_line12_valid}
use Rattle.model.specs.Lines.{do_line13, do_line14, do_line14_valid, do_line15, do_line18, do_line19, do_line23, do_word}
use Rattle.model.specs.Lines.{do_line11}
use Rattle.model.specs.Records.{begin}
use Rattle.model.specs.Machine.{stepped_in, obey_in, obey, on_x, on_bank, on_help}
use Rattle.taken.specs.declared.Taken.{Taken}
use Rattle.taken.specs.declared.Stepped.{Stepped}
use Rattle.taken.specs.Taken.{bank_index, help_index, taken_at, taken_from, put_back, restored, after_x, after_bank, after_help, after_word}
use Rattle.steps.specs.Steps.{step_on_in, offered_in, obey_on_in, offered, obey_on}

module _ (l : Layout) (p : ProcessNumber) (b : Bench) (q : Process) (ws : List ℕ) where
  -- the two indices of a step at a point, and what it made of the places put back there
  abbrev i : Point → SequenceNumber
  i y = bank_index y b.n q

  abbrev j : Point → ProcessNumber
  j y = help_index y b.n p q

  abbrev back : Point → Stepped × List ℕ → Moved × List ℕ
  back y out = restored b (i y) (j y) out

  -- a place that the line left alone is put back as it was
  x_law : (y : Point) (line : XPlace → Process → LineStep XPlace) → on_x line b q ws ≡ back y (after_x (taken_from y b p q) (line b.x q), ws)
  x_law y line = rw (set-get_or b.bank (i y).0 no_bank, set-get_or b.help (j y).0 no_help)

  bank_law : (y : Point) (line : BankPlace → Process → LineStep BankPlace)
      → on_bank (i y) line b q ws ≡ back y (after_bank (taken_from y b p q) (line (bank_at b (i y)) q), ws)
  bank_law y line = rw (set-get_or b.help (j y).0 no_help)

  help_law : (y : Point) (line : HelpPlace → Process → LineStep HelpPlace)
      → on_help (j y) line b q ws ≡ back y (after_help (taken_from y b p q) (line (help_at b (j y)) q), ws)
  help_law y line = rw (set-get_or b.bank (i y).0 no_bank)

  word_law : (y : Point) (s : WordStep) (ws' : List ℕ)
      → ◌≡◌ {A = Moved × List ℕ} (record { bench = b; process = s.process; reply = s.reply }, ws') (back y (after_word (taken_from y b p q) s, ws'))
  word_law y s ws' = rw (set-get_or b.bank (i y).0 no_bank, set-get_or b.help (j y).0 no_help)

  pub step_by_taken : (y : Point) → stepped_in l y p b q ws ≡ restored b (bank_index y b.n q) (help_index y b.n p q) (step_on_in l y p b.n b.w (taken_from y b p q) q ws)
  unfolding step_on_in
  step_by_taken idle = word_law idle (record { process = q; reply = Accepted }) ws
  step_by_taken line1 = help_law line1 do_line1
  step_by_taken line2 = x_law line2 (do_line2 line3 p)
  step_by_taken line3 = word_law line3 (do_word (halves b.w) line4 q) _
  step_by_taken line4 = help_law line4 (do_line4 p)
  step_by_taken line5 = x_law line5 (do_line2 line6 p)
  step_by_taken line6 = word_law line6 (do_word (halves b.w) line7 q) _
  step_by_taken line7 = x_law line7 (do_line7 p)
  step_by_taken line7copy = word_law line7copy (do_word (halves b.w) line8 q) _
  step_by_taken line8 = help_law line8 (do_line8 p)
  step_by_taken line9 = help_law line9 (do_line9 p)
  step_by_taken line10 = help_law line10 do_line10
  step_by_taken line11 = word_law line11 (do_line11 (halves b.w) q) _
  step_by_taken line12 = bank_law line12 (do_line12 p)
  step_by_taken line12valid = x_law line12valid (do_line12_valid p)
  step_by_taken line13 = bank_law line13 (do_line13 p)
  step_by_taken line14 = help_law line14 (do_line14 p)
  step_by_taken line14valid = x_law line14valid (do_line14_valid p)
  step_by_taken line15 = help_law line15 (do_line15 p)
  step_by_taken line17 = word_law line17 (do_word (halves b.w) line18 q) _
  step_by_taken line18 = bank_law line18 do_line18
  step_by_taken line19 = x_law line19 (do_line19 b.n p)
  step_by_taken line23 = x_law line23 (do_line23 p)

  -- an order is obeyed on the places that a step at its process's point could touch
  pub order_by_taken : (o : Order) (value : List ℕ) → let y = point_of q.line in
      obey_in l o p value b q ws ≡ restored b (bank_index y b.n q) (help_index y b.n p q) (obey_on_in l o p b.n b.w (taken_from y b p q) q (offered_in l o p b.w value ws))
  unfolding obey_on_in
  order_by_taken StartLl value = word_law (point_of q.line) (record { process = begin line1 q; reply = Accepted }) ws
  order_by_taken StartSc value = word_law (point_of q.line) (record { process = begin line12 q; reply = Accepted }) (sets ws (offer_in l b.w p 0) value)
  order_by_taken StartVl value = word_law (point_of q.line) (record { process = begin line23 q; reply = Accepted }) ws
  order_by_taken Step value = step_by_taken (point_of q.line)

  -- the parts of an order, put together
  pub whole_order_in : (o : Order) (value : List ℕ) {ws₁ ws₂ : List ℕ} {i : SequenceNumber} {j : ProcessNumber} {t : Taken} {s : Stepped} → let y = point_of q.line in
      ws₁ ≡ offered_in l o p b.w value ws → i ≡ bank_index y b.n q → j ≡ help_index y b.n p q → t ≡ taken_at b i j
      → (s, ws₂) ≡ obey_on_in l o p b.n b.w t q ws₁ → (put_back b i j s, ws₂) ≡ obey_in l o p value b q ws
  whole_order_in o value {i = i} {j = j} d e f g h = ap (restored b i j) h ∙ rw (d, g, e, f) (sym (order_by_taken o value))

-- the same where one record stands alone
pub whole_order : (p : ProcessNumber) (b : Bench) (q : Process) (ws : List ℕ) (o : Order) (value : List ℕ)
    {ws₁ ws₂ : List ℕ} {i : SequenceNumber} {j : ProcessNumber} {t : Taken} {s : Stepped} → let y = point_of q.line in
    ws₁ ≡ offered o p b.n b.w value ws → i ≡ bank_index y b.n q → j ≡ help_index y b.n p q → t ≡ taken_at b i j
    → (s, ws₂) ≡ obey_on o p b.n b.w t q ws₁ → (put_back b i j s, ws₂) ≡ obey o p value b q ws
unfolding obey
whole_order p b q ws o value d e f g h = whole_order_in (one_record b.n) p b q ws o value d e f g h
