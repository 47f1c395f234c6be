-- One accepted entry: its parts, put together.
use mathlib.Core.Path.{◌≡◌, sym, ap, ◌∙◌}
use mathlib.Core.Bool.{Bool}
use mathlib.Core.List.{List}
use Prim.Native.Nat.{ℕ}
use Rattle.std.specs.Prelude.{Option}
use Rattle.model.specs.declared.Process.{Process}
use Rattle.llsc.specs.declared.Order.{Order}
use Rattle.taken.specs.declared.Taken.{Taken}
use Rattle.taken.specs.declared.Stepped.{Stepped}
use Rattle.steps.specs.Steps.{offered, obey_on}
use Rattle.notation.specs.declared.Entry.{Entry}
use Rattle.listing.specs.declared.Writer.{Writer}
use Rattle.listing.specs.Writing.{Writes}
use Rattle.listing.proofs.WritingLaws.{writes_then, writes_same}
use Rattle.access.specs.declared.Access.{Access}
use Rattle.access.specs.TraceLines.{access_text}
use Rattle.text_runs.specs.Parts as P
use Rattle.text_runs.specs.TextRun.{process_of, order_of, value_of}
use Rattle.text_model.specs.TextRun.{answers}
use Rattle.text_entry.specs.RunState.{answer_line, shown_line}
use Rattle.text_entry.specs.Turned.{number_of, turned, access_seen, Turnable, Turns}

module _ {traced : Bool} {k n w : ℕ} {e : Entry} {t : Taken} {q : Process} {ws : List ℕ} {to : Writer} (f : Turnable traced k e n w t q ws to) where
  abbrev out : Stepped × List ℕ
  out = turned e n w t q ws

  abbrev seen : Option Access
  seen = access_seen traced (number_of e) n w t q ws

  abbrev shown : List ℕ
  shown = shown_line k seen e out.0.reply

  abbrev answer : List ℕ
  answer = answer_line n w out.1 (process_of e) out.0.reply

  -- what the code has: process, order, access, the words offered, the order obeyed
  module _ {p : ℕ} {o : Order} {a : Option Access} {ws₁ ws₂ : List ℕ} {st : Stepped}
      (ep : p ≡ process_of e) (eo : o ≡ order_of e) (ea : a ≡ access_seen traced (record { 0 = p }) n w t q ws)
      (e₁ : ws₁ ≡ offered (order_of e) (record { 0 = p }) n w (value_of w e) ws) (e₂ : ◌≡◌ {A = Stepped × List ℕ} (st, ws₂) (obey_on o (record { 0 = p }) n w t q ws₁)) where
    is_out : ◌≡◌ {A = Stepped × List ℕ} (st, ws₂) out
    is_out = e₂ ∙ rw (e₁, eo, ep)

    same_stepped : st ≡ out.0
    same_stepped = ap (λ (x : Stepped × List ℕ). x.0) is_out

    same_words_lem : ws₂ ≡ out.1
    same_words_lem = ap (λ (x : Stepped × List ℕ). x.1) is_out

    same_access : a ≡ seen
    same_access = ea ∙ ap (λ (i : ℕ). access_seen traced (record { 0 = i }) n w t q ws) ep

    same_shown : shown_line k a e st.reply ≡ shown
    same_shown = ap (λ (x : Option Access). shown_line k x e st.reply) same_access ∙ ap (λ (x : Stepped). shown_line k seen e x.reply) same_stepped

    same_answer : answer_line n w ws₂ p st.reply ≡ answer
    same_answer = rw (same_words_lem, same_stepped, ep)

    module _ {answered : Bool} (et : answered ≡ answers st.reply) where
      is_shown : P.shown_line access_text k a e answered ≡ shown
      is_shown = ap (P.shown_line access_text k a e) et ∙ same_shown

      module _ {to₁ : Writer} (w₁ : Writes to (P.shown_line access_text k a e answered) to₁) where
        wrote_shown : Writes to shown to₁
        wrote_shown = writes_same (sym is_shown) w₁

        pub turn_made : {to₂ : Writer} → Writes to₁ (answer_line n w ws₂ p st.reply) to₂
            → Turns traced k e n w t q ws to st ws₂ to₂
        turn_made w₂ = record {
          taken = ap (λ (x : Stepped). x.taken) same_stepped;
          process = ap (λ (x : Stepped). x.process) same_stepped;
          reply = ap (λ (x : Stepped). x.reply) same_stepped;
          words = same_words_lem;
          wrote = writes_then wrote_shown (writes_same (sym same_answer) w₂);
        }
