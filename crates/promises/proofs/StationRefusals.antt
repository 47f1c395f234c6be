-- A station's command and its set-up are refused exactly where a row of the table holds.
use mathlib.Core.Path.{◌≡◌, refl, sym, ap, ◌∙◌}
use mathlib.Core.List.{List}
use Prim.Native.Nat.{ℕ}
use borrow.Author.Tests.{ne_eqb}
use Rattle.model.specs.declared.Reply.{Reply}
use Rattle.model.specs.declared.Reply.TheVariants.{Refused}
use Rattle.model.specs.Replies.{number_of}
use Rattle.llsc.specs.Rows.{first}
use Rattle.station.specs.Station.{StationMemory, process_at, layout_of}
use Rattle.station.specs.Projection.{bench_of, process_of}
use Rattle.station.specs.StationRefusals.{StationOrder, record_for, station_rows, station_set_up_rows}
use Rattle.station.specs.StationCommand.{station_refusal, station_command}
use Rattle.station.specs.StationSetUp.{station_at_set_up, station_set_up_refusal, station_set_up}
use Rattle.station_facts.proofs.Accepts.{obeys, refuses}
use Rattle.board_commands.proofs.ReplyLaws.{obeyed_replies}
use Rattle.promises.specs.Promises.{RefusedExactly, SetUpRefusedExactly}
use Rattle.promises.proofs.RefusalLaws.{some_first, none_first}

refusal_is : (s : StationMemory) (c : StationOrder) → station_refusal s c ≡ first (station_rows s c)
unfolding station_refusal
refusal_is s c = refl

-- what is obeyed is not answered with a refusal
accepted_number : (s : StationMemory) (c : StationOrder) → station_refusal s c ≡ 0
    → number_of (station_command s c).0 ≡ 0
accepted_number s c e =
    let j = record_for s c in let q = process_of j (process_at s c.process) in
    ap (λ (out : Reply × StationMemory). number_of out.0) (obeys s c e)
    ∙ obeyed_replies (layout_of s j) (record { 0 = c.process }) (bench_of s j) q s.words c.order c.value

told_as : (s : StationMemory) {i k : ℕ} → i ≡ k → ◌≡◌ {A = Reply × StationMemory} (Refused i, s) (Refused k, s)
told_as s e = ap (λ (k : ℕ). (Refused k, s)) e

pub refused_exactly : (s : StationMemory) (c : StationOrder) → RefusedExactly s c
refused_exactly s c =
    let is = refusal_is s c in
    record {
      cause = λ h. refuses s c (λ z. some_first (station_rows s c) refl h (sym is ∙ z))
          ∙ told_as s is;
      told = some_first (station_rows s c) refl;
      no_cause = λ h. accepted_number s c (is ∙ none_first (station_rows s c) h);
    }

set_up_refusal_is : (s : StationMemory) (n w r : ℕ) (value : List ℕ)
    → station_set_up_refusal s n w r value ≡ first (station_set_up_rows s n w r value)
unfolding station_set_up_refusal
set_up_refusal_is s n w r value = refl

module _ (s : StationMemory) (n w r : ℕ) (value : List ℕ) where
  abbrev told : ℕ
  told = station_set_up_refusal s n w r value

  set_up_refused : (told ≡ 0 → ⊥) → station_set_up s n w r value ≡ (told, s)
  unfolding station_set_up
  set_up_refused h = simp (ne_eqb told 0 h)

  set_up_made : told ≡ 0 → station_set_up s n w r value ≡ (0, station_at_set_up s n w r value)
  unfolding station_set_up
  set_up_made e = simp (e)

numbered_as : (s : StationMemory) {i k : ℕ} → i ≡ k → ◌≡◌ {A = ℕ × StationMemory} (i, s) (k, s)
numbered_as s e = ap (λ (k : ℕ). (k, s)) e

pub set_up_refused_exactly : (s : StationMemory) (n w r : ℕ) (value : List ℕ) → SetUpRefusedExactly s n w r value
set_up_refused_exactly s n w r value =
    let rows = station_set_up_rows s n w r value in let is = set_up_refusal_is s n w r value in
    record {
      cause = λ h. set_up_refused s n w r value (λ z. some_first rows refl h (sym is ∙ z)) ∙ numbered_as s is;
      told = some_first rows refl;
      no_cause = λ h. set_up_made s n w r value (is ∙ none_first rows h);
    }
