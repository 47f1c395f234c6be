-- Where row 9 holds of nothing, a command by a look at what it reads alone is the command.
use mathlib.Core.Path.{◌≡◌, sym, ap, ap₂, subst, ◌∙◌}
use mathlib.Core.List.{List, [], ◌∷◌}
use mathlib.Core.Bool.{Bool, true, cond, not, ◌&&◌}
use Prim.Native.Nat.{ℕ, ◌<◌, ◌≤◌}
use native.Mathlib.Omega.{arith}
use lib.Dec.{eqb}
use lib.ListN.{length, get_or, take, length-take}
use lib.Seq.{get_or-take}
use borrow.Author.Tests.{leb-false, ltb-false}
use Rattle.llsc.specs.declared.Order.{Order}
use Rattle.llsc.specs.Rows.{first, every, row1, row2, row4, row8}
use Rattle.laws.proofs.ListLaws.{every_at}
use Rattle.serving.proofs.RefusalFacts.{and_true, or_false, inside}
use Rattle.station_rows.proofs.StationRowLaws.{same_row}
use Rattle.moir_model.specs.declared.Process.{Process}
use Rattle.moir_model.specs.declared.Reply.{Reply}
use Rattle.moir_model.specs.declared.Reply.TheVariants.{Refused}
use Rattle.moir_model.specs.Records.{record_at, no_process}
use Rattle.moir_model.specs.Machine.{Memory, Shaped}
use Rattle.moir_model.specs.Refusals.{row3, row5, row6, row7}
use Rattle.moir_model.specs.Command.{obeyed, refusal, command}
use Rattle.moir_held_model.specs.Ranges.{tag_ok, header_whole, process_whole, held_in_range, held_refusal, held_command, touched_ok, near_refusal, near_command}
use Rattle.moir_held_model.proofs.RangeLaws.{in_range_all}
use Rattle.moir_held_rows.proofs.ListLaws.{whole_ranges}

module _ (m : Memory) (shaped : Shaped m) (in_all : held_in_range m ≡ true) (p : ℕ) (o : Order) (v : List ℕ) where
  abbrev n : ℕ
  n = m.bench.n

  abbrev w : ℕ
  w = m.bench.w

  abbrev q : Process
  q = record_at m.records (record { 0 = p })

  -- an element of a list whose first k pass
  element_ok : {A : Type 0} (t : A → Bool) (k i : ℕ) (xs : List A) (d : A) → every t (take k xs) ≡ true → i < k → k ≤ length xs → t (get_or xs i d) ≡ true
  element_ok {A} t k i xs d e h b =
      let long : i < length (take k xs) = simp length-take (omega (arith, h, b)) in
      let there : t (get_or (take k xs) i d) ≡ true = every_at t (take k xs) i d e long in
      subst (λ (x : A). t x ≡ true) (get_or-take k xs i d h) there

  touched_is_ok : w ≤ 64 → n ≤ length m.records → p < n → touched_ok m p ≡ true
  touched_is_ok few records below =
      let a = and_true (header_whole n m.bench.header) _ in_all in
      let b = and_true (every tag_ok (take w m.bench.tags)) _ a.1 in
      let own : process_whole n w q ≡ true = element_ok (process_whole n w) n p m.records no_process b.1 below records in
      let place = (whole_ranges n w q few own).word in
      let tag : tag_ok (get_or m.bench.tags q.word 0) ≡ true =
      element_ok tag_ok w q.word m.bench.tags 0 b.0 place (omega (arith, few, shaped.tags)) in
      ap₂ ◌&&◌ a.0 (ap₂ ◌&&◌ own tag)

  abbrev calls : ℕ
  calls = first (row8 o w (length v) ∷ row5 o q ∷ row6 o q ∷ row7 o q ∷ [])

  -- the rows 1, 2, 3, 9 and the others, with the truth of row 9
  abbrev rows : Bool → ℕ
  rows t =
      cond (row1 n).holds 1 (cond (row2 w).holds 2 (cond (row3 n w (length m.records) (length m.words)).holds 3 (cond (not t) 9 (cond (row4 n p).holds 4 calls))))

  near_rows : near_refusal m p o v ≡ rows true
  unfolding near_refusal
  near_rows =
      same_row (row1 n).holds 1 _ _ (λ e1. same_row (row2 w).holds 2 _ _ (λ e2. same_row (row3 n w (length m.records) (length m.words)).holds 3 _ _ (λ e3.
      let few : w ≤ 64 = (inside 1 64 w e2).1 in
      let records : n ≤ length m.records = ltb-false (length m.records) n (or_false _ _ e3).1 in
      same_row (row4 n p).holds 4 _ _ (λ e4. ap (λ (t : Bool). cond (not t) 9 calls) (touched_is_ok few records (leb-false n p e4))))))

  near_refusal_held : near_refusal m p o v ≡ held_refusal m p o v
  unfolding held_refusal
  near_refusal_held = near_rows ∙ ap rows (sym in_all)

  near_command_held : near_command m p o v ≡ held_command m p o v
  unfolding near_command held_command
  near_command_held = ap (λ (k : ℕ). cond {A = Reply × Memory} (eqb k 0) (obeyed m (record { 0 = p }) o v) (Refused k, m)) near_refusal_held

  pub near_is_held : (near_refusal m p o v ≡ held_refusal m p o v) × (near_command m p o v ≡ held_command m p o v)
  near_is_held = (near_refusal_held, near_command_held)

  pub near_refusal_is : near_refusal m p o v ≡ refusal m p o v
  unfolding refusal
  near_refusal_is = near_rows ∙ ap rows (sym (in_range_all m in_all))

  pub near_command_is : near_command m p o v ≡ command m p o v
  unfolding near_command command
  near_command_is = ap (λ (k : ℕ). cond {A = Reply × Memory} (eqb k 0) (obeyed m (record { 0 = p }) o v) (Refused k, m)) near_refusal_is
