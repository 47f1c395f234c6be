-- Where no tag has more than sixteen bits, a held list's row 9 is `moir_model`'s, and so is its command; and where row 9
-- holds of nothing, a command by a look at what it reads alone is that command.
use mathlib.Core.Path.{◌≡◌, refl, ap, ap₂}
use mathlib.Core.List.{List, [], ◌∷◌}
use mathlib.Core.Bool.{Bool, true, false, cond, ◌&&◌}
use Prim.Native.Nat.{ℕ}
use lib.Dec.{eqb}
use lib.ListN.{length, take}
use Rattle.llsc.specs.declared.Order.{Order}
use Rattle.llsc.specs.Rows.{first, every}
use Rattle.moir_model.specs.declared.Reply.{Reply}
use Rattle.moir_model.specs.declared.Reply.TheVariants.{Refused}
use Rattle.moir_model.specs.declared.Process.{Process}
use Rattle.moir_model.specs.Records.{record_at}
use Rattle.moir_model.specs.Machine.{Memory}
use Rattle.moir_model.specs.Refusals.{header_ok, process_ok, in_range, rows_of}
use Rattle.moir_model.specs.Command.{obeyed, refusal, command}
use Rattle.laws.proofs.AndLaws.{left, right}
use Rattle.moir_held_model.specs.Ranges.{tag_ok, process_tags_ok, tags_ok, header_whole, process_whole, held_in_range, held_refusal, held_command}

and_drop : (a b : Bool) → b ≡ true → a && b ≡ a
and_drop true b e = e
and_drop false b e = refl

module _ {A : Type 0} (f g : A → Bool) where
  -- where all pass g, all pass both exactly where all pass f
  every_both : (l : List A) → every g l ≡ true → every (λ x. f x && g x) l ≡ every f l
  every_both [] e = refl
  every_both (a ∷ l) e = ap₂ ◌&&◌ (and_drop (f a) (g a) (left (g a) (every g l) e)) (every_both l (right (g a) (every g l) e))

  every_first : (l : List A) → every (λ x. f x && g x) l ≡ true → every f l ≡ true
  every_first [] e = refl
  every_first (a ∷ l) e =
      let here = left (f a && g a) (every (λ x. f x && g x) l) e in
      ap₂ ◌&&◌ (left (f a) (g a) here) (every_first l (right (f a && g a) (every (λ x. f x && g x) l) e))

module _ (m : Memory) where
  abbrev n : ℕ
  n = m.bench.n

  abbrev w : ℕ
  w = m.bench.w

  abbrev tags : Bool
  tags = every tag_ok (take w m.bench.tags)

  abbrev heads : Bool
  heads = every process_tags_ok (take n m.records)

  pub range_is : tags_ok m ≡ true → held_in_range m ≡ in_range m
  unfolding in_range
  range_is e =
      let a = left (tag_ok m.bench.header.tag) (tags && heads) e in
      let b = right (tag_ok m.bench.header.tag) (tags && heads) e in
      ap₂ ◌&&◌ (and_drop (header_ok n m.bench.header) (tag_ok m.bench.header.tag) a)
      (ap₂ ◌&&◌ (left tags heads b) (every_both (process_ok n w) process_tags_ok (take n m.records) (right tags heads b)))

  -- where row 9 of a held list holds of nothing
  pub in_range_all : held_in_range m ≡ true → in_range m ≡ true
  unfolding in_range
  in_range_all e =
      let h = header_whole n m.bench.header in
      let ps = every (process_whole n w) (take n m.records) in
      ap₂ ◌&&◌ (left (header_ok n m.bench.header) (tag_ok m.bench.header.tag) (left h (tags && ps) e))
      (every_first (process_ok n w) process_tags_ok (take n m.records) (right tags ps (right h (tags && ps) e)))

  module _ (p : ℕ) (o : Order) (value : List ℕ) where
    abbrev q : Process
    q = record_at m.records (record { 0 = p })

    abbrev number : Bool → ℕ
    number t = first (rows_of n w (length m.records) (length m.words) t p o (length value) q)

    abbrev answer : ℕ → Reply × Memory
    answer k = cond (eqb k 0) (obeyed m (record { 0 = p }) o value) (Refused k, m)

    pub held_refusal_is : tags_ok m ≡ true → held_refusal m p o value ≡ refusal m p o value
    unfolding held_refusal refusal
    held_refusal_is e = ap number (range_is e)

    pub held_command_is : tags_ok m ≡ true → held_command m p o value ≡ command m p o value
    unfolding held_command command
    held_command_is e = ap answer (held_refusal_is e)
