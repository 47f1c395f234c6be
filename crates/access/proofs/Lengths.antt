-- How long the lines of a trace are: at most the 128 bytes that a trace keeps beside the listing's line.
use Prim.Native.Nat.{ℕ, ◌%◌, ◌≤◌}
use mathlib.Core.List.{◌++◌}
use mathlib.Core.Bool.{Bool, true, false, cond}
use native.Mathlib.Omega.{arith}
use lib.Dec.{eqb}
use lib.ListN.{length}
use Rattle.model.specs.Words.{word_of}
use Rattle.listing.proofs.Lengths.{count_digits, joined}
use Rattle.doings.specs.declared.Item.{Item}
use Rattle.doings.specs.declared.Item.TheVariants.{X, Bank, Help, Half}
use Rattle.access.specs.declared.Values.{Values}
use Rattle.access.specs.declared.Values.TheVariants as of
use Rattle.access.specs.declared.Act.{Act}
use Rattle.access.specs.declared.Act.TheVariants.{Read, Write, Ll, Sc, Vl}
use Rattle.access.specs.declared.Access.{Access}
use Rattle.doings.specs.Items.{index, word_place}
use Rattle.listing.specs.Quoted.{quoted}
use Rattle.access.specs.TraceLines.{half_text, half_place_text, item_text, values_text, stored_text}
use Rattle.trace_parts.specs.TraceParts.{spaced, bracketed, truth_text}
use Rattle.access.specs.TraceLines.{written_text, act_text, access_text, step_line}
use Rattle.access.specs.Accesses.{item_with, item_of}
use Rattle.trace_parts.proofs.Lengths as Parts
use Rattle.trace_parts.proofs.Lengths.{spaced_length, number_length, bracketed_length, truth_length}

-- an item, the values and an act whose numbers have at most ten digits
abbrev pub SmallItem : Item → Type 0
SmallItem i = (index i ≤ 4294967295) × (word_place i ≤ 4294967295)

abbrev pub SmallValues : Values → Type 0
SmallValues (of.X v) = (v.buf.0 ≤ 4294967295) × (v.seq.0 ≤ 4294967295)
SmallValues (of.Bank i v) = (i.0 ≤ 4294967295) × (v.0 ≤ 4294967295)
SmallValues (of.Help i v) = (i.0 ≤ 4294967295) × ((v.flag ≤ 4294967295) × (v.buf.0 ≤ 4294967295))
SmallValues (of.Half f k v) = (f.0 ≤ 4294967295) × ((k ≤ 4294967295) × (v ≤ 4294967295))

abbrev pub SmallAct : Act → Type 0
SmallAct (Read v) = SmallValues v
SmallAct (Write v) = SmallValues v
SmallAct (Ll v) = SmallValues v
SmallAct (Sc t v) = SmallValues v
SmallAct (Vl t i) = SmallItem i

-- no number of an access has more than ten digits, nor its line more than three
pub record SmallAccess (a : Access) : Type 0 where
  pub line : a.line ≤ 255
  pub act : SmallAct a.act

small_with : (v : Values) → SmallValues v → SmallItem (item_with v)
small_with (of.X v) s = (omega arith, omega arith)
small_with (of.Bank i v) s = (s.0, omega arith)
small_with (of.Help i v) s = (s.0, omega arith)
small_with (of.Half f k v) s = (s.0, s.1.0)

pub small_item : (a : Act) → SmallAct a → SmallItem (item_of a)
small_item (Read v) s = small_with v s
small_item (Write v) s = small_with v s
small_item (Ll v) s = small_with v s
small_item (Sc t v) s = small_with v s
small_item (Vl t i) s = s

half_length : (k : ℕ) → length (half_text k) ≤ 5
unfolding half_text
half_length k = by (eqb (k % 2) 0)
  where
    by : (t : Bool) → length (cond t (quoted " low") (quoted " high")) ≤ 5
    by true = omega arith
    by false = omega arith

half_place_length : (k : ℕ) → k ≤ 4294967295 → length (half_place_text k) ≤ 17
unfolding half_place_text
half_place_length k h = joined (bracketed (word_of k)) (half_text k) 12 5 (bracketed_length (word_of k) (omega arith)) (half_length k)

item_length_lem : (i : Item) → SmallItem i → length (item_text i) ≤ 33
unfolding item_text
item_length_lem X s = omega arith
item_length_lem (Bank i) s = omega (arith, bracketed_length i.0 s.0)
item_length_lem (Help i) s = omega (arith, bracketed_length i.0 s.0)
item_length_lem (Half f j) s = omega (arith, joined (bracketed f.0) (half_place_text j) 12 17 (bracketed_length f.0 s.0) (half_place_length j s.1))

written_length : (v : Values) → length (written_text v) ≤ 14
unfolding written_text
written_length (of.X v) = omega arith
written_length (of.Bank i v) = omega arith
written_length (of.Help i v) = omega arith
written_length (of.Half f k v) = omega arith

stored_length : (t : Bool) → length (stored_text t) ≤ 19
unfolding stored_text truth_text
stored_length true = omega arith
stored_length false = omega arith

both_length : (v u : ℕ) → v ≤ 4294967295 → u ≤ 4294967295 → length (spaced v ++ spaced u) ≤ 22
both_length v u h k = joined (spaced v) (spaced u) 11 11 (number_length v h) (number_length u k)

values_length : (v : Values) → SmallValues v → length (values_text v) ≤ 22
unfolding values_text
values_length (of.X v) s = both_length v.buf.0 v.seq.0 s.0 s.1
values_length (of.Bank i v) s = omega (arith, number_length v.0 s.1)
values_length (of.Help i v) s = both_length v.flag v.buf.0 s.1.0 s.1.1
values_length (of.Half f k v) s = omega (arith, number_length v s.1.1)

act_length : (a : Act) → SmallAct a → length (act_text a) ≤ 47
unfolding act_text
act_length (Read v) s = omega (arith, values_length v s)
act_length (Write v) s = omega (arith, joined (values_text v) (written_text v) 22 14 (values_length v s) (written_length v))
act_length (Ll v) s = omega (arith, joined (values_text v) (quoted " link set") 22 9 (values_length v s) (omega arith))
act_length (Sc t v) s = omega (arith, joined (values_text v) (stored_text t) 22 19 (values_length v s) (stored_length t))
act_length (Vl t i) s = omega (arith, truth_length t)

pub access_length : (a : Access) → SmallAccess a → length (access_text a) ≤ 84
unfolding access_text
access_length a s =
    let item = item_text (item_of a.act) in
    let c = joined item (act_text a.act) 33 47 (item_length_lem (item_of a.act) (small_item a.act s.act)) (act_length a.act s.act) in
    joined (spaced a.line) (item ++ act_text a.act) 4 80 (spaced_length a.line 3 (count_digits a.line (omega (arith, s.line)))) c

-- a step's line, up to the listing's line where it answers
pub step_length : (entry p : ℕ) (a : Access) (t : Bool) → entry ≤ 60000 → p ≤ 4294967295 → SmallAccess a → length (step_line entry p a t) ≤ 128
step_length entry p a t h k s = Parts.step_length access_text entry p a t h k (omega (arith, access_length a s))
