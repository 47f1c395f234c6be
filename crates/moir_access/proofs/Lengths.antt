-- How long what a trace shows of an access is: with the entry number, the process and ` answers ` at most the 128 bytes
-- that a trace keeps beside the listing's line.
use Prim.Native.Nat.{◌≤◌}
use mathlib.Core.List.{◌++◌}
use native.Mathlib.Omega.{arith}
use lib.ListN.{length}
use Rattle.listing.proofs.Lengths.{count_digits, joined}
use Rattle.moir_access.specs.declared.Item.{Item}
use Rattle.moir_access.specs.declared.Item.TheVariants.{Hdr, Data, Announced}
use Rattle.moir_access.specs.declared.Act.{Act}
use Rattle.moir_access.specs.declared.Act.TheVariants.{Read, Write, Cas}
use Rattle.moir_access.specs.declared.Content.{Content}
use Rattle.moir_access.specs.declared.Content.TheVariants.{Tagged, Word}
use Rattle.moir_access.specs.declared.Access.{Access}
use Rattle.trace_parts.specs.TraceParts.{spaced, bracketed, truth_text}
use Rattle.trace_parts.proofs.Lengths.{spaced_length, number_length, bracketed_length, truth_length}
use Rattle.moir_access.specs.TraceParts.{item_text, values_text, act_text, access_text}

-- no number of an access has more than ten digits, nor its line more than three
abbrev pub SmallItem : Item → Type 0
SmallItem Hdr = Unit {0}
SmallItem (Data k) = k ≤ 4294967295
SmallItem (Announced q k) = (q.0 ≤ 4294967295) × (k ≤ 4294967295)

abbrev pub SmallContent : Content → Type 0
SmallContent (Tagged tag with) = (tag ≤ 4294967295) × (with ≤ 4294967295)
SmallContent (Word word) = word ≤ 4294967295

abbrev pub SmallAct : Act → Type 0
SmallAct (Read v) = SmallContent v
SmallAct (Write v) = SmallContent v
SmallAct (Cas v u t) = SmallContent v × SmallContent u

pub record SmallAccess (a : Access) : Type 0 where
  pub line : a.line ≤ 255
  pub item : SmallItem a.item
  pub act : SmallAct a.act

item_length_lem : (i : Item) → SmallItem i → length (item_text i) ≤ 26
unfolding item_text
item_length_lem Hdr s = omega arith
item_length_lem (Data k) s = omega (arith, bracketed_length k s)
item_length_lem (Announced q k) s =
    omega (arith, joined (bracketed q.0) (bracketed k) 12 12 (bracketed_length q.0 s.0) (bracketed_length k s.1))

values_length : (v : Content) → SmallContent v → length (values_text v) ≤ 22
unfolding values_text
values_length (Tagged tag with) s = joined (spaced tag) (spaced with) 11 11 (number_length tag s.0) (number_length with s.1)
values_length (Word word) s = omega (arith, number_length word s)

act_length : (a : Act) → SmallAct a → length (act_text a) ≤ 54
unfolding act_text
act_length (Read v) s = omega (arith, values_length v s)
act_length (Write v) s = omega (arith, values_length v s)
act_length (Cas v u t) s =
    let b = joined (values_text u) (truth_text t) 22 6 (values_length u s.1) (truth_length t) in
    omega (arith, joined (values_text v) (values_text u ++ truth_text t) 22 28 (values_length v s.0) b)

-- what is shown, from the space before the line on
pub shown_length : (a : Access) → SmallAccess a → length (access_text a) ≤ 84
unfolding access_text
shown_length a s =
    let b = joined (item_text a.item) (act_text a.act) 26 54 (item_length_lem a.item s.item) (act_length a.act s.act) in
    let line = spaced_length a.line 3 (count_digits a.line (omega (arith, s.line))) in
    joined (spaced a.line) (item_text a.item ++ act_text a.act) 4 80 line b
