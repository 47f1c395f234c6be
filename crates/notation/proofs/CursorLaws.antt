-- Laws of a reader of items and of groups: what is said of the text it holds is said of the text it had.
use Prim.Native.Nat.{ℕ, ◌-◌, ◌≤◌, ◌<◌}
use mathlib.Core.Path.{◌≡◌, sym, ap, subst}
use mathlib.Core.List.{List}
use native.Mathlib.Omega.{arith}
use lib.ListN.{length}
use Rattle.std.specs.Prelude.{Result, Ok}
use Rattle.notation.specs.declared.Entry.{Entry}
use Rattle.notation.specs.declared.items.Fault.{Fault}
use Rattle.notation.specs.declared.items.Items.{Items}
use Rattle.notation.specs.declared.items.Items.TheVariants.{Closed}
use Rattle.notation.specs.Places.{ClosesAfter}
use Rattle.notation.specs.Readers.{Following, Follows}
use Rattle.notation.specs.Stretches.{Begun}
use Rattle.notation.specs.Groups.{ItemBroken, ItemsEnded, ItemsClosed}
use Rattle.notation.specs.Listed.{Keeps, ItemSays, GroupSays}
use Rattle.notation.specs.Cursor.{StandAt}
use Rattle.notation.proofs.GroupLaws.{item_ended, item_broken, item_wrong, items_stray}
use Rattle.std.proofs.lemmas.Result.{err_from_is_err_and}
use Rattle.notation.proofs.ItemsLaws.{items_as, spoilt_by}
use Rattle.notation.proofs.ItemLaws.{started, begun_as, followed, follows_as}

-- where they stand behind items, where the reply is known
stand_as : {r : Items} {at count next to : ℕ} → StandAt (Ok r) at count → r ≡ Closed next to → (at ≡ next) × (count ≡ to)
stand_as {at = at} {count} s e = subst (λ (x : Items). StandAt (Ok x) at count) e s

-- and what is kept up to there
pub kept_to : {s list list' : List ℕ} {from body at count next to d : ℕ} {r : Items} → StandAt (Ok r) at count → r ≡ Closed next to
    → Keeps s list list' from to (λ es. ItemsClosed s body d next es) (λ ps. ClosesAfter s body next ps)
    → Keeps s list list' from count (λ es. ItemsClosed s body d at es) (λ ps. ClosesAfter s body at ps)
kept_to {s} {list} {list'} {from} {body} {at} {count} {next} {to} {d} h e k =
    let z = stand_as h e in
    subst (λ (x : ℕ). Keeps s list list' from x (λ es. ItemsClosed s body d at es) (λ ps. ClosesAfter s body at ps)) (sym z.1)
    (subst (λ (x : ℕ). Keeps s list list' from to (λ es. ItemsClosed s body d x es) (λ ps. ClosesAfter s body x ps)) (sym z.0) k)

module _ {s s' : List ℕ} (e : s' ≡ s) where
  pub ends_in : {next : ℕ} → length s' ≤ next → length s ≤ next
  ends_in h = omega (arith, h, ap length e)

  pub here_in : {next : ℕ} → next < length s' → next < length s
  here_in h = omega (arith, h, ap length e)

  -- a group that the text's end cuts off
  pub cut_off : {at n body d : ℕ} {es : List Entry} → Begun s at n body → (d ≡ 0 → ⊥) → ItemsEnded s body (d - 1) es → ItemBroken s at d 10 (length s')
  cut_off {at} {d = d} b z i = subst (λ (x : ℕ). ItemBroken s at d 10 x) (sym (ap length e)) (item_ended d b z i)

  pub item_in : {at d from : ℕ} {list list' : List ℕ} {r : Result (ℕ × ℕ) Fault} → ItemSays s' at d list list' from r → ItemSays s at d list list' from r
  item_in {at} {d} {from} {list} {list'} {r} x = subst (λ (y : List ℕ). ItemSays y at d list list' from r) e x

  pub group_in : {n body d from : ℕ} {list list' : List ℕ} {r : Result (ℕ × ℕ) Fault} → GroupSays s' n body d list list' from r
      → GroupSays s n body d list list' from r
  group_in {n} {body} {d} {from} {list} {list'} {r} x = subst (λ (y : List ℕ). GroupSays y n body d list list' from r) e x

  pub follow_in : {at : ℕ} {r : Following} → Follows s' at r → Follows s at r
  follow_in {at} {r} x = subst (λ (y : List ℕ). Follows y at r) e x

-- what `read_group` rests on
pub ruleset group_laws = (err_from_is_err_and, item_broken, items_as, spoilt_by, cut_off)

-- what `read_item` rests on
pub ruleset item_laws = (started, begun_as, item_wrong, group_in)

-- what `read_on` rests on
pub ruleset on_laws = (followed, follows_as, items_stray, item_in, follow_in)
