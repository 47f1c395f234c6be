-- Laws of the readers of items and of groups: what is read is kept, once for each turn.
use Prim.Native.Nat.{ℕ, ◌-◌, ◌≤◌}
use mathlib.Core.Path.{◌≡◌, subst}
use Rattle.std.specs.Prelude.{Ok}
use mathlib.Core.List.{List, [], ◌∷◌, ◌++◌}
use mathlib.Core.Bool.{false}
use lib.ListN.{length}
use Rattle.notation.specs.declared.Entry.{Entry}
use Rattle.notation.specs.declared.items.Items.{Items}
use Rattle.notation.specs.Grammar.{times}
use Rattle.notation.specs.Scan.{between}
use Rattle.notation.specs.Places.{fore, tail, Moves, ClosesAfter}
use Rattle.notation.specs.Stretches.{Once, Begun}
use Rattle.notation.specs.Groups.{ItemRead, ItemsClosed}
use Rattle.notation.specs.Listed.{Lists, Repeated, Keeps, Spoilt, ItemsAre, ItemsSay}
use Rattle.notation.specs.Written.{none, more}
use Rattle.notation.proofs.AgainLaws.{standing_then, standing_turns}
use Rattle.notation.proofs.PlaceLaws.{places_group}
use Rattle.notation.proofs.GroupLaws.{item_once, item_closed}
use Rattle.notation.proofs.ListedLaws.{lists_none, lists_then, lists_turns}

-- nothing
pub keeps_none : {s list : List ℕ} {from : ℕ} {P : List Entry → Type 0} {Q : List ℕ → Type 0} → from ≤ length list → P [] → Q [] → Keeps s list list from from P Q
keeps_none h p q = record { says = []; read = p; places = []; located = q; again = none; lists = lists_none h }

-- an entry
pub keeps_once : {s list list' : List ℕ} {at next from to : ℕ} {e : Entry} (d : ℕ) → Once s at (between false) e next
    → Lists list list' from to (e ∷ []) (at ∷ []) → Keeps s list list' from to (λ es. ItemRead s at d next es) (λ ps. Moves s at fore next tail ps)
keeps_once {at = at} {next = next} {e = e} d o l = record { says = e ∷ []; read = item_once d o; places = at ∷ []; located = o.places; again = more next o.again none; lists = l }

-- entries after entries
pub keeps_then : {s list list₁ list₂ : List ℕ} {from mid to : ℕ} {P Q R : List Entry → Type 0} {P' Q' R' : List ℕ → Type 0} → from ≤ length list
    → Keeps s list list₁ from mid P P' → Keeps s list₁ list₂ mid to Q Q'
    → ((es fs : List Entry) → P es → Q fs → R (es ++ fs)) → ((ps qs : List ℕ) → P' ps → Q' qs → R' (ps ++ qs)) → Keeps s list list₂ from to R R'
keeps_then h x y f g = record {
  says = x.says ++ y.says;
  read = f x.says y.says x.read y.read;
  places = x.places ++ y.places;
  located = g x.places y.places x.located y.located;
  again = standing_then x.again y.again;
  lists = lists_then h x.lists y.lists;
}

-- a fault that shows after entries
pub spoilt_by : {s list list₁ : List ℕ} {from to : ℕ} {P : List Entry → Type 0} {Q : List ℕ → Type 0} {B : Type 0}
    → Keeps s list list₁ from to P Q → ((es : List Entry) → P es → B) → Spoilt list list₁ B
spoilt_by x f = record { is = f x.says x.read; lent = x.lists.entries.lent }

-- items, where the reply is known
pub items_as : {s list list' : List ℕ} {at d from : ℕ} {r r' : Items} → ItemsSay s at d list list' from (Ok r) → r ≡ r' → ItemsAre s at d list list' from (Ok r')
items_as {s} {list} {list'} {at} {d} {from} x e = subst (λ (y : Items). ItemsAre s at d list list' from (Ok y)) e x.are

-- a group: its first turn is a block, and the block is repeated
module _ {s list list₁ : List ℕ} {at n body next from to : ℕ} (d : ℕ) (h : from ≤ length list) (b : Begun s at n body)
    (x : Keeps s list list₁ from to (λ es. ItemsClosed s body (d - 1) next es) (λ ps. ClosesAfter s body next ps)) where
  pub keeps_turns : {list₂ : List ℕ} {end : ℕ} → (d ≡ 0 → ⊥) → Repeated list₁ list₂ from to n end
      → Keeps s list list₂ from end (λ es. ItemRead s at d next es) (λ ps. Moves s at fore next tail ps)
  keeps_turns z r = record {
    says = times n x.says;
    read = item_closed d b z x.read;
    places = times n x.places;
    located = places_group b.places x.located;
    again = standing_turns n x.again;
    lists = lists_turns h b.turns x.lists r;
  }
