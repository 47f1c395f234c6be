-- The numbers that a right text says are at most 4,294,967,295.
use Prim.Native.Nat.{ℕ, zero, suc, ◌≤◌}
use mathlib.Core.List.{List, ◌++◌}
use native.Mathlib.Omega.{arith}
use Rattle.notation.specs.declared.Mark.{Mark}
use Rattle.notation.specs.declared.Mark.TheVariants.{Ll, Vl, One, All}
use Rattle.notation.specs.declared.Entry.{Entry}
use Rattle.notation.specs.Bytes.{entry_of}
use Rattle.notation.specs.declared.Entry.TheVariants.{StartSc}
use Rattle.notation.specs.Grammar.{largest, Number, digit, more, Item, Items, Lead, Schedule, Text, marked, offer, group}
use Rattle.notation.specs.Grammar.{item, fresh, apart, empty, items, times, item_says, items_say, lead_says, schedule_says, says}
use Rattle.notation.specs.Stretches.{Small}
use Rattle.notation.proofs.KindLaws.{digit_small, ok_small}
use Rattle.season_laws.proofs.RunListing.{AllSmall, none, entry}

pub number_small : {ds : List ℕ} {v : ℕ} → Number ds v → v ≤ largest
number_small (digit {c = c} {d = d} b) = omega (arith, digit_small c d b.is)
number_small (more {v = v} {d = d} n b h) = ok_small v d h

mark_small : (m : Mark) (p : ℕ) → p ≤ largest → Small (entry_of m p)
mark_small Ll p h = h
mark_small Vl p h = h
mark_small One p h = h
mark_small All p h = h

append_small : {xs ys : List Entry} → AllSmall xs → AllSmall ys → AllSmall (xs ++ ys)
append_small none b = b
append_small (entry h a) b = entry h (append_small a b)

times_small : (n : ℕ) {es : List Entry} → AllSmall es → AllSmall (times n es)
unfolding times
times_small zero a = none
times_small (suc n) a = append_small a (times_small n a)

mutual
  unfolding item_says items_say lead_says

  item_small : {d : ℕ} (i : Item d) → AllSmall (item_says i)
  item_small (marked ds p c m n k) = entry (mark_small m p (number_small n)) none
  item_small (offer ds p c ks v n k w) = entry {e = StartSc p v} (number_small n, number_small w) none
  item_small (group ds n a k ok o i g z t u) = times_small n (items_small i)

  items_small : {d : ℕ} (i : Items d) → AllSmall (items_say i)
  items_small (item l i) = append_small (lead_small l) (item_small i)

  lead_small : {d : ℕ} (l : Lead d) → AllSmall (lead_says l)
  lead_small (fresh g t) = none
  lead_small (apart i c g k t) = items_small i

schedule_small : {d : ℕ} (s : Schedule d) → AllSmall (schedule_says s)
unfolding schedule_says
schedule_small (empty g t) = none
schedule_small (items i g t) = items_small i

pub entries_small : {d : ℕ} (t : Text d) → AllSmall (says t).entries
unfolding says
entries_small t = schedule_small t.schedule

pub initial_small : {d : ℕ} (t : Text d) → (says t).initial ≤ largest
unfolding says
initial_small t = number_small t.first.initial_number
