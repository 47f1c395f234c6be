-- A schedule that is handed out has as many turns as its count says.
use mathlib.Core.Path.{◌≡◌, subst}
use Prim.Native.Nat.{ℕ, ◌-◌, ◌≤◌, ◌<◌}
use mathlib.Core.List.{List}
use native.Mathlib.Omega.{arith}
use lib.ListN.{length, length-append, replicate}
use Rattle.std.specs.Prelude.{Ok, Some}
use Rattle.ways.specs.Ways.{ways}
use Rattle.enumeration_model.specs.Schedules.{schedule_for}
use Rattle.enumeration.specs.declared.Schedule.{Schedule}
use Rattle.enumeration.specs.Replies.{kept, found_for, following_for}
use Rattle.enumeration.proofs.ScheduleFacts.{schedule_built, turns_length}
use Rattle.enumeration.proofs.ReplyLaws.{found_is, following_is}

abbrev pub Counted : Schedule → Type 0
Counted s = s.count ≤ length s.turns

kept_counted : (a b k : ℕ) → k < ways a b → Counted (kept a b (schedule_for a b k))
kept_counted a b k h =
    let ts = schedule_for a b k in
    omega (arith, turns_length (schedule_built a b k h), length-append ts (replicate (64 - length ts) 0))

pub found_counted : (a b k : ℕ) (s : Schedule) → found_for a b k ≡ Ok s → Counted s
found_counted a b k s e = let f = found_is a b k s e in subst Counted f.1 (kept_counted a b k f.0.below)

pub following_counted : (a b : ℕ) (ts : List ℕ) (s : Schedule) → following_for a b ts ≡ Ok (Some s) → Counted s
following_counted a b ts s e = let f = following_is a b ts s e in subst Counted f.is (kept_counted a b f.number f.below)
