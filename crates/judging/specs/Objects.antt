-- Inner: Figure 1's object as the code holds it. `object_of` is the object that it stands for.
use Rattle.std.specs.Prelude.{◌≡◌, ℕ, ◌<◌, List, map, Bool, false, Option, Some, None, cond, eqb, get_or}
use Rattle.llsc.specs.Object.{Object}
use Rattle.verdicts.specs.declared.Fault.{Fault}
use Rattle.verdicts.specs.declared.Shown.{Shown}
use Rattle.verdicts.specs.declared.Shown.TheVariants.{Truth}
use Rattle.verdicts.specs.Reasons.{tells_alike, feed_entry, Standing, standing_after, words_shown, not_alike}
use Rattle.judging.specs.declared.object.Held.{Held}
use Rattle.judging.specs.Heads.{entry_at}
use Rattle.judging.specs.Orders.{count, numbered_at}

abbrev pub words_held : ℕ → List ℕ → List ℕ → Option ℕ → List ℕ
words_held w log value None = value
words_held w log value (Some k) = (entry_at w log k).words

abbrev pub object_of : ℕ → List ℕ → List ℕ → Held → Object
object_of w log value h = record { words = words_held w log value h.from; link = λ q. get_or h.links q false }

-- its words are the value, or those of a call
pub record Sane (w : ℕ) (log : List ℕ) (h : Held) : Type 0 where
  pub inside : (k : ℕ) → h.from ≡ Some k → k < count w log

-- the object's answer to a call is the call's; the object after the call
abbrev pub told_alike : ℕ → List ℕ → List ℕ → ℕ → Held → Bool
told_alike w log value k h = tells_alike (entry_at w log k) (object_of w log value h)

pub record MovedOn (w : ℕ) (log : List ℕ) (k : ℕ) (h r : Held) : Type 0 where
  pub moves : (value : List ℕ) → object_of w log value r ≡ feed_entry (entry_at w log k) (object_of w log value h)
  pub stands : (value : List ℕ) → r.from ≡ standing_after (numbered_at w log k) (object_of w log value h) h.from
  pub sane : Sane w log r

-- what the object answers
abbrev pub shown_at : ℕ → List ℕ → ℕ → Held → Shown
shown_at w log k h = cond (eqb (entry_at w log k).kind 1) (words_shown h.from) (Truth (get_or h.links (entry_at w log k).process false))

-- "Figure 1's object .. answers each call alike": the first of the calls of these indices, in their order, that the object,
-- begun as o, does not
abbrev pub not_alike_at : ℕ → List ℕ → Object → Standing → List ℕ → Option Fault
not_alike_at w log o s ks = not_alike o s (map (numbered_at w log) ks)
