-- A turn comes to the same for every list with that next call and that count.
use mathlib.Core.Path.{◌≡◌, refl, ap, ◌∙◌}
use Prim.Native.Nat.{ℕ, suc}
use mathlib.Core.List.{List, [], ◌∷◌}
use mathlib.Core.Bool.{Bool, true, false, cond}
use lib.Dec.{eqb, ltb}
use lib.ListN.{length, replicate, length-replicate}
use Rattle.station.specs.Station.{StationMemory}
use Rattle.turns_model.specs.declared.NextCall.{NextCall}
use Rattle.turns_model.specs.Turns.{ListedCall, AfterTurn, idle_turn, counts_as_idle, lent_refusal, turn}
use Rattle.turns_model.specs.Turns.{counted, listed_as, turn_of}

-- both empty, or with one next call and one count
data Alike : List ListedCall → List ListedCall → Type 0 where
  both_empty : Alike [] []
  one_next : (c : ListedCall) (cs ds : List ListedCall) → length cs ≡ length ds → Alike (c ∷ cs) (c ∷ ds)

record Same (a b : AfterTurn) : Type 0 where
  reply : a.reply ≡ b.reply
  left : length a.left ≡ length b.left
  memory : a.memory ≡ b.memory

either : (t : Bool) {a b c d : AfterTurn} → Same a c → Same b d → Same (cond t a b) (cond t c d)
either true e f = e
either false e f = f

same_counted : {a b : AfterTurn} → Same a b → counted a ≡ counted b
same_counted {a} {b} e =
    ap (λ r. (record { reply = r; left = length a.left }, a.memory)) e.reply
    ∙ ap (λ n. (record { reply = b.reply; left = n }, a.memory)) e.left
    ∙ ap (λ m. (record { reply = b.reply; left = length b.left }, m)) e.memory

module _ (s : StationMemory) (p : ℕ) where
  same_length : {cs ds : List ListedCall} → Alike cs ds → length cs ≡ length ds
  same_length both_empty = refl
  same_length (one_next c cs ds e) = ap suc e

  same_idle : {cs ds : List ListedCall} → Alike cs ds → Same (idle_turn s p cs) (idle_turn s p ds)
  same_idle both_empty = record { reply = refl; left = refl; memory = refl }
  same_idle (one_next c cs ds e) = record { reply = refl; left = e; memory = refl }

  same_turn : {cs ds : List ListedCall} → Alike cs ds → Same (turn s p cs) (turn s p ds)
  unfolding turn
  same_turn {cs} {ds} h =
      let e = same_length h in
      either (ltb 1 p) (record { reply = refl; left = e; memory = refl })
      (either (eqb (lent_refusal s) 0)
      (either (counts_as_idle s p) (same_idle h) (record { reply = refl; left = e; memory = refl }))
      (record { reply = refl; left = e; memory = refl }))

-- An empty list, whatever the next call is said to be;
pub empty_list : (s : StationMemory) (p : ℕ) (next : NextCall) (value : List ℕ) → turn_of s p next value 0 ≡ counted (turn s p [])
unfolding turn_of
empty_list s p next value = refl

-- and a list that begins with the next call.
pub next_alone : (s : StationMemory) (p : ℕ) (next : NextCall) (value : List ℕ) (calls : List ListedCall)
    → turn_of s p next value (suc (length calls)) ≡ counted (turn s p (listed_as next value ∷ calls))
unfolding turn_of
next_alone s p next value calls =
    let c = listed_as next value in
    same_counted (same_turn s p (one_next c (replicate (length calls) c) calls (length-replicate (length calls) c)))
