-- The answered calls of any events: those of one process do not overlap, and none ends after the last command.
use mathlib.Core.Path.{◌≡◌, refl, sym, ap, subst, ◌∙◌}
use mathlib.Core.List.{List, [], ◌∷◌, ◌++◌}
use Prim.Native.Nat.{ℕ, suc, ◌+◌, ◌≤◌, ◌<◌}
use native.Mathlib.Omega.{arith}
use lib.ListN.{length}
use Rattle.llsc.specs.declared.Order.{Order}
use Rattle.llsc.specs.declared.Order.TheVariants.{StartLl, StartSc, StartVl, Step}
use Rattle.model.specs.Machine.{Memory}
use Rattle.model.specs.Command.{command}
use Rattle.llsc.specs.Answers.{Said, Answer, refused, accepted, answered}
use Rattle.llsc.specs.History.{Command, Event, Slot, none, running, Call, call_of, ended, slot_after, slots_after, ordered, calls_from, calls}
use Rattle.model.specs.History.{events}
use Rattle.llsc.specs.Linearizable.{All}
use Rattle.laws.proofs.Updates.{Split, same, other, split, ifb_eq, ifb_ne}
use Rattle.laws.proofs.AllLaws.{all_of, all_join}
use Rattle.verdict_laws.specs.CallFacts.{Follows, InTurn}

-- the next call that a slot brings does not start before this; k is the next command
abbrev lower : Slot → ℕ → ℕ
lower none k = k
lower (running kind start steps) k = start

-- and that grows: s and t are a slot before and after command k
abbrev Grows : ℕ → Slot → Slot → Type 0
Grows k s t = (lower s k ≤ lower t (k + 1)) × (lower t (k + 1) ≤ k + 1)

abbrev Low : ℕ → (ℕ → Slot) → Type 0
Low k slots = (q : ℕ) → lower (slots q) k ≤ k

order_grows : (o : Order) (k : ℕ) (v : List ℕ) (s : Slot) → lower s k ≤ k → Grows k s (ordered o k v s)
order_grows StartLl k v s h = (h, omega arith)
order_grows StartSc k v s h = (h, omega arith)
order_grows StartVl k v s h = (h, omega arith)
order_grows Step k v none h = (omega arith, omega arith)
order_grows Step k v (running kind start steps) h = (omega arith, omega arith)

slot_grows : (k : ℕ) (c : Command) (t : Said) (s : Slot) → lower s k ≤ k → Grows k s (slot_after k c t s)
slot_grows k c (refused n) none h = (omega arith, omega arith)
slot_grows k c (refused n) (running kind start steps) h = (omega arith, omega arith)
slot_grows k c accepted s h = order_grows c.order k c.value s h
slot_grows k c (answered a n) s h = (omega arith, omega arith)

ends : (p k : ℕ) (a : Answer) (n : ℕ) (s : Slot) → ((ended p k a n s).end ≡ k) × ((ended p k a n s).process ≡ p)
ends p k a n none = (refl, refl)
ends p k a n (running kind start steps) = (refl, refl)

module _ (k : ℕ) (e : Event) (slots : ℕ → Slot) (h : Low k slots) where
  abbrev p : ℕ
  p = e.command.process

  abbrev next : Slot
  next = slot_after k e.command e.said (slots p)

  slots_grow : (q : ℕ) → Grows k (slots q) (slots_after k e slots q)
  slots_grow q = go (split q p)
    where
      go : Split q p → Grows k (slots q) (slots_after k e slots q)
      go (same z) = rw (ifb_eq q p next (slots q) z, z) (slot_grows k e.command e.said (slots p) (h p))
      go (other ne) = rw (ifb_ne q p next (slots q) ne) (slot_grows k e.command (refused 0) (slots q) (h q))

  call_low : (t : Said) → All (λ c. lower (slots c.process) k ≤ c.start) (call_of k e.command t (slots p))
  call_low (refused n) = tt
  call_low accepted = tt
  call_low (answered a n) = (at_slot (slots p) refl, tt)
    where
      at_slot : (s : Slot) → slots p ≡ s → lower (slots (ended p k a n s).process) k ≤ (ended p k a n s).start
      at_slot none z = rw z (omega arith)
      at_slot (running kind start steps) z = rw z (omega arith)

-- so no call starts before that of its process
later : (es : List Event) (k : ℕ) (slots : ℕ → Slot) → Low k slots → All (λ c. lower (slots c.process) k ≤ c.start) (calls_from k es slots)
unfolding calls_from
later [] k slots h = tt
later (e ∷ es) k slots h =
    let next = slots_after k e slots in
    all_join _ (call_of k e.command e.said (slots e.command.process)) _ (call_low k e slots h e.said)
    (all_of _ _ (λ c z. let y = (slots_grow k e slots h c.process).0 in omega arith) (calls_from (k + 1) es next) (later es (k + 1) next (λ q. (slots_grow k e slots h q).1)))

module _ (k : ℕ) (e : Event) (es : List Event) (slots : ℕ → Slot) (h : Low k slots) where
  abbrev own : Slot
  own = slots e.command.process

  abbrev rest : List Call
  rest = calls_from (k + 1) es (slots_after k e slots)

  call_first : (t : Said) → e.said ≡ t → InTurn rest → InTurn (call_of k e.command t own ++ rest)
  call_first (refused n) z r = r
  call_first accepted z r = r
  call_first (answered a n) z r = (all_of _ _ follows rest (later es (k + 1) (slots_after k e slots) (λ q. (slots_grow k e slots h q).1)), r)
    where
      follows : (d : Call) → lower (slots_after k e slots d.process) (k + 1) ≤ d.start → Follows (ended e.command.process k a n own) d
      follows d low eq =
          let x = ends e.command.process k a n own in
          let idle : slots_after k e slots d.process ≡ none =
          ifb_eq d.process e.command.process (slot_after k e.command e.said own) (slots d.process) (sym eq ∙ x.1) ∙ ap (λ t. slot_after k e.command t own) z in
          let w : k + 1 ≤ d.start = subst (λ s. lower s (k + 1) ≤ d.start) idle low in omega (arith, x.0)

in_turn_from : (es : List Event) (k : ℕ) (slots : ℕ → Slot) → Low k slots → InTurn (calls_from k es slots)
unfolding calls_from
in_turn_from [] k slots h = tt
in_turn_from (e ∷ es) k slots h = call_first k e es slots h e.said refl (in_turn_from es (k + 1) (slots_after k e slots) (λ q. (slots_grow k e slots h q).1))

-- CALLS OF ONE PROCESS DO NOT OVERLAP, in any list of events.
pub in_turn : (es : List Event) → InTurn (calls es)
in_turn es = in_turn_from es 1 (λ p. none) (λ q. omega arith)

-- the numbers of the answering steps are below that of the command after the list
ends_from : (es : List Event) (k : ℕ) (slots : ℕ → Slot) → All (λ (c : Call). c.end < k + length es) (calls_from k es slots)
unfolding calls_from
ends_from [] k slots = tt
ends_from (e ∷ es) k slots =
    all_join _ (call_of k e.command e.said (slots e.command.process)) _ (own e.said)
    (all_of _ _ (λ (c : Call) (z : c.end < k + 1 + length es). let y : c.end < k + suc (length es) = omega arith in y)
    (calls_from (k + 1) es (slots_after k e slots)) (ends_from es (k + 1) (slots_after k e slots)))
  where
    at_slot : (a : Answer) (n : ℕ) (s : Slot) → (ended e.command.process k a n s).end < k + suc (length es)
    at_slot a n s = let z = (ends e.command.process k a n s).0 in omega (arith, z)

    own : (t : Said) → All (λ (c : Call). c.end < k + suc (length es)) (call_of k e.command t (slots e.command.process))
    own (refused n) = tt
    own accepted = tt
    own (answered a n) = (at_slot a n (slots e.command.process), tt)

events_length : (cs : List Command) (m : Memory) → length (events m cs) ≡ length cs
unfolding events
events_length [] m = refl
events_length (c ∷ cs) m = ap suc (events_length cs (command m c.process c.order c.value).1)

-- no call ends after the last command
pub end_by : (m : Memory) (cs : List Command) → All (λ (c : Call). c.end ≤ length cs) (calls (events m cs))
end_by m cs =
    let es = events m cs in
    all_of _ _ (λ (c : Call) (z : c.end < 1 + length es). let y = events_length cs m in let x : c.end ≤ length cs = omega (arith, y) in x) (calls es) (ends_from es 1 (λ p. none))
