-- What holds of the words that commands bring holds of the words that answered SCs offered, and, with the set-up value,
-- of the words that LLs answered.
use mathlib.Core.Path.{◌≡◌, ap, sym, subst}
use mathlib.Core.Bool.{Bool, true, false, cond}
use mathlib.Core.List.{List, [], ◌∷◌, map}
use Prim.Native.Nat.{ℕ, ◌+◌}
use lib.Dec.{leb}
use lib.ListN.{get_or, drop}
use Rattle.llsc.specs.declared.Order.{Order}
use Rattle.llsc.specs.declared.Order.TheVariants.{StartLl, StartSc, StartVl, Step}
use Rattle.model.specs.Machine.{Memory}
use Rattle.llsc.specs.Answers.{Said, Answer, ll_words, sc_truth, vl_truth, refused, accepted, answered}
use Rattle.llsc.specs.Object.{Kind, ll, sc, vl, set_at, Object, fresh, tell, feed, serve}
use Rattle.llsc.specs.History.{Command, Event, Slot, none, running, Call, call_of, slot_after, slots_after, ordered, calls_from, calls}
use Rattle.model.specs.History.{event_of, events}
use Rattle.llsc.specs.Linearizable.{All, Timed, Linearization, insert, sort_into, in_moment_order, fed}
use Rattle.laws.proofs.Updates.{Split, same, other, split, ifb_eq, ifb_ne, by_test}
use Rattle.serving.proofs.Sorting.{all_insert}
use Rattle.laws.proofs.AllLaws.{all_join, all_both, map_all}

module _ (P : List ℕ → Type 0) where
  abbrev pub OfKind : Kind → Type 0
  OfKind ll = Unit {0}
  OfKind vl = Unit {0}
  OfKind (sc offered) = P offered

  abbrev pub OfAnswer : Answer → Type 0
  OfAnswer (ll_words v) = P v
  OfAnswer (sc_truth t) = Unit {0}
  OfAnswer (vl_truth t) = Unit {0}

  abbrev OfSlot : Slot → Type 0
  OfSlot none = Unit {0}
  OfSlot (running kind start steps) = OfKind kind

  slot_words : (k : ℕ) (c : Command) (t : Said) (s : Slot) → P c.value → OfSlot s → OfSlot (slot_after k c t s)
  slot_words k c (refused n) s b a = a
  slot_words k c (answered x n) s b a = tt
  slot_words k c accepted s b a = go c.order s a
    where
      go : (o : Order) (s : Slot) → OfSlot s → OfSlot (ordered o k c.value s)
      go StartLl s a = tt
      go StartSc s a = b
      go StartVl s a = tt
      go Step none a = tt
      go Step (running kind start steps) a = a

  call_words : (k : ℕ) (c : Command) (t : Said) (s : Slot) → OfSlot s → All (λ (c : Call). OfKind c.kind) (call_of k c t s)
  call_words k c (refused n) s a = tt
  call_words k c accepted s a = tt
  call_words k c (answered x n) none a = (tt, tt)
  call_words k c (answered x n) (running kind start steps) a = (a, tt)

  slots_words : (k : ℕ) (e : Event) (slots : ℕ → Slot) → P e.command.value → ((q : ℕ) → OfSlot (slots q)) → (q : ℕ) → OfSlot (slots_after k e slots q)
  slots_words k e slots b a q = go e.command.process (split q e.command.process)
    where
      go : (p : ℕ) → Split q p → OfSlot (set_at p (slot_after k e.command e.said (slots p)) slots q)
      go p (same z) = rw (ifb_eq q p (slot_after k e.command e.said (slots p)) (slots q) z) (slot_words k e.command e.said (slots p) b (a p))
      go p (other ne) = rw (ifb_ne q p (slot_after k e.command e.said (slots p)) (slots q) ne) (a q)

  abbrev OfCalls : List Call → Type 0
  OfCalls cs = All (λ (c : Call). OfKind c.kind) cs

  offers_from : (cs : List Command) (m : Memory) (k : ℕ) (slots : ℕ → Slot) → All (λ (c : Command). P c.value) cs
      → ((q : ℕ) → OfSlot (slots q)) → OfCalls (calls_from k (events m cs) slots)
  unfolding calls_from events
  offers_from [] m k slots b a = tt
  offers_from (c ∷ cs) m k slots b a =
      let said = (event_of m c).said in
      all_join _ (call_of k c said (slots c.process)) _ (call_words k c said (slots c.process) (a c.process)) (offers_from cs _ (k + 1) _ b.1 (slots_words k (event_of m c) slots b.0 a))

  pub offers : (cs : List Command) (m : Memory) → All (λ (c : Command). P c.value) cs → OfCalls (calls (events m cs))
  offers cs m b = offers_from cs m 1 (λ p. none) b (λ q. tt)

  -- what the object answers
  tell_words : (p : ℕ) (k : Kind) (o : Object) → P o.words → OfAnswer (tell p k o)
  tell_words p ll o a = a
  tell_words p (sc v) o a = tt
  tell_words p vl o a = tt

  feed_words : (p : ℕ) (k : Kind) (o : Object) → P o.words → OfKind k → P (feed p k o).words
  feed_words p ll o a b = a
  feed_words p (sc v) o a b = by_test (λ (u : Object). P u.words) (o.link p) (λ _. b) (λ _. a)
  feed_words p vl o a b = a

  abbrev answers : List Timed → List Answer
  answers us = map (λ (t : Timed). t.call.answer) us

  served_words : (us : List Timed) (o : Object) → P o.words → All (λ (t : Timed). OfKind t.call.kind) us
      → serve o (map fed us) ≡ answers us → All (λ (t : Timed). OfAnswer t.call.answer) us
  served_words [] o a b e = tt
  served_words (u ∷ us) o a b e =
      let p = u.call.process in let k = u.call.kind in
      let first : tell p k o ≡ u.call.answer = ap (λ xs. get_or xs 0 (sc_truth false)) e in
      let others : serve (feed p k o) (map fed us) ≡ answers us = ap (drop 1) e in
      (subst OfAnswer first (tell_words p k o a), served_words us (feed p k o) (feed_words p k o a b.0) b.1 others)

-- through the sort, and back
pub sorted_all : (Q : Timed → Type 0) (ts us : List Timed) → All Q ts → All Q us → All Q (sort_into ts us)
sorted_all Q [] us a b = b
sorted_all Q (t ∷ ts) us a b = sorted_all Q ts (insert t us) a.1 (all_insert Q t us a.0 b)

insert_all : (Q : Timed → Type 0) (t : Timed) (us : List Timed) → All Q (insert t us) → Q t × All Q us
insert_all Q t [] a = (a.0, tt)
insert_all Q t (u ∷ us) a = go (leb u.moment t.moment) (insert_all Q t us) a
  where
    go : (b : Bool) → (All Q (insert t us) → Q t × All Q us) → All Q (cond b (u ∷ insert t us) (t ∷ u ∷ us)) → Q t × All Q (u ∷ us)
    go true f a = let z = f a.1 in (z.0, (a.0, z.1))
    go false f a = (a.0, a.1)

all_sorted : (Q : Timed → Type 0) (ts us : List Timed) → All Q (sort_into ts us) → All Q ts × All Q us
all_sorted Q [] us a = (tt, a)
all_sorted Q (t ∷ ts) us a = let z = all_sorted Q ts (insert t us) a in let y = insert_all Q t us z.1 in ((y.0, z.0), y.1)

pub answered_words_lem : (P : List ℕ → Type 0) (places : ℕ) (value : List ℕ) (cs : List Call) (l : Linearization places value cs) → P value → OfCalls P cs
    → All (λ (t : Timed). OfKind P t.call.kind × OfAnswer P t.call.answer) l.timed
answered_words_lem P places value cs l a b =
    let ts = l.timed in
    let k : All (λ (t : Timed). OfKind P t.call.kind) ts = map_all (λ (t : Timed). t.call) (λ (c : Call). OfKind P c.kind) ts (subst (OfCalls P) (sym l.same_calls) b) in
    let served = served_words P (in_moment_order ts) (fresh value) a (sorted_all _ ts [] k tt) l.served in
    all_both _ _ ts k (all_sorted (λ (t : Timed). OfAnswer P t.call.answer) ts [] served).0
