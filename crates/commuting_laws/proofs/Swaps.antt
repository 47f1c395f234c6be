-- Two doings that are apart change places: one argument from the laws of the parts, whatever the lines are.
use mathlib.Core.Path.{◌≡◌, refl, sym, ap, ap₂, subst, ◌∙◌}
use mathlib.Core.Logic.{◌≢◌, ◌⊎◌, inl, inr}
use mathlib.Core.Bool.{true}
use Prim.Native.Nat.{ℕ, ◌<◌}
use native.Mathlib.Omega.{arith}
use Rattle.llsc.specs.declared.ProcessNumber.{ProcessNumber}
use Rattle.model.specs.declared.Bench.{Bench}
use Rattle.model.specs.declared.Reply.{Reply}
use Rattle.station.specs.declared.StationProcess.{StationProcess}
use Rattle.station.specs.Station.{StationMemory}
use Rattle.station.specs.Projection.{bench_of}
use Rattle.doings.specs.declared.Item.{Item}
use Rattle.doings.specs.declared.Item.TheVariants.{X, Bank, Help, Half}
use Rattle.doings.specs.Items.{Holding}
use Rattle.doings.specs.Own.{Own}
use Rattle.doings.specs.Doings.{Apart, Act, looks, acted, seen, Doing, Touching, nothing, one}
use Rattle.doings.proofs.ItemLaws.{Inside, trim}
use Rattle.doings.proofs.AreaLaws.{Areas}
use Rattle.doings.proofs.Looks.{look_unseen, looks_swap, apart_sym}
use Rattle.commuting_laws.specs.Parts.{StationItem, item_of, put_item, own_of, put_own}
use Rattle.commuting_laws.specs.StationDoings.{shared_after, outcome_of, effect_on}
use Rattle.commuting_laws.proofs.StationParts.{Sized, Present, present_named, same_station_item, item_put, item_other, item_again, item_sized, items_swap}
use Rattle.commuting_laws.proofs.StationOwns.{item_own, own_item, item_own_swap, owns_swap}

-- the item of a doing is there, and can hold what p's act leaves in it
abbrev pub PresentT : StationMemory → Touching StationItem StationProcess → Type 0
PresentT s (nothing out) = Unit {0}
PresentT s (one d) = Present s d.item

abbrev Holdable : StationMemory → ProcessNumber → StationItem → Act → Type 0
Holdable s p i a = trim i.item (acted a p (item_of i s)) ≡ acted a p (item_of i s)

abbrev pub Exact : StationMemory → ProcessNumber → Touching StationItem StationProcess → Type 0
Exact s p (nothing out) = Unit {0}
Exact s p (one d) = Holdable s p d.item d.act

-- an item stays present where the sizes stay
inside_like : (b c : Bench) → b.n ≡ c.n → b.w ≡ c.w → (i : Item) → Inside b i → Inside c i
inside_like b c e f X k = k
inside_like b c e f (Bank i) k = omega arith
inside_like b c e f (Help i) k = omega arith
inside_like b c e f (Half g m) k = (omega (arith, k.0), omega (arith, k.1))

module _ (s : StationMemory) (z : Sized s) where
  pub shared_sized : (t : Touching StationItem StationProcess) (p : ProcessNumber) → Sized (shared_after t p s)
  shared_sized (nothing out) p = z
  shared_sized (one d) p = item_sized s z d.item (acted d.act p (item_of d.item s))

  pub shared_n : (t : Touching StationItem StationProcess) (p : ProcessNumber) → (shared_after t p s).n ≡ s.n
  shared_n (nothing out) p = refl
  shared_n (one d) p = refl

  pub shared_w : (t : Touching StationItem StationProcess) (p : ProcessNumber) → (shared_after t p s).w ≡ s.w
  shared_w (nothing out) p = refl
  shared_w (one d) p = refl

  pub shared_r : (t : Touching StationItem StationProcess) (p : ProcessNumber) → (shared_after t p s).r ≡ s.r
  shared_r (nothing out) p = refl
  shared_r (one d) p = refl

  pub present_shared : (t u : Touching StationItem StationProcess) (p : ProcessNumber) → PresentT s u → PresentT (shared_after t p s) u
  present_shared t (nothing out) p k = k
  present_shared t (one e) p k = record {
    number = omega (arith, k.number, shared_r t p);
    item = inside_like (bench_of s e.item.number) (bench_of (shared_after t p s) e.item.number) (sym (shared_n t p)) (sym (shared_w t p)) e.item.item k.item;
  }

  -- an act on an item is no matter of the processes' own parts
  pub shared_own : (t : Touching StationItem StationProcess) (p q : ProcessNumber) → q.0 < s.n → PresentT s t → own_of (shared_after t p s) q ≡ own_of s q
  shared_own (nothing out) p q hq k = refl
  shared_own (one d) p q hq k = item_own s z q hq d.item (present_named s z d.item k) (acted d.act p (item_of d.item s))

  module _ (q : ProcessNumber) (hq : q.0 < s.n) (g : Own StationProcess) (f : Areas s.w g) where
    pub shared_put : (t : Touching StationItem StationProcess) (p : ProcessNumber) → PresentT s t → shared_after t p (put_own q g s) ≡ put_own q g (shared_after t p s)
    shared_put (nothing out) p k = refl
    shared_put (one d) p k =
        let there = present_named s z d.item k in
        ap (λ (h : Holding). put_item d.item (acted d.act p h) (put_own q g s)) (own_item s z q hq g f d.item there)
        ∙ item_own_swap s z q hq g f d.item there (acted d.act p (item_of d.item s))

    pub outcome_put : (t : Touching StationItem StationProcess) (p : ProcessNumber) → PresentT s t → outcome_of t p (put_own q g s) ≡ outcome_of t p s
    outcome_put (nothing out) p k = refl
    outcome_put (one d) p k = ap (λ (h : Holding). d.next (seen p h)) (own_item s z q hq g f d.item (present_named s z d.item k))

  -- p's act and then q's
  module _ (p q : ProcessNumber) (ne : q.0 ≢ p.0) where
    -- two looks at one item
    abbrev looked : StationItem → Act → StationMemory
    looked i a = put_item i (acted a p (item_of i s)) s

    look_left : (i : StationItem) (a : Act) → Present s i → Holdable s p i a → item_of i (looked i a) ≡ acted a p (item_of i s)
    look_left i a k x = item_put s z i (acted a p (item_of i s)) k ∙ x

    look_seen : (i : StationItem) (a : Act) → Present s i → Holdable s p i a → looks a ≡ true → seen q (item_of i (looked i a)) ≡ seen q (item_of i s)
    look_seen i a k x la = ap (seen q) (look_left i a k x) ∙ look_unseen p q ne a (item_of i s) la

    look_put : (i : StationItem) (a b : Act) → Present s i → Holdable s p i a
        → put_item i (acted b q (item_of i (looked i a))) (looked i a) ≡ put_item i (acted b q (acted a p (item_of i s))) s
    look_put i a b k x =
        ap (λ (h : Holding). put_item i (acted b q h) (looked i a)) (look_left i a k x)
        ∙ item_again s z i (acted a p (item_of i s)) (acted b q (acted a p (item_of i s))) (present_named s z i k)

    -- two items
    other_seen : (d e : Doing StationItem StationProcess) → Present s d.item → Present s e.item → d.item ≢ e.item
        → item_of e.item (shared_after (one d) p s) ≡ item_of e.item s
    other_seen d e k m n =
        item_other s z d.item (acted d.act p (item_of d.item s)) e.item (present_named s z d.item k) (present_named s z e.item m) (λ x. n (sym x))

    -- q sees the same after p's act
    pub outcome_shared : (t u : Touching StationItem StationProcess) → PresentT s t → PresentT s u → Exact s p t → Apart t u
        → outcome_of u q (shared_after t p s) ≡ outcome_of u q s
    outcome_shared t (nothing out) k m x a = refl
    outcome_shared (nothing out) (one e) k m x a = refl
    outcome_shared (one d) (one e) k m x (inl n) = ap (λ (h : Holding). e.next (seen q h)) (other_seen d e k m n)
    outcome_shared (one d) (one e) k m x (inr y) = go (same_station_item d.item e.item)
      where
        go : (d.item ≡ e.item) ⊎ (d.item ≢ e.item) → outcome_of (one e) q (shared_after (one d) p s) ≡ outcome_of (one e) q s
        go (inr n) = ap (λ (h : Holding). e.next (seen q h)) (other_seen d e k m n)
        go (inl v) =
            let P : StationItem → Type 0 = λ i. seen q (item_of i (looked d.item d.act)) ≡ seen q (item_of i s) in
            ap e.next (subst P v (look_seen d.item d.act k x y.0))

-- the shared part comes out the same
module _ (s : StationMemory) (z : Sized s) (p q : ProcessNumber) (ne : q.0 ≢ p.0) where
  items_apart : (d e : Doing StationItem StationProcess) → Present s d.item → Present s e.item → d.item ≢ e.item
      → shared_after (one e) q (shared_after (one d) p s) ≡ shared_after (one d) p (shared_after (one e) q s)
  items_apart d e k m n =
      let i = d.item in let j = e.item in
      let g = acted d.act p (item_of i s) in let h = acted e.act q (item_of j s) in
      ap (λ (x : Holding). put_item j (acted e.act q x) (put_item i g s)) (other_seen s z p q ne d e k m n)
      ∙ items_swap s z g h i j (present_named s z i k) (present_named s z j m) (λ x. n (sym x))
      ∙ sym (ap (λ (x : Holding). put_item i (acted d.act p x) (put_item j h s)) (other_seen s z q p (λ x. ne (sym x)) e d m k (λ x. n (sym x))))

  -- two looks at one item
  look_look : (i : StationItem) (a b : Act) → Present s i → Holdable s p i a → Holdable s q i b → looks a ≡ true → looks b ≡ true
      → put_item i (acted b q (item_of i (put_item i (acted a p (item_of i s)) s))) (put_item i (acted a p (item_of i s)) s)
      ≡ put_item i (acted a p (item_of i (put_item i (acted b q (item_of i s)) s))) (put_item i (acted b q (item_of i s)) s)
  look_look i a b k x y la lb =
      look_put s z p q ne i a b k x ∙ ap (λ (h : Holding). put_item i h s) (looks_swap p q ne a b (item_of i s) la lb)
      ∙ sym (look_put s z q p (λ e. ne (sym e)) i b a k y)

  pub shared_swap : (t u : Touching StationItem StationProcess) → PresentT s t → PresentT s u → Exact s p t → Exact s q u → Apart t u
      → shared_after u q (shared_after t p s) ≡ shared_after t p (shared_after u q s)
  shared_swap (nothing o) u k m x y a = refl
  shared_swap (one d) (nothing out) k m x y a = refl
  shared_swap (one d) (one e) k m x y (inl n) = items_apart d e k m n
  shared_swap (one d) (one e) k m x y (inr v) = go (same_station_item d.item e.item)
    where
      go : (d.item ≡ e.item) ⊎ (d.item ≢ e.item) → shared_after (one e) q (shared_after (one d) p s) ≡ shared_after (one d) p (shared_after (one e) q s)
      go (inr n) = items_apart d e k m n
      go (inl same) =
          let S : StationItem → Type 0 = λ j.
          put_item j (acted e.act q (item_of j (put_item d.item (acted d.act p (item_of d.item s)) s))) (put_item d.item (acted d.act p (item_of d.item s)) s)
          ≡ put_item d.item (acted d.act p (item_of d.item (put_item j (acted e.act q (item_of j s)) s))) (put_item j (acted e.act q (item_of j s)) s) in
          let back : Holdable s q d.item e.act = subst (λ (j : StationItem). Holdable s q j e.act) (sym same) y in
          subst S same (look_look d.item d.act e.act k x back v.0 v.1)

-- t of p and then u of q
module _ (s : StationMemory) (z : Sized s) (p q : ProcessNumber) (ne : q.0 ≢ p.0) (hp : p.0 < s.n) (hq : q.0 < s.n)
    (t u : Touching StationItem StationProcess) (kt : PresentT s t) (ku : PresentT s u) (xt : Exact s p t) (ft : Areas s.w (outcome_of t p s).1) (a : Apart t u) where
  abbrev o : Own StationProcess
  o = (outcome_of t p s).1

  abbrev m : StationMemory
  m = shared_after t p s

  fits : Areas m.w o
  fits = subst (λ (x : ℕ). Areas x o) (sym (shared_w s z t p)) ft

  below_p : p.0 < m.n
  below_p = omega (arith, hp, shared_n s z t p)

  pub same_outcome : outcome_of u q (effect_on t p s).1 ≡ outcome_of u q s
  same_outcome = outcome_put m (shared_sized s z t p) p below_p o fits u q (present_shared s z t u p ku) ∙ outcome_shared s z p q ne t u kt ku xt a

  pub both : (effect_on u q (effect_on t p s).1).1 ≡ put_own q (outcome_of u q s).1 (put_own p o (shared_after u q m))
  both =
      ap₂ (λ (x : Reply × Own StationProcess) (y : StationMemory). put_own q x.1 y) same_outcome
      (shared_put m (shared_sized s z t p) p below_p o fits u q (present_shared s z t u p ku))

pub effects_swap : (s : StationMemory) → Sized s → (p q : ProcessNumber) → q.0 ≢ p.0 → p.0 < s.n → q.0 < s.n → (t u : Touching StationItem StationProcess)
    → PresentT s t → PresentT s u → Exact s p t → Exact s q u → Areas s.w (outcome_of t p s).1 → Areas s.w (outcome_of u q s).1 → Apart t u
    → (effect_on u q (effect_on t p s).1).1 ≡ (effect_on t p (effect_on u q s).1).1
effects_swap s z p q ne hp hq t u kt ku xt xu ft fu a =
    let mt = shared_after t p s in let m = shared_after u q mt in
    let zt = shared_sized s z t p in let zm = shared_sized mt zt u q in
    let w : m.w ≡ s.w = shared_w mt zt u q ∙ shared_w s z t p in
    let n : m.n ≡ s.n = shared_n mt zt u q ∙ shared_n s z t p in
    let fit : (g : Own StationProcess) → Areas s.w g → Areas m.w g = λ g f. subst (λ (x : ℕ). Areas x g) (sym w) f in
    both s z p q ne hp hq t u kt ku xt ft a
    ∙ owns_swap m zm p (omega (arith, hp, n)) (outcome_of t p s).1 (fit (outcome_of t p s).1 ft) q (omega (arith, hq, n)) ne (outcome_of u q s).1 (fit (outcome_of u q s).1 fu)
    ∙ ap (λ (x : StationMemory). put_own p (outcome_of t p s).1 (put_own q (outcome_of u q s).1 x)) (shared_swap s z p q ne t u kt ku xt xu a)
    ∙ sym (both s z q p (λ x. ne (sym x)) hq hp u t ku kt xu fu (apart_sym t u a))
