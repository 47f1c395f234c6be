-- What the effect of a doing leaves: the own process, the item, every other item. So a command depends on its item and
-- its own process alone.
use mathlib.Core.Path.{◌≡◌, refl, sym, ap, subst, ◌∙◌}
use mathlib.Core.List.{List}
use Prim.Native.Nat.{ℕ, ◌<◌}
use native.Mathlib.Omega.{arith}
use lib.ListN.{length}
use Rattle.llsc.specs.declared.ProcessNumber.{ProcessNumber}
use Rattle.model.specs.declared.Bench.{Bench}
use Rattle.model.specs.declared.Process.{Process}
use Rattle.model.specs.declared.Reply.{Reply}
use Rattle.model.specs.declared.Moved.{Moved}
use Rattle.model.specs.Words.{Layout}
use Rattle.doings.specs.declared.Item.{Item}
use Rattle.doings.specs.Items.{InBench, Holding, item_in}
use Rattle.doings.specs.Own.{Own, own_in}
use Rattle.doings.specs.Doings.{acted, seen, Doing, Touching, nothing, one, Touches, bench_after, words_after, outcome, effect}
use Rattle.doings.specs.Depends.{Alike, SameAfter}
use Rattle.doings.proofs.ItemLaws.{Inside, inside_named, trim, bench_n, bench_w, words_length, Stands, item_put, item_other}
use Rattle.doings.proofs.AreaLaws.{Areas, own_put, areas_item}
use Rattle.doings.proofs.Figure2.{InsideT, Follows}

-- the effect of t, whose item is there and whose areas have W words
module _ {l : Layout} {rows : ℕ} {p : ProcessNumber} {b : Bench} {ws : List ℕ} (z : Stands l rows b ws) (hp : p.0 < b.n) (hw : 0 < b.w) where
  pub after_n : (t : Touching Item Process) → (bench_after l p t b ws).n ≡ b.n
  after_n (nothing out) = refl
  after_n (one d) = bench_n b (acted d.act p (item_in l d.item b ws)) d.item

  pub after_w : (t : Touching Item Process) → (bench_after l p t b ws).w ≡ b.w
  after_w (nothing out) = refl
  after_w (one d) = bench_w b (acted d.act p (item_in l d.item b ws)) d.item

  after_length : (t : Touching Item Process) → length (words_after l p t b ws) ≡ length ws
  after_length (nothing out) = refl
  after_length (one d) = words_length b.w l ws (acted d.act p (item_in l d.item b ws)) d.item

  -- the own process
  pub own_left : (t : Touching Item Process) → Areas b.w (outcome l p t b ws).1
      → own_in l b.w p (outcome l p t b ws).1.process (effect l p t b ws).1 ≡ (outcome l p t b ws).1
  own_left t f = own_put z.laid b.w p hp (words_after l p t b ws) (omega (arith, z.words, after_length t)) (outcome l p t b ws).1 f

  -- an item lies outside the areas
  beside : (t : Touching Item Process) → Areas b.w (outcome l p t b ws).1 → (i : Item) → InBench b i
      → item_in l i (bench_after l p t b ws) (effect l p t b ws).1 ≡ item_in l i (bench_after l p t b ws) (words_after l p t b ws)
  beside t f i k =
      let there : InBench (bench_after l p t b ws) i = record { index = omega (arith, k.index, after_n t); word = omega (arith, k.word, after_w t) } in
      areas_item z.laid b.w p hp (words_after l p t b ws) (bench_after l p t b ws) (after_n t) (after_w t) (outcome l p t b ws).1 f i there

  named : (i : Item) → Inside b i → InBench b i
  named = inside_named b (omega arith) hw

  -- the item
  pub item_left : (d : Doing Item Process) → Inside b d.item → Areas b.w (outcome l p (one d) b ws).1
      → item_in l d.item (bench_after l p (one d) b ws) (effect l p (one d) b ws).1 ≡ trim d.item (acted d.act p (item_in l d.item b ws))
  item_left d k f = beside (one d) f d.item (named d.item k) ∙ item_put z (acted d.act p (item_in l d.item b ws)) d.item k

  -- every other item
  pub other_left : (t : Touching Item Process) → InsideT b t → Areas b.w (outcome l p t b ws).1 → (i : Item) → InBench b i → (Touches t i → ⊥)
      → item_in l i (bench_after l p t b ws) (effect l p t b ws).1 ≡ item_in l i b ws
  other_left (nothing out) k f i there ne = beside (nothing out) f i there
  other_left (one d) k f i there ne =
      beside (one d) f i there ∙ item_other z (acted d.act p (item_in l d.item b ws)) d.item i (named d.item k) there (λ e. ne (sym e))

-- two memories that are alike in what t touches
module _ {l l₂ : Layout} {rows rows₂ : ℕ} {p : ProcessNumber} {b b₂ : Bench} {ws ws₂ : List ℕ} (z : Stands l rows b ws) (z₂ : Stands l₂ rows₂ b₂ ws₂)
    (hp : p.0 < b.n) (hw : 0 < b.w) {q : Process} where
  agree : (t : Touching Item Process) → Alike (Touches t) p q l l₂ b b₂ ws ws₂ → outcome l p t b ws ≡ outcome l₂ p t b₂ ws₂
  agree (nothing out) a = refl
  agree (one d) a = ap (λ (h : Holding). d.next (seen p h)) (a.item d.item refl)

  left_alike : (t : Touching Item Process) → InsideT b t → InsideT b₂ t → Areas b.w (outcome l p t b ws).1 → Areas b₂.w (outcome l₂ p t b₂ ws₂).1
      → Alike (Touches t) p q l l₂ b b₂ ws ws₂ → (i : Item) → Touches t i
      → item_in l i (bench_after l p t b ws) (effect l p t b ws).1 ≡ item_in l₂ i (bench_after l₂ p t b₂ ws₂) (effect l₂ p t b₂ ws₂).1
  left_alike (nothing out) k k₂ f f₂ a i x = absurd x
  left_alike (one d) k k₂ f f₂ a i x =
      subst (λ (j : Item). item_in l j (bench_after l p (one d) b ws) (effect l p (one d) b ws).1 ≡ item_in l₂ j (bench_after l₂ p (one d) b₂ ws₂) (effect l₂ p (one d) b₂ ws₂).1) x
      (item_left z hp hw d k f
      ∙ ap (λ (h : Holding). trim d.item (acted d.act p h)) (a.item d.item refl)
      ∙ sym (item_left z₂ (omega (arith, a.n)) (omega (arith, a.w)) d k₂ f₂))

  pub depends : {out out₂ : Moved × List ℕ} (t : Touching Item Process) → Follows l p b ws out t → Follows l₂ p b₂ ws₂ out₂ t
      → Alike (Touches t) p q l l₂ b b₂ ws ws₂ → SameAfter (Touches t) p l l₂ out out₂
  depends {out} {out₂} t f f₂ a =
      let same = agree t a in
      let own : own_in l b.w p (outcome l p t b ws).1.process (effect l p t b ws).1 ≡ own_in l₂ b₂.w p (outcome l₂ p t b₂ ws₂).1.process (effect l₂ p t b₂ ws₂).1 =
      own_left z hp hw t f.areas ∙ ap (λ (r : Reply × Own Process). r.1) same
      ∙ sym (own_left z₂ (omega (arith, a.n)) (omega (arith, a.w)) t f₂.areas) in
      let left : SameAfter (Touches t) p l l₂ (effect l p t b ws) (effect l₂ p t b₂ ws₂) = record {
        reply = ap (λ (r : Reply × Own Process). r.0) same;
        own =
            ap (λ (w : ℕ). own_in l w p (outcome l p t b ws).1.process (effect l p t b ws).1) (after_w z hp hw t) ∙ own
            ∙ ap (λ (w : ℕ). own_in l₂ w p (outcome l₂ p t b₂ ws₂).1.process (effect l₂ p t b₂ ws₂).1) (sym (after_w z₂ (omega (arith, a.n)) (omega (arith, a.w)) t));
        item = left_alike t f.inside f₂.inside f.areas f₂.areas a;
      } in
      let left₂ : SameAfter (Touches t) p l l₂ (effect l p t b ws) out₂ = subst (SameAfter (Touches t) p l l₂ (effect l p t b ws)) (sym f₂.same) left in
      subst (λ (r : Moved × List ℕ). SameAfter (Touches t) p l l₂ r out₂) (sym f.same) left₂
