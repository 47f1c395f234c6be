-- The theorems about the trace: the access shown for a step is what `model`'s step does, the step does nothing else to a
-- shared item, and it depends on no other.
use mathlib.Core.Path.{◌≡◌, refl, sym, ap, ap₂, subst, ◌∙◌}
use mathlib.Core.Logic.{◌≢◌}
use mathlib.Core.List.{List}
use mathlib.Core.Bool.{Bool, true, false, cond}
use Prim.Native.Nat.{ℕ, ◌*◌, ◌<◌}
use native.Mathlib.Omega.{arith}
use Rattle.llsc.specs.declared.ProcessNumber.{ProcessNumber}
use Rattle.model.specs.declared.Bench.{Bench}
use Rattle.model.specs.declared.Process.{Process}
use Rattle.model.specs.declared.Moved.{Moved}
use Rattle.model.specs.Places.{linked}
use Rattle.model.specs.Words.{Layout, one_record}
use Rattle.model.specs.Points.{Point, idle, line1, line2, line3, line4, line5, line6, line7, line7copy, line8, line9, line10, line11}
use Rattle.model.specs.Points.{line12, line12valid, line13, line14, line14valid, line15, line17, line18, line19, line23}
use Rattle.model.specs.Machine.{stepped_in, step_at}
use Rattle.doings.specs.declared.Item.{Item}
use Rattle.doings.specs.declared.Item.TheVariants.{X, Bank, Help, Half}
use Rattle.doings.specs.Items.{Holding, item_in, item_at}
use Rattle.doings.specs.Own.{Own, own_in}
use Rattle.doings.specs.Doings
use Rattle.doings.specs.Doings.{read, ll, vl, sc, write, cleared, acted, Seen, seen, Touching, nothing, one, doing_at, effect}
use Rattle.doings.specs.Depends.{Alike, SameAfter}
use Rattle.doings.proofs.Layouts.{one_record_laid}
use Rattle.doings.proofs.ItemLaws.{Stands}
use Rattle.doings.proofs.Figure2.{Ranged, Follows, step_follows}
use Rattle.doings.proofs.Effects.{item_left, other_left, depends}
use Rattle.access.specs.declared.Act.TheVariants.{Sc}
use Rattle.access.specs.Accesses.{values_of, item_with, item_of, shown_act, shown, paper_line, doing_now, access_of}
use Rattle.access.specs.Truth.{holding_of, Says, TellsTruth, Stepped, DependsOn}

-- an item that holds v and u holds the values that it is shown with
shown_held : (i : Item) (b : Bench) (ws : List ℕ) {v u l : ℕ} → item_at i b ws ≡ record { first = v; second = u; links = l }
    → item_at i b ws ≡ holding_of (values_of i v u) l
shown_held X b ws e = e
shown_held (Bank i) b ws e = ap (λ (h : Holding). record { first = h.first; second = 0; links = h.links }) e
shown_held (Help i) b ws e = e
shown_held (Half f k) b ws e = ap (λ (h : Holding). record { first = h.first; second = 0; links = h.links }) e

-- an act shows the item that it touches
with_item : (i : Item) (v u : ℕ) → item_with (values_of i v u) ≡ i
with_item X v u = refl
with_item (Bank i) v u = refl
with_item (Help i) v u = refl
with_item (Half f k) v u = refl

pub item_shown : (i : Item) (a : Doings.Act) (s : Seen) → item_of (shown_act i a s) ≡ i
item_shown i read s = with_item i s.first s.second
item_shown i ll s = with_item i s.first s.second
item_shown i vl s = refl
item_shown i (sc v u) s = with_item i v u
item_shown i (write v u) s = with_item i v u

-- an act says what it does: from the bench b and the words ws it leaves b' and ws'
module _ (i : Item) (p : ProcessNumber) (b : Bench) (ws : List ℕ) (b' : Bench) (ws' : List ℕ) where
  abbrev old : Holding
  old = item_at i b ws

  abbrev new : Holding
  new = item_at i b' ws'

  sc_says : (t : Bool) (v u : ℕ) → linked old.links p ≡ t → new ≡ cond t (cleared v u) old → Says (Sc t (values_of i v u)) p old new
  sc_says true v u e left = (e, shown_held i b' ws' left)
  sc_says false v u e left = (e, left)

  act_says : (a : Doings.Act) → new ≡ acted a p old → Says (shown_act i a (seen p old)) p old new
  act_says read left = (shown_held i b ws refl, left)
  act_says ll left = (shown_held i b ws refl, shown_held i b' ws' left)
  act_says vl left = (refl, left)
  act_says (sc v u) left = sc_says (linked old.links p) v u refl left
  act_says (write v u) left = shown_held i b' ws' left

-- the buffers of one record lie at their own numbers, whatever N is
at_own_place : (i : Item) (b : Bench) (ws : List ℕ) (n : ℕ) → item_at i b ws ≡ item_in (one_record n) i b ws
at_own_place X b ws n = refl
at_own_place (Bank i) b ws n = refl
at_own_place (Help i) b ws n = refl
at_own_place (Half f k) b ws n = refl

-- one item is touched
abbrev pub IsOne : Touching Item Process → Type 0
IsOne (nothing out) = ⊥
IsOne (one d) = Unit {0}

pub one_at : (y : Point) → y ≢ idle → (n w : ℕ) (p : ProcessNumber) (o : Own Process) → IsOne (doing_at y n w p o)
unfolding doing_at
one_at idle ne n w p o = absurd (ne refl)
one_at line1 ne n w p o = tt
one_at line2 ne n w p o = tt
one_at line3 ne n w p o = tt
one_at line4 ne n w p o = tt
one_at line5 ne n w p o = tt
one_at line6 ne n w p o = tt
one_at line7 ne n w p o = tt
one_at line7copy ne n w p o = tt
one_at line8 ne n w p o = tt
one_at line9 ne n w p o = tt
one_at line10 ne n w p o = tt
one_at line11 ne n w p o = tt
one_at line12 ne n w p o = tt
one_at line12valid ne n w p o = tt
one_at line13 ne n w p o = tt
one_at line14 ne n w p o = tt
one_at line14valid ne n w p o = tt
one_at line15 ne n w p o = tt
one_at line17 ne n w p o = tt
one_at line18 ne n w p o = tt
one_at line19 ne n w p o = tt
one_at line23 ne n w p o = tt

-- the premises of `doings`
module _ {b : Bench} {q : Process} {p : ProcessNumber} {ws : List ℕ} (s : Stepped b q p ws) where
  stands : Stands (one_record b.n) (5 * b.n) b ws
  stands = record { laid = one_record_laid b.n; bank = s.bank; help = s.help; most = s.ready.lent.n_most; words = s.ready.lent.words }

  ranged : Ranged b.n b.w q p
  ranged = record {
    process = s.ready.lent.process;
    mybuf = s.ready.mybuf;
    x_buf = s.ready.x_buf;
    x_seq = s.ready.x_seq;
    b_buf = s.ready.b_buf;
    word = s.ready.word;
  }

  wide : 0 < b.w
  wide = omega (arith, s.ready.word)

  abbrev l : Layout
  l = one_record b.n

  told : (line : ℕ) (t : Touching Item Process) {out : Moved × List ℕ} → IsOne t → Follows l p b ws out t
      → TellsTruth p (shown line p t b ws) b ws out.0.bench out.1
  told line (nothing out) x f = absurd x
  told line (one d) {out} x f =
      let h = item_at d.item b ws in
      let b' = (effect l p (one d) b ws).0.bench in let ws' = (effect l p (one d) b ws).1 in
      let left : item_at d.item b' ws' ≡ acted d.act p h =
      at_own_place d.item b' ws' b.n ∙ item_left stands ranged.process wide d f.inside f.areas ∙ f.exact in
      let says : Says (shown_act d.item d.act (seen p h)) p h (item_at d.item b' ws') = act_says d.item p b ws b' ws' d.act left in
      let is = item_shown d.item d.act (seen p h) in
      let tells : TellsTruth p (shown line p (one d) b ws) b ws b' ws' = record {
        item = subst (λ (i : Item). Says (shown_act d.item d.act (seen p h)) p (item_at i b ws) (item_at i b' ws')) (sym is) says;
        others = λ i there ne. at_own_place i b' ws' b.n ∙ other_left stands ranged.process wide (one d) f.inside f.areas i there (λ e. ne (sym e ∙ sym is));
      } in
      subst (λ (r : Moved × List ℕ). TellsTruth p (shown line p (one d) b ws) b ws r.0.bench r.1) (sym f.same) tells

  -- what a trace says of a step of p is true, at every point but idle, where no step is made
  pub trace_is_true : (y : Point) → y ≢ idle
      → TellsTruth p (access_of y p b q ws) b ws (step_at y p b q ws).0.bench (step_at y p b q ws).1
  unfolding access_of step_at
  trace_is_true y ne = told (paper_line y) (doing_now y p b q ws) (one_at y ne b.n b.w p (own_in l b.w p q ws)) (step_follows stands ranged y)

-- two memories
module _ {b b₂ : Bench} {q : Process} {p : ProcessNumber} {ws ws₂ : List ℕ} (s : Stepped b q p ws) (s₂ : Stepped b₂ q p ws₂) where
  same_doing : (On : Item → Type 0) (y : Point) → Alike On p q (one_record b.n) (one_record b₂.n) b b₂ ws ws₂ → doing_now y p b q ws ≡ doing_now y p b₂ q ws₂
  same_doing On y a = ap₂ (λ (n w : ℕ). doing_at y n w p (own_in (one_record b.n) b.w p q ws)) a.n a.w ∙ ap (doing_at y b₂.n b₂.w p) a.own

  alike_left : (line : ℕ) (t : Touching Item Process) {out out₂ : Moved × List ℕ} → IsOne t
      → Follows (one_record b.n) p b ws out t → Follows (one_record b₂.n) p b₂ ws₂ out₂ t
      → Alike (λ i. item_of (shown line p t b ws).act ≡ i) p q (one_record b.n) (one_record b₂.n) b b₂ ws ws₂
      → SameAfter (λ i. item_of (shown line p t b ws).act ≡ i) p (one_record b.n) (one_record b₂.n) out out₂
  alike_left line (nothing out) x f f₂ a = absurd x
  alike_left line (one d) {out} {out₂} x f f₂ a =
      let is = item_shown d.item d.act (seen p (item_at d.item b ws)) in
      subst (λ (j : Item). SameAfter (λ i. j ≡ i) p (one_record b.n) (one_record b₂.n) out out₂) (sym is)
      (depends (stands s) (stands s₂) (ranged s).process (wide s) (one d) f f₂
      (subst (λ (j : Item). Alike (λ i. j ≡ i) p q (one_record b.n) (one_record b₂.n) b b₂ ws ws₂) is a))

-- the item shown is the one that the step depends on
pub step_depends : {b : Bench} {q : Process} {p : ProcessNumber} {ws : List ℕ} → Stepped b q p ws → (y : Point) → y ≢ idle
    → DependsOn y p b q ws (item_of (access_of y p b q ws).act)
unfolding access_of step_at
step_depends {b} {q} {p} {ws} s y ne b₂ ws₂ s₂ a =
    let l₂ = one_record b₂.n in
    let one_item = one_at y ne b.n b.w p (own_in (one_record b.n) b.w p q ws) in
    let same = same_doing s s₂ (λ i. item_of (access_of y p b q ws).act ≡ i) y a in
    let again = subst (Follows l₂ p b₂ ws₂ (stepped_in l₂ y p b₂ q ws₂)) (sym same) (step_follows (stands s₂) (ranged s₂) y) in
    alike_left s s₂ (paper_line y) (doing_now y p b q ws) one_item (step_follows (stands s) (ranged s) y) again a
