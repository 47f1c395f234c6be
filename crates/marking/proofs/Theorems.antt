-- The mark of a line is `commute`'s condition.
use mathlib.Core.Path.{◌≡◌, refl, sym, ap, ap₂, ◌∙◌}
use mathlib.Core.Logic.{◌≢◌, inl, inr}
use mathlib.Core.List.{List}
use mathlib.Core.Bool.{Bool, true, false, not, ◌&&◌, ◌||◌}
use Prim.Native.Nat.{ℕ, ◌%◌}
use native.Mathlib.Omega.{arith}
use lib.Dec.{eqb}
use borrow.Author.Tests.{eqb-true, eqb-false, eq-eqb, ne_eqb}
use Rattle.llsc.specs.declared.ProcessNumber.{ProcessNumber}
use Rattle.model.specs.declared.Bench.{Bench}
use Rattle.model.specs.declared.Process.{Process}
use Rattle.model.specs.Points.{point_of}
use Rattle.model.specs.Records.{record_at}
use Rattle.model.specs.Words.{one_record}
use Rattle.model.specs.SetUp.{set_up}
use Rattle.model.specs.History.{next}
use Rattle.after_commands.specs.After.{after}
use Rattle.doings.specs.declared.Item.{Item}
use Rattle.doings.specs.declared.Item.TheVariants.{X, Bank, Help, Half}
use Rattle.doings.specs.Items.{item_at}
use Rattle.doings.specs.Own.{own_in}
use Rattle.doings.specs.Doings
use Rattle.doings.specs.Doings.{read, ll, vl, sc, write, looks, Seen, seen, Doing, Touching, nothing, one, doing, Apart}
use Rattle.laws.proofs.AndLaws.{left, right}
use Rattle.laws.proofs.Updates.{contra}
use Rattle.access.specs.Accesses.{shown_act, shown, paper_line, doing_now, access_of}
use Rattle.access.proofs.Theorems.{IsOne, one_at, item_shown}
use Rattle.commuting_laws.specs.OnTheBench.{bench_does}
use Rattle.commuting_laws.proofs.OnTheBench.{commute_on_the_bench}
use Rattle.std.specs.Bool.{beq}
use Rattle.std.specs.Prelude.{Some}
use Rattle.model.specs.Words.{word_of}
use Rattle.marking.specs.declared.NamedItem.{NamedItem}
use Rattle.marking.specs.declared.NamedItem.TheVariants as name
use Rattle.marking.specs.Marks.{named, only_looks, shown_line, same_item, apart, may_swap, line_of, MarksMeanApart, TraceShowsLine, MarkedChangePlaces}

-- the name of an item is its own
beq_same : (a b : Bool) → beq a b ≡ true → a ≡ b
beq_same true true e = refl
beq_same true false e = absurd (contra e refl)
beq_same false true e = absurd (contra e refl)
beq_same false false e = refl

beq_self : (a : Bool) → beq a a ≡ true
beq_self true = refl
beq_self false = refl

parity_from : (k m : ℕ) → eqb (k % 2) 1 ≡ eqb (m % 2) 1 → k % 2 ≡ m % 2
parity_from k m e = pick (eqb (k % 2) 1) refl
  where
    pick : (t : Bool) → eqb (k % 2) 1 ≡ t → k % 2 ≡ m % 2
    pick true x = eqb-true (k % 2) 1 x ∙ sym (eqb-true (m % 2) 1 (sym e ∙ x))
    pick false x =
        let a = eqb-false (k % 2) 1 x in
        let b = eqb-false (m % 2) 1 (sym e ∙ x) in
        omega arith

items_from : (i j : Item) → same_item (named i) (named j) ≡ true → i ≡ j
items_from X X e = refl
items_from X (Bank j) e = absurd (contra e refl)
items_from X (Help j) e = absurd (contra e refl)
items_from X (Half g m) e = absurd (contra e refl)
items_from (Bank i) X e = absurd (contra e refl)
items_from (Bank i) (Bank j) e = ap (λ (k : ℕ). Bank (record { 0 = k })) (eqb-true _ _ e)
items_from (Bank i) (Help j) e = absurd (contra e refl)
items_from (Bank i) (Half g m) e = absurd (contra e refl)
items_from (Help i) X e = absurd (contra e refl)
items_from (Help i) (Bank j) e = absurd (contra e refl)
items_from (Help i) (Help j) e = ap (λ (k : ℕ). Help (record { 0 = k })) (eqb-true _ _ e)
items_from (Help i) (Half g m) e = absurd (contra e refl)
items_from (Half f k) X e = absurd (contra e refl)
items_from (Half f k) (Bank j) e = absurd (contra e refl)
items_from (Half f k) (Help j) e = absurd (contra e refl)
items_from (Half f k) (Half g m) e =
    let high : Bool = eqb (k % 2) 1 in
    let rest = right (beq high (eqb (m % 2) 1)) _ e in
    let half = parity_from k m (beq_same high (eqb (m % 2) 1) (left (beq high (eqb (m % 2) 1)) _ e)) in
    let word = eqb-true (word_of k) (word_of m) (right (eqb f.0 g.0) _ rest) in
    ap₂ (λ (a b : ℕ). Half (record { 0 = a }) b) (eqb-true _ _ (left (eqb f.0 g.0) _ rest)) (let z : k ≡ m = omega (arith, half, word) in z)

same_self : (i : NamedItem) → same_item i i ≡ true
same_self name.X = refl
same_self (name.Bank i) = eq-eqb i i refl
same_self (name.Help i) = eq-eqb i i refl
same_self (name.Half h f w) = simp (beq_self h, eq-eqb f f refl, eq-eqb w w refl)

process_is : (p : ℕ) (t : Touching Item Process) → (line_of p t).process ≡ p
process_is p (nothing out) = refl
process_is p (one d) = refl

-- two steps: both touch an item, so the items and the acts decide
module _ (d e : Doing Item Process) where
  abbrev same : Bool
  same = same_item (named d.item) (named e.item)

  steps_apart : (s : Bool) → same ≡ s → (not s || (looks d.act && looks e.act)) ≡ true → Apart (one d) (one e)
  steps_apart true x y = inr (left (looks d.act) (looks e.act) y, right (looks d.act) (looks e.act) y)
  steps_apart false x y =
      inl (λ z. contra (ap (λ (i : Item). same_item (named i) (named e.item)) z ∙ same_self (named e.item)) x)

  steps_not : (s : Bool) → same ≡ s → (not s || (looks d.act && looks e.act)) ≡ false → Apart (one d) (one e) → ⊥
  steps_not true x y (inl n) = n (items_from d.item e.item x)
  steps_not true x y (inr z) = contra (simp (z.0, z.1)) y
  steps_not false x y z = contra refl y

-- the test of two lines is the condition
means : (p q : ℕ) (t u : Touching Item Process) → apart (line_of p t) (line_of q u) ≡ true → Apart t u
means p q (nothing o) u x = tt
means p q (one d) (nothing out) x = tt
means p q (one d) (one e) x = steps_apart d e (same d e) refl x

means_not : (p q : ℕ) (t u : Touching Item Process) → apart (line_of p t) (line_of q u) ≡ false → Apart t u → ⊥
means_not p q (nothing o) u x a = contra refl x
means_not p q (one d) (nothing out) x a = contra refl x
means_not p q (one d) (one e) x a = steps_not d e (same d e) refl x a

-- of two commands the processes and that test are left
parts : (p q : ℕ) (t u : Touching Item Process)
    → may_swap (Some (line_of p t)) (Some (line_of q u)) ≡ (not (eqb p q) && apart (line_of p t) (line_of q u))
parts p q t u = simp (process_is p t, process_is q u)

differ : (p q : ℕ) → not (eqb p q) ≡ true → p ≢ q
differ p q x e = contra x (simp (eq-eqb p q e))

pub marks_mean_apart : MarksMeanApart
marks_mean_apart p q t u = record {
  marked = λ x. let y = sym (parts p q t u) ∙ x in
      (differ p q (left (not (eqb p q)) _ y), means p q t u (right (not (eqb p q)) _ y));
  unmarked = λ x ne a. means_not p q t u (simp (ne_eqb p q ne) at (sym (parts p q t u) ∙ x)) a;
}

-- an act that only looks is shown as one
looks_shown : (i : Item) (a : Doings.Act) (s : Seen) → only_looks (shown_act i a s) ≡ looks a
looks_shown i read s = refl
looks_shown i ll s = refl
looks_shown i vl s = refl
looks_shown i (sc v u) s = refl
looks_shown i (write v u) s = refl

shown_line_lem : (k : ℕ) (p : ProcessNumber) (t : Touching Item Process) (b : Bench) (ws : List ℕ) → IsOne t → shown_line p.0 (shown k p t b ws) ≡ line_of p.0 t
shown_line_lem k p (nothing out) b ws x = absurd x
shown_line_lem k p (one d) b ws x =
    let s = seen p (item_at d.item b ws) in
    ap₂ (λ (i : Item) (l : Bool). record { process = p.0; touched = Some (record { item = named i; looks = l }) })
    (item_shown d.item d.act s) (looks_shown d.item d.act s)

pub trace_shows_line : TraceShowsLine
unfolding access_of doing
trace_shows_line m p ne =
    let q = record_at m.records p in let y = point_of q.line in
    shown_line_lem (paper_line y) p (doing_now y p m.bench q m.words) m.bench m.words
    (one_at y ne m.bench.n m.bench.w p (own_in (one_record m.bench.n) m.bench.w p q m.words))

pub marked_change_places : MarkedChangePlaces
marked_change_places m h n w value cs e c d ec ed x =
    let here = after (set_up m n w value).1 cs in
    let y = (marks_mean_apart c.process d.process (bench_does here c) (bench_does (next here c) d)).marked x in
    commute_on_the_bench m h n w value cs e c d y.0 ec ed y.1
