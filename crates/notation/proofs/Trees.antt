-- What the reading says, the grammar gives: the items.
use Prim.Native.Nat.{ℕ, zero, suc, ◌+◌, ◌*◌}
use lib.ListN.{length}
use mathlib.Core.Path.{◌≡◌, refl, sym, ap, subst, ◌∙◌}
use mathlib.Core.List.{List, [], ◌∷◌, ◌++◌, append_assoc, append-nil}
use mathlib.Core.Bool.{Bool, true, false, cond}
use native.Mathlib.Omega.{arith}
use Rattle.notation.specs.declared.Kind.{Kind}
use Rattle.notation.specs.declared.Kind.TheVariants.{Digit, Gap, Marked, Offer, Open, Close, Other}
use Rattle.notation.specs.declared.Entry.{Entry}
use Rattle.notation.specs.declared.Entry.TheVariants.{StartSc}
use Rattle.notation.specs.Bytes.{kind_of, entry_of}
use Rattle.notation.specs.Grammar as G
use Rattle.notation.specs.Grammar.{Byte, Number, Gaps, Items, Lead, Schedule, digit_ok, count_ok, times}
use Rattle.notation.specs.Grammar.{item_bytes, items_bytes, lead_bytes, schedule_bytes, item_says, items_say, lead_says}
use Rattle.notation.specs.Grammar.{schedule_says}
use Rattle.notation.specs.Scan.{on_digit, Mode, between, num, offer, offer_num, done, Move, to, enter, leave, bad, more, move, said, Frame, end, shut, fault, at_end, entered, go, scan}
use Rattle.notation.proofs.KindLaws.{either}

record Fresh (b : List ℕ) (os : List Entry) : Type 0 where
  gaps : Gaps b
  saying : os ≡ []

record Apart (d : ℕ) (b : List ℕ) (os : List Entry) : Type 0 where
  i : Items d
  c : ℕ
  g : List ℕ
  k : Byte c Gap
  t : Gaps g
  text : b ≡ items_bytes i ++ c ∷ g
  saying : os ≡ items_say i

record InNum (d v : ℕ) (b : List ℕ) (os : List Entry) : Type 0 where
  l : Lead d
  ds : List ℕ
  n : Number ds v
  text : b ≡ lead_bytes l ++ ds
  saying : os ≡ lead_says l

record InOffer (d p : ℕ) (b : List ℕ) (os : List Entry) : Type 0 where
  l : Lead d
  ds : List ℕ
  n : Number ds p
  c : ℕ
  k : Byte c Offer
  text : b ≡ lead_bytes l ++ (ds ++ c ∷ [])
  saying : os ≡ lead_says l

record InOfferNum (d p v : ℕ) (b : List ℕ) (os : List Entry) : Type 0 where
  l : Lead d
  ds : List ℕ
  n : Number ds p
  c : ℕ
  k : Byte c Offer
  ws : List ℕ
  w : Number ws v
  text : b ≡ lead_bytes l ++ (ds ++ c ∷ ws)
  saying : os ≡ lead_says l

record AtDone (d : ℕ) (b : List ℕ) (os : List Entry) : Type 0 where
  i : Items d
  text : b ≡ items_bytes i
  saying : os ≡ items_say i

-- what has been read since the last open bracket, in each mode
abbrev Stands : ℕ → Mode → List ℕ → List Entry → Type 0
Stands d (between false) b os = Fresh b os
Stands d (between true) b os = Apart d b os
Stands d (num v) b os = InNum d v b os
Stands d (offer p) b os = InOffer d p b os
Stands d (offer_num p v) b os = InOfferNum d p v b os
Stands d done b os = AtDone d b os

record Entering (d n : ℕ) (b : List ℕ) (c : ℕ) (os : List Entry) : Type 0 where
  l : Lead d
  ds : List ℕ
  n' : Number ds n
  k : Byte c Open
  text : b ++ c ∷ [] ≡ lead_bytes l ++ (ds ++ c ∷ [])
  saying : os ≡ lead_says l

record Leaving (d : ℕ) (b : List ℕ) (c : ℕ) (os : List Entry) : Type 0 where
  i : Items d
  g : List ℕ
  t : Gaps g
  k : Byte c Close
  text : b ++ c ∷ [] ≡ items_bytes i ++ (g ++ c ∷ [])
  saying : os ≡ items_say i

-- what a byte makes of it
abbrev Then : ℕ → Move → List ℕ → ℕ → List Entry → Type 0
Then d (to m) b c os = Stands d m (b ++ c ∷ []) os
Then d (enter n) b c os = Entering d n b c os
Then d leave b c os = Leaving d b c os
Then d bad b c os = Unit {0}

gaps_snoc : {g : List ℕ} {c : ℕ} → Gaps g → Byte c Gap → Gaps (g ++ c ∷ [])
gaps_snoc G.none k = G.gap k G.none
gaps_snoc (G.gap e t) k = G.gap e (gaps_snoc t k)

-- one more byte at the end of a text in two parts
pub snoc : {b : List ℕ} (x y : List ℕ) (c : ℕ) → b ≡ x ++ y → b ++ c ∷ [] ≡ x ++ (y ++ c ∷ [])
snoc x y c e = ap (λ (z : List ℕ). z ++ c ∷ []) e ∙ append_assoc x y (c ∷ [])

-- the same in three parts
snoc₃ : {b : List ℕ} (x y z : List ℕ) (c : ℕ) → b ≡ x ++ (y ++ z) → b ++ c ∷ [] ≡ x ++ (y ++ (z ++ c ∷ []))
snoc₃ x y z c e = snoc x (y ++ z) c e ∙ ap (λ (r : List ℕ). x ++ r) (append_assoc y z (c ∷ []))

none_said : {os es : List Entry} → os ≡ es → os ++ [] ≡ es
none_said {os} e = append-nil os ∙ e

more_then : (d : ℕ) (b : List ℕ) (c : ℕ) (os : List Entry) (f : ℕ → Mode) (v x : ℕ) → (digit_ok v x ≡ true → Then d (to (f (v * 10 + x))) b c os) → Then d (more f v x) b c os
unfolding more on_digit
more_then d b c os f v x h = either (λ (y : Move). Then d y b c os) (digit_ok v x) (to (f (v * 10 + x))) bad h (λ e. tt)

-- the next byte
next : (d : ℕ) (b : List ℕ) (c : ℕ) (os : List Entry) (m : Mode) (k : Kind) → Byte c k → Stands d m b os → Then d (move m k) b c (os ++ said m k)
unfolding move said item_bytes item_says
next d b c os (between false) (Digit x) k s = record { l = G.fresh b s.gaps; ds = c ∷ []; n = G.digit k; text = refl; saying = none_said s.saying }
next d b c os (between false) Gap k s = record { gaps = gaps_snoc s.gaps k; saying = none_said s.saying }
next d b c os (between false) (Marked x) k s = tt
next d b c os (between false) Offer k s = tt
next d b c os (between false) Open k s = tt
next d b c os (between false) Close k s = tt
next d b c os (between false) Other k s = tt
next d b c os (between true) (Digit x) k s = record {
  l = G.apart s.i s.c s.g s.k s.t;
  ds = c ∷ [];
  n = G.digit k;
  text = ap (λ (z : List ℕ). z ++ c ∷ []) s.text;
  saying = none_said s.saying;
}
next d b c os (between true) Gap k s = record {
  i = s.i;
  c = s.c;
  g = s.g ++ c ∷ [];
  k = s.k;
  t = gaps_snoc s.t k;
  text = snoc (items_bytes s.i) (s.c ∷ s.g) c s.text;
  saying = none_said s.saying;
}
next d b c os (between true) (Marked x) k s = tt
next d b c os (between true) Offer k s = tt
next d b c os (between true) Open k s = tt
next d b c os (between true) Close k s = record { i = s.i; g = s.c ∷ s.g; t = G.gap s.k s.t; k = k; text = snoc (items_bytes s.i) (s.c ∷ s.g) c s.text; saying = none_said s.saying }
next d b c os (between true) Other k s = tt
next d b c os (num v) (Digit x) k s = more_then d b c (os ++ []) num v x
    (λ fits. record { l = s.l; ds = s.ds ++ c ∷ []; n = G.more s.n k fits; text = snoc (lead_bytes s.l) s.ds c s.text; saying = none_said s.saying })
next d b c os (num v) Gap k s = tt
next d b c os (num v) (Marked x) k s = record {
  i = G.item s.l (G.marked s.ds v c x s.n k);
  text = snoc (lead_bytes s.l) s.ds c s.text;
  saying = ap (λ (z : List Entry). z ++ entry_of x v ∷ []) s.saying;
}
next d b c os (num v) Offer k s = record { l = s.l; ds = s.ds; n = s.n; c = c; k = k; text = snoc (lead_bytes s.l) s.ds c s.text; saying = none_said s.saying }
next d b c os (num v) Open k s = record { l = s.l; ds = s.ds; n' = s.n; k = k; text = snoc (lead_bytes s.l) s.ds c s.text; saying = none_said s.saying }
next d b c os (num v) Close k s = tt
next d b c os (num v) Other k s = tt
next d b c os (offer p) (Digit x) k s = record {
  l = s.l;
  ds = s.ds;
  n = s.n;
  c = s.c;
  k = s.k;
  ws = c ∷ [];
  w = G.digit k;
  text = snoc₃ (lead_bytes s.l) s.ds (s.c ∷ []) c s.text;
  saying = none_said s.saying;
}
next d b c os (offer p) Gap k s = tt
next d b c os (offer p) (Marked x) k s = tt
next d b c os (offer p) Offer k s = tt
next d b c os (offer p) Open k s = tt
next d b c os (offer p) Close k s = tt
next d b c os (offer p) Other k s = tt
next d b c os (offer_num p v) (Digit x) k s = more_then d b c (os ++ []) (offer_num p) v x (λ fits. record {
  l = s.l;
  ds = s.ds;
  n = s.n;
  c = s.c;
  k = s.k;
  ws = s.ws ++ c ∷ [];
  w = G.more s.w k fits;
  text = snoc₃ (lead_bytes s.l) s.ds (s.c ∷ s.ws) c s.text;
  saying = none_said s.saying;
})
next d b c os (offer_num p v) Gap k s = record {
  i = G.item s.l (G.offer s.ds p s.c s.ws v s.n s.k s.w);
  c = c;
  g = [];
  k = k;
  t = G.none;
  text = ap (λ (z : List ℕ). z ++ c ∷ []) s.text;
  saying = ap (λ (z : List Entry). z ++ StartSc p v ∷ []) s.saying;
}
next d b c os (offer_num p v) (Marked x) k s = tt
next d b c os (offer_num p v) Offer k s = tt
next d b c os (offer_num p v) Open k s = tt
next d b c os (offer_num p v) Close k s = record {
  i = G.item s.l (G.offer s.ds p s.c s.ws v s.n s.k s.w);
  g = [];
  t = G.none;
  k = k;
  text = ap (λ (z : List ℕ). z ++ c ∷ []) s.text;
  saying = ap (λ (z : List Entry). z ++ StartSc p v ∷ []) s.saying;
}
next d b c os (offer_num p v) Other k s = tt
next d b c os done (Digit x) k s = tt
next d b c os done Gap k s = record { i = s.i; c = c; g = []; k = k; t = G.none; text = ap (λ (z : List ℕ). z ++ c ∷ []) s.text; saying = none_said s.saying }
next d b c os done (Marked x) k s = tt
next d b c os done Offer k s = tt
next d b c os done Open k s = tt
next d b c os done Close k s = record { i = s.i; g = []; t = G.none; k = k; text = ap (λ (z : List ℕ). z ++ c ∷ []) s.text; saying = none_said s.saying }
next d b c os done Other k s = tt

-- the open groups, each with what stands before it and its count
record Inside (Outer : List ℕ → ℕ → Type 0) (p : List ℕ) (f : Frame) (d : ℕ) : Type 0 where
  p₀ : List ℕ
  outer : Outer p₀ (suc d)
  room : f.room ≡ suc d
  l : Lead (suc d)
  before : f.before ≡ lead_says l
  ds : List ℕ
  n : Number ds f.count
  ok : count_ok f.count ≡ true
  a : ℕ
  k : Byte a Open
  text : p ≡ p₀ ++ (lead_bytes l ++ (ds ++ a ∷ []))

abbrev Opened : ℕ → List Frame → List ℕ → ℕ → Type 0
Opened top [] p d = (p ≡ []) × (d ≡ top)
Opened top (f ∷ stack) p d = Inside (Opened top stack) p f d

pub record Is (d : ℕ) (s : List ℕ) (es : List Entry) : Type 0 where
  pub tree : Schedule d
  pub text : schedule_bytes tree ≡ s
  pub saying : schedule_says tree ≡ es

end_same : {a b : List Entry} → end a ≡ end b → a ≡ b
end_same q = cc

fault_end : {k left : ℕ} {b : List Entry} → fault k left ≡ end b → ⊥
fault_end q = let z : ◌≡◌ {A = ℕ} 0 1 = cc in omega arith

shut_end : {a b : List Entry} {l : List ℕ} → shut a l ≡ end b → ⊥
shut_end q = let z : ◌≡◌ {A = ℕ} 0 1 = cc in omega arith

-- the end
finish : (top : ℕ) (m : Mode) (b : List ℕ) (os es : List Entry) → Stands top m b os → at_end m [] os ≡ end es → Is top b es
unfolding at_end schedule_bytes schedule_says item_bytes item_says
finish top (between false) b os es s h = record { tree = G.empty b s.gaps; text = refl; saying = sym s.saying ∙ end_same h }
finish top (between true) b os es s h = record { tree = G.items s.i (s.c ∷ s.g) (G.gap s.k s.t); text = sym s.text; saying = sym s.saying ∙ end_same h }
finish top (num v) b os es s h = absurd (fault_end h)
finish top (offer p) b os es s h = absurd (fault_end h)
finish top (offer_num p v) b os es s h = record {
  tree = G.items (G.item s.l (G.offer s.ds p s.c s.ws v s.n s.k s.w)) [] G.none;
  text = append-nil (lead_bytes s.l ++ (s.ds ++ s.c ∷ s.ws)) ∙ sym s.text;
  saying = ap (λ (z : List Entry). z ++ StartSc p v ∷ []) (sym s.saying) ∙ end_same h;
}
finish top done b os es s h = record { tree = G.items s.i [] G.none; text = append-nil (items_bytes s.i) ∙ sym s.text; saying = sym s.saying ∙ end_same h }

ends : (top : ℕ) (m : Mode) (stack : List Frame) (p b : List ℕ) (os es : List Entry) (d : ℕ) → Opened top stack p d
    → Stands d m b os → at_end m stack os ≡ end es → Is top (p ++ (b ++ [])) es
unfolding at_end
ends top m [] p b os es d o s h =
    let bytes = ap (λ (q : List ℕ). q ++ (b ++ [])) o.0 ∙ append-nil b in
    subst (λ (x : List ℕ). Is top x es) (sym bytes) (finish top m b os es (subst (λ (e : ℕ). Stands e m b os) o.1 s) h)
ends top m (f ∷ stack) p b os es d o s h = absurd (fault_end h)

-- a group that is closed is an item of what is around it
closed : (f : Frame) (d : ℕ) (i : Items d) (g : List ℕ) (z : ℕ) → Gaps g → Byte z Close → (ds : List ℕ) (a : ℕ) → Number ds f.count → count_ok f.count ≡ true
    → Byte a Open → (l : Lead (suc d)) → f.before ≡ lead_says l → (os : List Entry) → os ≡ items_say i
    → AtDone (suc d) (lead_bytes l ++ (ds ++ a ∷ (items_bytes i ++ (g ++ z ∷ [])))) (f.before ++ times f.count os)
unfolding item_bytes item_says
closed f d i g z t k ds a n ok o l e os q = record {
  i = G.item l (G.group ds f.count a n ok o i g z t k);
  text = refl;
  saying = ap (λ (x : List Entry). x ++ times f.count os) e ∙ ap (λ (x : List Entry). lead_says l ++ times f.count x) q;
}

-- regrouping
push : (p b l : List ℕ) (c : ℕ) → p ++ (b ++ c ∷ l) ≡ p ++ ((b ++ c ∷ []) ++ l)
push p b l c = ap (λ (x : List ℕ). p ++ x) (sym (append_assoc b (c ∷ []) l))

-- one byte of the whole text, with the rest of it to come
on : (top : ℕ) (c : ℕ) (l : List ℕ) (b p : List ℕ) (os es : List Entry) (d : ℕ) (stack : List Frame) (mv : Move) → Opened top stack p d → Then d mv b c os
    → ((m : Mode) (stack : List Frame) (p b : List ℕ) (os : List Entry) (d : ℕ) → Opened top stack p d → Stands d m b os → scan l m stack os d ≡ end es → Is top (p ++ (b ++ l)) es)
    → go (scan l) l mv stack os d ≡ end es → Is top (p ++ (b ++ c ∷ l)) es
unfolding go
on top c l b p os es d stack (to m) o s ih h = subst (λ (x : List ℕ). Is top x es) (sym (push p b l c)) (ih m stack p (b ++ c ∷ []) os d o s h)
on top c l b p os es d stack (enter n) o s ih h = counted (count_ok n) refl d o s h
  where
    counted : (t : Bool) → count_ok n ≡ t → (d : ℕ) → Opened top stack p d → Entering d n b c os
        → cond t (entered (scan l) (suc (length l)) n stack os d) (fault 10 (suc (length l))) ≡ end es → Is top (p ++ (b ++ c ∷ l)) es
    counted false q d o s h = absurd (fault_end h)
    counted true q zero o s h = absurd (fault_end h)
    counted true q (suc r) o s h =
        subst (λ (x : List ℕ). Is top x es) (append_assoc p (b ++ c ∷ []) l ∙ sym (push p b l c))
        (ih (between false) (record { count = n; before = os; room = suc r } ∷ stack) (p ++ (b ++ c ∷ [])) [] [] r
        (record { p₀ = p; outer = o; room = refl; l = s.l; before = s.saying; ds = s.ds; n = s.n'; ok = q; a = c; k = s.k; text = ap (λ (x : List ℕ). p ++ x) s.text })
        (record { gaps = G.none; saying = refl }) h)
on top c l b p os es d [] leave o s ih h = absurd (shut_end h)
on top c l b p os es d (f ∷ stack) leave o s ih h =
    subst (λ (y : List ℕ). Is top y es) whole
    (ih done stack o.p₀ group (f.before ++ times f.count os) (suc d) o.outer (closed f d s.i s.g c s.t s.k o.ds o.a o.n o.ok o.k o.l o.before os s.saying)
    (ap (λ (r : ℕ). scan l done stack (f.before ++ times f.count os) r) (sym o.room) ∙ h))
  where
    -- what stands behind the opening bracket, before it, and both
    inner : List ℕ
    inner = items_bytes s.i ++ (s.g ++ c ∷ [])

    head : List ℕ
    head = lead_bytes o.l ++ (o.ds ++ o.a ∷ [])

    group : List ℕ
    group = lead_bytes o.l ++ (o.ds ++ o.a ∷ inner)

    head_inner : head ++ inner ≡ group
    head_inner = append_assoc (lead_bytes o.l) (o.ds ++ o.a ∷ []) inner ∙ ap (λ (x : List ℕ). lead_bytes o.l ++ x) (append_assoc o.ds (o.a ∷ []) inner)

    in_text : p ++ (b ++ c ∷ []) ≡ o.p₀ ++ group
    in_text = ap (λ (x : List ℕ). p ++ x) s.text ∙ ap (λ (x : List ℕ). x ++ inner) o.text ∙ append_assoc o.p₀ head inner ∙ ap (λ (x : List ℕ). o.p₀ ++ x) head_inner

    whole : o.p₀ ++ (group ++ l) ≡ p ++ (b ++ c ∷ l)
    whole = sym (append_assoc o.p₀ group l) ∙ ap (λ (x : List ℕ). x ++ l) (sym in_text) ∙ append_assoc p (b ++ c ∷ []) l ∙ sym (push p b l c)
on top c l b p os es d stack bad o s ih h = absurd (fault_end h)

-- the whole text
walk : (top : ℕ) (s : List ℕ) (m : Mode) (stack : List Frame) (p b : List ℕ) (os es : List Entry) (d : ℕ) → Opened top stack p d → Stands d m b os
    → scan s m stack os d ≡ end es → Is top (p ++ (b ++ s)) es
unfolding scan
walk top [] m stack p b os es d o s h = ends top m stack p b os es d o s h
walk top (c ∷ l) m stack p b os es d o s h = on top c l b p (os ++ said m (kind_of c)) es d stack (move m (kind_of c)) o
    (next d b c os m (kind_of c) (record { is = refl }) s) (λ m stack p b os d. walk top l m stack p b os es d) h

-- what the reading says, the grammar gives
pub schedule_given : (d : ℕ) (s : List ℕ) (es : List Entry) → scan s (between false) [] [] d ≡ end es → Is d s es
schedule_given d s es h = walk d s (between false) [] [] [] [] es d (refl, refl) (record { gaps = G.none; saying = refl }) h
