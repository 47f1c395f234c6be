-- Figure 1's object and a list of timed calls: the object after them, that it gives each its answer, and how many SCs succeed.
use mathlib.Core.Path.{◌≡◌, refl, sym, ap, ap₂, ◌∙◌}
use mathlib.Core.Bool.{Bool, true, false, cond}
use mathlib.Core.List.{List, [], ◌∷◌, ◌++◌, map}
use Prim.Native.Nat.{ℕ, ◌+◌}
use native.Mathlib.Omega.{arith}
use native.Mathlib.Decide.{ℕ_discrete}
use lib.Dec.{eqb}
use borrow.Author.Tests.{eq-eqb, ne_eqb}
use Rattle.llsc.specs.Answers.{Answer, ll_words, sc_truth, vl_truth}
use Rattle.llsc.specs.Object.{Kind, ll, sc, vl, Object, tell, feed, serve}
use Rattle.llsc.specs.Linearizable.{Timed, fed}
use Rattle.laws.proofs.Updates.{ifb_ne}

-- the object's answer to a timed call, and the object after it
abbrev pub tells : Timed → Object → Answer
tells t o = tell t.call.process t.call.kind o

abbrev pub feeds : Timed → Object → Object
feeds t o = feed t.call.process t.call.kind o

abbrev pub after : Object → List Timed → Object
after o [] = o
after o (t ∷ ts) = after (feeds t o) ts

-- the object gives each call its answer
abbrev pub Served : Object → List Timed → Type 0
Served o [] = Unit {0}
Served o (t ∷ ts) = (tells t o ≡ t.call.answer) × Served (feeds t o) ts

pub served_answers : (o : Object) (ts : List Timed) → Served o ts → serve o (map fed ts) ≡ map (λ (t : Timed). t.call.answer) ts
served_answers o [] v = refl
served_answers o (t ∷ ts) v = ap₂ ◌∷◌ v.0 (served_answers (feeds t o) ts v.1)

-- no call of p
abbrev pub Free : ℕ → List Timed → Type 0
Free p [] = Unit {0}
Free p (t ∷ ts) = (t.call.process ≡ p → ⊥) × Free p ts

-- alike but for p's link
pub record Alike (p : ℕ) (o o' : Object) : Type 0 where
  pub words : o.words ≡ o'.words
  pub link : (q : ℕ) → (q ≡ p → ⊥) → o.link q ≡ o'.link q

-- an LL changes its own link alone
pub ll_alike : (p : ℕ) (o : Object) → Alike p o (feed p ll o)
ll_alike p o = record { words = refl; link = λ q ne. sym (ifb_ne q p true (o.link q) ne) }

-- one call of another process
feed_alike : (k : Kind) (p q : ℕ) (o o' : Object) → (q ≡ p → ⊥) → Alike p o o' → Alike p (feed q k o) (feed q k o')
feed_alike ll p q o o' ne s = record { words = s.words; link = λ r h. ap (cond (eqb r q) true) (s.link r h) }
feed_alike (sc w) p q o o' ne s = go (o.link q) (o'.link q) (s.link q ne)
  where
    go : (b c : Bool) → b ≡ c → Alike p (cond b (record { words = w; link = λ r. false }) o) (cond c (record { words = w; link = λ r. false }) o')
    go true true e = record { words = refl; link = λ r h. refl }
    go false false e = s
    go true false e = absurd (let z : ◌≡◌ {A = ℕ} 0 1 = cc in omega arith)
    go false true e = absurd (let z : ◌≡◌ {A = ℕ} 0 1 = cc in omega arith)
feed_alike vl p q o o' ne s = s

tell_alike : (k : Kind) (p q : ℕ) (o o' : Object) → (q ≡ p → ⊥) → Alike p o o' → tell q k o ≡ tell q k o'
tell_alike ll p q o o' ne s = ap ll_words s.words
tell_alike (sc w) p q o o' ne s = ap sc_truth (s.link q ne)
tell_alike vl p q o o' ne s = ap vl_truth (s.link q ne)

-- what follows is served alike, and ends alike
pub served_alike_lem : (p : ℕ) (o o' : Object) (ts : List Timed) → Alike p o o' → Free p ts → Served o ts → Served o' ts
served_alike_lem p o o' [] s f v = tt
served_alike_lem p o o' (t ∷ ts) s f v = (
  sym (tell_alike t.call.kind p t.call.process o o' f.0 s) ∙ v.0,
  served_alike_lem p (feeds t o) (feeds t o') ts (feed_alike t.call.kind p t.call.process o o' f.0 s) f.1 v.1,
)

pub after_alike : (p : ℕ) (o o' : Object) (ts : List Timed) → Alike p o o' → Free p ts → Alike p (after o ts) (after o' ts)
after_alike p o o' [] s f = s
after_alike p o o' (t ∷ ts) s f = after_alike p (feeds t o) (feeds t o') ts (feed_alike t.call.kind p t.call.process o o' f.0 s) f.1

-- how many succeed
abbrev pub success : ℕ → Kind → Object → ℕ
success p ll o = 0
success p (sc w) o = cond (o.link p) 1 0
success p vl o = 0

abbrev pub successes : Object → List Timed → ℕ
successes o [] = 0
successes o (t ∷ ts) = success t.call.process t.call.kind o + successes (feeds t o) ts

success_alike : (k : Kind) (p q : ℕ) (o o' : Object) → (q ≡ p → ⊥) → Alike p o o' → success q k o ≡ success q k o'
success_alike ll p q o o' ne s = refl
success_alike (sc w) p q o o' ne s = ap (λ b. cond b 1 0) (s.link q ne)
success_alike vl p q o o' ne s = refl

pub successes_alike : (p : ℕ) (o o' : Object) (ts : List Timed) → Alike p o o' → Free p ts → successes o ts ≡ successes o' ts
successes_alike p o o' [] s f = refl
successes_alike p o o' (t ∷ ts) s f =
    ap₂ ◌+◌ (success_alike t.call.kind p t.call.process o o' f.0 s)
    (successes_alike p (feeds t o) (feeds t o') ts (feed_alike t.call.kind p t.call.process o o' f.0 s) f.1)

-- p's link, over a part with no call of p: the first success clears it
feed_link : (k : Kind) (p q : ℕ) (o : Object) → (q ≡ p → ⊥) → (feed q k o).link p ≡ cond (eqb (success q k o) 0) (o.link p) false
feed_link ll p q o ne = ifb_ne p q true (o.link p) (λ z. ne (sym z))
feed_link (sc w) p q o ne = go (o.link q)
  where
    go : (b : Bool) → (cond b (record { words = w; link = λ r. false }) o).link p ≡ cond (eqb (cond b 1 0) 0) (o.link p) false
    go true = refl
    go false = refl
feed_link vl p q o ne = refl

-- none of both is none of either
none_of_both : (a b : ℕ) (x : Bool) → cond (eqb b 0) (cond (eqb a 0) x false) false ≡ cond (eqb (a + b) 0) x false
none_of_both a b x = go (ℕ_discrete a 0) (ℕ_discrete b 0)
  where
    go : Dec (a ≡ 0) → Dec (b ≡ 0) → cond (eqb b 0) (cond (eqb a 0) x false) false ≡ cond (eqb (a + b) 0) x false
    go (yes e) (yes f) = rw (eq-eqb a 0 e, eq-eqb b 0 f, eq-eqb (a + b) 0 (omega arith))
    go (no e) (yes f) = rw (ne_eqb a 0 e, eq-eqb b 0 f, ne_eqb (a + b) 0 (λ z. e (omega arith)))
    go (yes e) (no f) = rw (ne_eqb b 0 f, ne_eqb (a + b) 0 (λ z. f (omega arith)))
    go (no e) (no f) = rw (ne_eqb b 0 f, ne_eqb (a + b) 0 (λ z. e (omega arith)))

pub link_after : (p : ℕ) (o : Object) (ts : List Timed) → Free p ts → (after o ts).link p ≡ cond (eqb (successes o ts) 0) (o.link p) false
link_after p o [] f = refl
link_after p o (t ∷ ts) f =
    link_after p (feeds t o) ts f.1 ∙ ap (λ x. cond (eqb (successes (feeds t o) ts) 0) x false) (feed_link t.call.kind p t.call.process o f.0)
    ∙ none_of_both (success t.call.process t.call.kind o) (successes (feeds t o) ts) (o.link p)

-- two parts, one after the other
pub after_append : (o : Object) (ss ts : List Timed) → after o (ss ++ ts) ≡ after (after o ss) ts
after_append o [] ts = refl
after_append o (s ∷ ss) ts = after_append (feeds s o) ss ts

pub served_parts : (o : Object) (ss ts : List Timed) → Served o (ss ++ ts) → Served o ss × Served (after o ss) ts
served_parts o [] ts v = (tt, v)
served_parts o (s ∷ ss) ts v = let w = served_parts (feeds s o) ss ts v.1 in ((v.0, w.0), w.1)

pub served_append : (o : Object) (ss ts : List Timed) → Served o ss → Served (after o ss) ts → Served o (ss ++ ts)
served_append o [] ts v w = w
served_append o (s ∷ ss) ts v w = (v.0, served_append (feeds s o) ss ts v.1 w)

pub successes_append : (o : Object) (ss ts : List Timed) → successes o (ss ++ ts) ≡ successes o ss + successes (after o ss) ts
successes_append o [] ts = omega arith
successes_append o (s ∷ ss) ts = let z = successes_append (feeds s o) ss ts in omega arith
