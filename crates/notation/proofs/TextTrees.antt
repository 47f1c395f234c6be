-- What the reading says, the grammar gives: the first line and the whole text.
use Prim.Native.Nat.{ℕ, ◌+◌, ◌*◌}
use mathlib.Core.Path.{◌≡◌, refl, sym, ap, subst, ◌∙◌}
use mathlib.Core.List.{List, [], ◌∷◌, ◌++◌, append_assoc}
use mathlib.Core.Bool.{true, false}
use native.Mathlib.Omega.{arith}
use borrow.Author.Tests.{eqb-true}
use lib.Dec.{eqb}
use Rattle.notation.specs.declared.Kind.{Kind}
use Rattle.notation.specs.declared.Kind.TheVariants.{Digit, Gap, Marked, Offer, Open, Close, Other}
use Rattle.notation.specs.Bytes.{space, line_feed, kind_of}
use Rattle.notation.specs.Grammar as G
use Rattle.notation.specs.Grammar.{Byte, Number, FirstLine, Said, digit_ok, first_bytes, schedule_bytes, bytes, says}
use Rattle.notation.specs.Scan.{on_digit, between, Verdict, end, shut, fault, scan}
use Rattle.notation.specs.FirstLine.{Place, before_n, in_n, before_w, in_w, before_initial, in_initial, Next, goes, begins, breaks}
use Rattle.notation.specs.FirstLine.{starting, inside, step, whole, proceed, read_from, past}
use Rattle.notation.specs.Readings.{right, wrong}
use Rattle.notation.specs.Right.{Tells}
use Rattle.notation.proofs.KindLaws.{either}
use Rattle.notation.proofs.Trees.{snoc, schedule_given}

-- what stands before W, and before the initial number
record PastN (n : ℕ) (p : List ℕ) : Type 0 where
  ds : List ℕ
  is : Number ds n
  text : p ≡ ds ++ space ∷ []

record PastW (n w : ℕ) (p : List ℕ) : Type 0 where
  ds : List ℕ
  is : Number ds n
  ws : List ℕ
  wis : Number ws w
  text : p ≡ ds ++ space ∷ (ws ++ space ∷ [])

record InW (n w : ℕ) (b : List ℕ) : Type 0 where
  p : List ℕ
  past : PastN n p
  ws : List ℕ
  is : Number ws w
  text : b ≡ p ++ ws

record InInitial (n w v : ℕ) (b : List ℕ) : Type 0 where
  p : List ℕ
  past : PastW n w p
  vs : List ℕ
  is : Number vs v
  text : b ≡ p ++ vs

-- what has been read, at each place
abbrev Stands : Place → List ℕ → Type 0
Stands before_n b = b ≡ []
Stands (in_n n) b = Number b n
Stands (before_w n) b = PastN n b
Stands (in_w n w) b = InW n w b
Stands (before_initial n w) b = PastW n w b
Stands (in_initial n w v) b = InInitial n w v b

record Line (n w v : ℕ) (b : List ℕ) : Type 0 where
  first : FirstLine
  text : first_bytes first ≡ b
  same_n : first.n ≡ n
  same_w : first.w ≡ w
  same_initial : first.initial ≡ v

-- what a byte makes of it
abbrev Then : Next → List ℕ → ℕ → Type 0
Then (goes m) b c = Stands m (b ++ c ∷ [])
Then (begins n w v) b c = Line n w v (b ++ c ∷ [])
Then breaks b c = Unit {0}

start_then : (f : ℕ → Place) (b : List ℕ) (c : ℕ) (k : Kind) → Byte c k → ((d : ℕ) → Byte c (Digit d) → Stands (f d) (b ++ c ∷ [])) → Then (starting f k) b c
unfolding starting
start_then f b c (Digit d) e h = h d e
start_then f b c Gap e h = tt
start_then f b c (Marked m) e h = tt
start_then f b c Offer e h = tt
start_then f b c Open e h = tt
start_then f b c Close e h = tt
start_then f b c Other e h = tt

module _ (f : ℕ → Place) (stop : ℕ) (out : ℕ → Next) (v : ℕ) (b : List ℕ) (c : ℕ) where
  digit_then : (d : ℕ) → (digit_ok v d ≡ true → Stands (f (v * 10 + d)) (b ++ c ∷ [])) → Then (on_digit v d (λ x. goes (f x)) breaks) b c
  unfolding on_digit
  digit_then d h = either (λ (x : Next). Then x b c) (digit_ok v d) (goes (f (v * 10 + d))) breaks h (λ e. tt)

  inside_then : (k : Kind) → Byte c k
      → ((d : ℕ) → Byte c (Digit d) → digit_ok v d ≡ true → Stands (f (v * 10 + d)) (b ++ c ∷ []))
      → (c ≡ stop → Then (out v) b c) → Then (inside f stop out v c k) b c
  unfolding inside
  inside_then (Digit d) e h s = digit_then d (h d e)
  inside_then Gap e h s = either (λ (x : Next). Then x b c) (eqb c stop) (out v) breaks (λ t. s (eqb-true _ _ t)) (λ t. tt)
  inside_then (Marked m) e h s = tt
  inside_then Offer e h s = tt
  inside_then Open e h s = tt
  inside_then Close e h s = tt
  inside_then Other e h s = tt

-- the next byte
next : (m : Place) (b : List ℕ) (c : ℕ) → Stands m b → Then (step m c) b c
unfolding step first_bytes
next before_n b c s = start_then in_n b c (kind_of c) (record { is = refl }) (λ d e. subst (λ (x : List ℕ). Number (x ++ c ∷ []) d) (sym s) (G.digit e))
next (in_n n) b c s = inside_then in_n space (λ x. goes (before_w x)) n b c (kind_of c) (record { is = refl }) (λ d e fits. G.more s e fits)
    (λ q. record { ds = b; is = s; text = ap (λ (x : ℕ). b ++ x ∷ []) q })
next (before_w n) b c s = start_then (in_w n) b c (kind_of c) (record { is = refl }) (λ d e. record { p = b; past = s; ws = c ∷ []; is = G.digit e; text = refl })
next (in_w n w) b c s = inside_then (in_w n) space (λ x. goes (before_initial n x)) w b c (kind_of c) (record { is = refl })
    (λ d e fits. record { p = s.p; past = s.past; ws = s.ws ++ c ∷ []; is = G.more s.is e fits; text = snoc s.p s.ws c s.text })
    (λ q. record {
      ds = s.past.ds;
      is = s.past.is;
      ws = s.ws;
      wis = s.is;
      text = snoc s.p s.ws c s.text ∙ ap (λ (x : List ℕ). x ++ (s.ws ++ c ∷ [])) s.past.text ∙ append_assoc s.past.ds (space ∷ []) (s.ws ++ c ∷ [])
          ∙ ap (λ (x : ℕ). s.past.ds ++ space ∷ (s.ws ++ x ∷ [])) q;
    })
next (before_initial n w) b c s = start_then (in_initial n w) b c (kind_of c) (record { is = refl }) (λ d e. record { p = b; past = s; vs = c ∷ []; is = G.digit e; text = refl })
next (in_initial n w v) b c s = inside_then (in_initial n w) line_feed (begins n w) v b c (kind_of c) (record { is = refl })
    (λ d e fits. record { p = s.p; past = s.past; vs = s.vs ++ c ∷ []; is = G.more s.is e fits; text = snoc s.p s.vs c s.text })
    (λ q. record {
      first = record { n_digits = s.past.ds; n = n; n_number = s.past.is; w_digits = s.past.ws; w = w; w_number = s.past.wis; initial_digits = s.vs; initial = v; initial_number = s.is };
      same_n = refl;
      same_w = refl;
      same_initial = refl;
      text = sym (snoc s.p s.vs c s.text ∙ ap (λ (x : List ℕ). x ++ (s.vs ++ c ∷ [])) s.past.text ∙ append_assoc s.past.ds (space ∷ (s.past.ws ++ space ∷ [])) (s.vs ++ c ∷ [])
          ∙ ap (λ (x : List ℕ). s.past.ds ++ space ∷ x) (append_assoc s.past.ws (space ∷ []) (s.vs ++ c ∷ []))
          ∙ ap (λ (x : ℕ). s.past.ds ++ space ∷ (s.past.ws ++ space ∷ (s.vs ++ x ∷ []))) q);
    })

pub right_same : {a b : Said} → right a ≡ right b → a ≡ b
right_same q = cc

wrong_right : {k left : ℕ} {a : Said} → wrong k left ≡ right a → ⊥
wrong_right q = let z : ◌≡◌ {A = ℕ} 0 1 = cc in omega arith

-- the first line is whole, and the items follow
items_given : (d n w v : ℕ) (b l : List ℕ) (a : Said) (x : Verdict) → scan l (between false) [] [] d ≡ x → Line n w v b → whole n w v x ≡ right a → Tells d (b ++ l) a
unfolding whole bytes says
items_given d n w v b l a (end es) e f h =
    let t = schedule_given d l es e in
    record {
      tree = record { first = f.first; schedule = t.tree };
      text = ap (λ (x : List ℕ). x ++ schedule_bytes t.tree) f.text ∙ ap (λ (x : List ℕ). b ++ x) t.text;
      saying = let p = f.same_n in let q = f.same_w in let r = f.same_initial in let u = t.saying in let z = right_same h in cc;
    }
items_given d n w v b l a (shut es r) e f h = absurd (wrong_right h)
items_given d n w v b l a (fault k left) e f h = absurd (wrong_right h)

on : (d : ℕ) (c : ℕ) (l b : List ℕ) (a : Said) (x : Next) → Then x b c → ((m : Place) (b : List ℕ) → Stands m b → read_from d l m ≡ right a → Tells d (b ++ l) a)
    → past d l x ≡ right a → Tells d (b ++ c ∷ l) a
unfolding proceed
on d c l b a (goes m) s ih h = subst (λ (y : List ℕ). Tells d y a) (append_assoc b (c ∷ []) l) (ih m (b ++ c ∷ []) s h)
on d c l b a (begins n w v) s ih h = subst (λ (y : List ℕ). Tells d y a) (append_assoc b (c ∷ []) l) (items_given d n w v (b ++ c ∷ []) l a (scan l (between false) [] [] d) refl s h)
on d c l b a breaks s ih h = absurd (wrong_right h)

walk : (d : ℕ) (s : List ℕ) (m : Place) (b : List ℕ) (a : Said) → Stands m b → read_from d s m ≡ right a → Tells d (b ++ s) a
unfolding read_from
walk d [] m b a s h = absurd (wrong_right h)
walk d (c ∷ l) m b a s h = on d c l b a (step m c) (next m b c s) (λ m b. walk d l m b a) h

-- what the reading says, the grammar gives
pub text_given : (d : ℕ) (s : List ℕ) (a : Said) → read_from d s before_n ≡ right a → Tells d s a
text_given d s a h = walk d s before_n [] a refl h
