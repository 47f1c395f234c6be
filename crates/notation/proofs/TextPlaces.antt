-- Where a fault of a whole text stands, in terms of the reading, and then in terms of right texts.
use Prim.Native.Nat.{ℕ, suc, ◌+◌, ◌-◌, ◌≤◌, ◌<◌}
use mathlib.Core.Path.{◌≡◌, refl, sym, ap, subst, ◌∙◌}
use mathlib.Core.List.{List, [], ◌∷◌, ◌++◌, append_assoc}
use mathlib.Core.Bool.{Bool, true, false, true≢false}
use mathlib.Core.Logic.{◌⊎◌, inl, inr, ⊎_elim}
use native.Mathlib.Omega.{arith}
use lib.ListN.{length, take, drop, get_or, take-append-drop}
use lib.Seq.{take-add}
use Rattle.notation.specs.declared.Kind.TheVariants.{Open}
use Rattle.notation.specs.Bytes.{kind_of}
use Rattle.notation.specs.Grammar.{Said, deepest}
use Rattle.notation.specs.Scan.{between, Verdict, end, shut, fault, at_end, scan}
use Rattle.notation.specs.FirstLine.{Place, before_n, in_n, before_w, in_w, before_initial, in_initial, Next, goes, begins, breaks}
use Rattle.notation.specs.FirstLine.{starting, inside, step, whole, proceed, read_from, past}
use Rattle.notation.specs.Readings.{Reading, right, wrong}
use Rattle.notation.specs.Right as R
use Rattle.notation.specs.Right.{Right, Completable, Hopeless, Fault}
use Rattle.notation.proofs.Agreement.{turn, text_read}
use Rattle.notation.proofs.TextTrees.{text_given}
use Rattle.notation.proofs.ScanPlaces as S
use Rattle.notation.proofs.ScanPlaces.{is_end, ScanPlaced, ScanWhy, scan_placed}

abbrev is_right : Reading → Bool
is_right (right a) = true
is_right (wrong k left) = false

abbrev number_of : Reading → ℕ
number_of (right a) = 0
number_of (wrong k left) = k

abbrev left_of : Reading → ℕ
left_of (right a) = 0
left_of (wrong k left) = left

-- a text that goes on from a place to a right end
record Hope (d : ℕ) (p : List ℕ) (m : Place) : Type 0 where
  rest : List ℕ
  a : Said
  reads : read_from d (p ++ rest) m ≡ right a

abbrev NoHope : ℕ → List ℕ → Place → Type 0
NoHope d p m = (t : List ℕ) → is_right (read_from d (p ++ t) m) ≡ false

data Why (top : ℕ) (s : List ℕ) (at : ℕ) (m : Place) (k : ℕ) : Type 0 where
  ended : k ≡ 10 → at ≡ length s → Why top s at m k
  broken : k ≡ 10 → at < length s → ((d : ℕ) → NoHope d (take (suc at) s) m) → Why top s at m k
  deep : k ≡ 11 → at < length s → kind_of (get_or s at 0) ≡ Open → NoHope top (take (suc at) s) m → Hope (suc top) (take (suc at) s) m → Why top s at m k

record Placed (top : ℕ) (s : List ℕ) (m : Place) (k left : ℕ) : Type 0 where
  at : ℕ
  left_is : at + left ≡ length s
  hope : Hope top (take at s) m
  why : Why top s at m k

-- wherever a reading stands in the first line, some text completes it
said₀ : ℕ → ℕ → ℕ → Said
said₀ n w v = record { n = n; w = w; initial = v; entries = [] }

complete : (d : ℕ) (m : Place) → Hope d [] m
unfolding read_from proceed step starting inside whole scan at_end kind_of said₀
complete d before_n = record { rest = 48 ∷ 32 ∷ 48 ∷ 32 ∷ 48 ∷ 10 ∷ []; a = said₀ 0 0 0; reads = refl }
complete d (in_n n) = record { rest = 32 ∷ 48 ∷ 32 ∷ 48 ∷ 10 ∷ []; a = said₀ n 0 0; reads = refl }
complete d (before_w n) = record { rest = 48 ∷ 32 ∷ 48 ∷ 10 ∷ []; a = said₀ n 0 0; reads = refl }
complete d (in_w n w) = record { rest = 32 ∷ 48 ∷ 10 ∷ []; a = said₀ n w 0; reads = refl }
complete d (before_initial n w) = record { rest = 48 ∷ 10 ∷ []; a = said₀ n w 0; reads = refl }
complete d (in_initial n w v) = record { rest = 10 ∷ []; a = said₀ n w v; reads = refl }

-- the items after a first line
not_end : (n w v : ℕ) (x : Verdict) → is_right (whole n w v x) ≡ false → is_end x ≡ false
unfolding whole
not_end n w v (end es) h = h
not_end n w v (shut es l) h = refl
not_end n w v (fault k left) h = refl

not_right : (n w v : ℕ) (x : Verdict) → is_end x ≡ false → is_right (whole n w v x) ≡ false
unfolding whole
not_right n w v (end es) h = h
not_right n w v (shut es l) h = refl
not_right n w v (fault k left) h = refl

same_number : (n w v : ℕ) (x : Verdict) → is_end x ≡ false → S.number_of x ≡ number_of (whole n w v x)
unfolding whole
same_number n w v (end es) h = absurd (true≢false h)
same_number n w v (shut es l) h = refl
same_number n w v (fault k left) h = refl

same_left : (n w v : ℕ) (x : Verdict) → is_end x ≡ false → S.left_of x ≡ left_of (whole n w v x)
unfolding whole
same_left n w v (end es) h = absurd (true≢false h)
same_left n w v (shut es l) h = refl
same_left n w v (fault k left) h = refl

module _ (top : ℕ) (b : ℕ) (l : List ℕ) (m : Place) (k left : ℕ) where
  -- the reading goes on in the first line
  on_goes : (m' : Place) → step m b ≡ goes m' → Placed top l m' k left → Placed top (b ∷ l) m k left
  unfolding proceed
  on_goes m' e p = record { at = suc p.at; left_is = omega (arith, p.left_is); hope = over top (take p.at l) p.hope; why = later p.why }
    where
      over : (d : ℕ) (q : List ℕ) → Hope d q m' → Hope d (b ∷ q) m
      over d q h = record { rest = h.rest; a = h.a; reads = turn d b (q ++ h.rest) m (goes m') e ∙ h.reads }

      none : (d : ℕ) (q : List ℕ) → NoHope d q m' → NoHope d (b ∷ q) m
      none d q h t = ap is_right (turn d b (q ++ t) m (goes m') e) ∙ h t

      later : Why top l p.at m' k → Why top (b ∷ l) (suc p.at) m k
      later (ended z q) = ended z (ap suc q)
      later (broken z q h) = broken z (omega arith) (λ d. none d (take (suc p.at) l) (h d))
      later (deep z q o h g) = deep z (omega arith) o (none top (take (suc p.at) l) h) (over (suc top) (take (suc p.at) l) g)

  -- the items begin
  on_begins : (n w v : ℕ) → step m b ≡ begins n w v → ScanPlaced l (between false) [] [] top k left → Placed top (b ∷ l) m k left
  unfolding proceed whole
  on_begins n w v e p = record { at = suc p.at; left_is = omega (arith, p.left_is); hope = over top (take p.at l) p.hope.rest p.hope.says p.hope.right; why = later p.why }
    where
      over : (d : ℕ) (q r : List ℕ) (es : List _) → scan (q ++ r) (between false) [] [] d ≡ end es → Hope d (b ∷ q) m
      over d q r es h = record { rest = r; a = record { n = n; w = w; initial = v; entries = es }; reads = turn d b (q ++ r) m (begins n w v) e ∙ ap (whole n w v) h }

      none : (d : ℕ) (q t : List ℕ) → is_end (scan (q ++ t) (between false) [] [] d) ≡ false → is_right (read_from d ((b ∷ q) ++ t) m) ≡ false
      none d q t h = ap is_right (turn d b (q ++ t) m (begins n w v) e) ∙ not_right n w v (scan (q ++ t) (between false) [] [] d) h

      later : ScanWhy l p.at (between false) [] [] top k → Why top (b ∷ l) (suc p.at) m k
      later (S.ended z q) = ended z (ap suc q)
      later (S.broken z q h) = broken z (omega arith) (λ d t. none d (take (suc p.at) l) t (h t [] [] d refl))
      later (S.deep z q o h g) = deep z (omega arith) o (λ t. none top (take (suc p.at) l) t (h t)) (over (suc top) (take (suc p.at) l) g.rest g.says g.right)

  -- a byte of the first line breaks it
  on_breaks : step m b ≡ breaks → k ≡ 10 → left ≡ suc (length l) → Placed top (b ∷ l) m k left
  unfolding proceed
  on_breaks e z y = record { at = 0; left_is = omega arith; hope = complete top m; why = broken z (omega arith) (λ d t. ap is_right (turn d b t m breaks e)) }

advance : (top b : ℕ) (l : List ℕ) (m : Place) (x : Next) → step m b ≡ x
    → ((m : Place) → is_right (read_from top l m) ≡ false → Placed top l m (number_of (read_from top l m)) (left_of (read_from top l m)))
    → is_right (past top l x) ≡ false
    → Placed top (b ∷ l) m (number_of (past top l x))
    (left_of (past top l x))
unfolding proceed
advance top b l m (goes m') e ih h = on_goes top b l m _ _ m' e (ih m' h)
advance top b l m (begins n w v) e ih h =
    let x = scan l (between false) [] [] top in
    let q = not_end n w v x h in
    let p = on_begins top b l m (S.number_of x) (S.left_of x) n w v e (scan_placed l (between false) [] [] top q) in
    subst (Placed top (b ∷ l) m _) (same_left n w v x q) (subst (λ (k : ℕ). Placed top (b ∷ l) m k (S.left_of x)) (same_number n w v x q) p)
advance top b l m breaks e ih h = on_breaks top b l m 10 _ e refl refl

placed : (top : ℕ) (s : List ℕ) (m : Place) → is_right (read_from top s m) ≡ false → Placed top s m (number_of (read_from top s m)) (left_of (read_from top s m))
unfolding read_from
placed top [] m h = record { at = 0; left_is = refl; hope = complete top m; why = ended refl refl }
placed top (b ∷ l) m h = advance top b l m (step m b) refl (λ m. placed top l m) h

-- and now in terms of right texts
completed : (d : ℕ) (p : List ℕ) → Hope d p before_n → Completable d p
completed d p h = let t = text_given d (p ++ h.rest) h.a h.reads in record { rest = h.rest; right = record { tree = t.tree; text = t.text } }

not_right_text : (d : ℕ) (s : List ℕ) → is_right (read_from d s before_n) ≡ false → Right d s → ⊥
not_right_text d s h r = true≢false (sym (ap is_right (text_read r.tree)) ∙ ap (λ (x : List ℕ). is_right (read_from d x before_n)) r.text ∙ h)

within : (top : ℕ) (s : List ℕ) (at : ℕ) (k : ℕ) → Why top s at before_n k → at ≤ length s
within top s at k (ended z q) = omega arith
within top s at k (broken z q h) = omega arith
within top s at k (deep z q o h g) = omega arith

because : (s : List ℕ) (at k : ℕ) → is_right (read_from deepest s before_n) ≡ false → Why deepest s at before_n k → R.Why s at k
because s at k n (ended z q) = subst (R.Why s at) (sym z) (R.ended q (not_right_text deepest s n))
because s at k n (broken z q h) = subst (R.Why s at) (sym z) (R.broken q (λ d t r. not_right_text d (take (suc at) s ++ t) (h d t) r))
because s at k n (deep z q o h g) = subst (R.Why s at) (sym z)
    (R.deep q (record { is = o }) (λ t r. not_right_text deepest (take (suc at) s ++ t) (h t) r) (completed (suc deepest) (take (suc at) s) g))

module _ (s : List ℕ) (k left : ℕ) (e : read_from deepest s before_n ≡ wrong k left) where
  placed_so : Placed deepest s before_n k left
  placed_so =
      let p = placed deepest s before_n (ap is_right e) in
      subst (Placed deepest s before_n k) (ap left_of e) (subst (λ (j : ℕ). Placed deepest s before_n j (left_of (read_from deepest s before_n))) (ap number_of e) p)

  pub fault_placed : Fault s k
  fault_placed =
      let p = placed_so in
      record { at = p.at; within = within deepest s p.at k p.why; hope = completed deepest (take p.at s) p.hope; why = because s p.at k (ap is_right e) p.why }

  -- its place, by what is left of the text from it on
  pub fault_left : fault_placed.at + left ≡ length s
  unfolding fault_placed
  fault_left = placed_so.left_is

-- no fault stands before another
longer : (d a b : ℕ) (s : List ℕ) → a < b → Hopeless d (take (suc a) s) → Completable d (take b s) → ⊥
longer d a b s l h c = h (take (b - suc a) (drop (suc a) s) ++ c.rest)
    (subst (Right d) (ap (λ (x : List ℕ). x ++ c.rest) (ap (λ (x : ℕ). take x s) parts ∙ take-add (suc a) (b - suc a) s)
    ∙ append_assoc (take (suc a) s) (take (b - suc a) (drop (suc a) s)) c.rest) c.right)
  where
    parts : b ≡ suc a + (b - suc a)
    parts = omega arith

not_before : {s : List ℕ} {j k : ℕ} (p : Fault s j) (q : Fault s k) → p.at < q.at → ⊥
not_before {s} p q l = by p.why
  where
    by : {j : ℕ} → R.Why s p.at j → ⊥
    by (R.ended e r) = omega (arith, q.within)
    by (R.broken e h) = longer deepest p.at q.at s l (h deepest) q.hope
    by (R.deep e o h c) = longer deepest p.at q.at s l h q.hope

pub same_place : {s : List ℕ} {j k : ℕ} (p : Fault s j) (q : Fault s k) → p.at ≡ q.at
same_place p q = omega (arith, not_before p q, not_before q p)

-- nor two of different numbers at one place
same_why : (s : List ℕ) (at j k : ℕ) → R.Why s at j → R.Why s at k → j ≡ k
same_why s at j k (R.ended e r) (R.ended f t) = refl
same_why s at j k (R.ended e r) (R.broken f h) = refl
same_why s at j k (R.ended e r) (R.deep f o h c) = absurd (omega arith)
same_why s at j k (R.broken e h) (R.ended f t) = refl
same_why s at j k (R.broken e h) (R.broken f g) = refl
same_why s at j k (R.broken e h) (R.deep f o g c) = absurd (h (suc deepest) c.rest c.right)
same_why s at j k (R.deep e o h c) (R.ended f t) = absurd (omega arith)
same_why s at j k (R.deep e o h c) (R.broken f g) = absurd (g (suc deepest) c.rest c.right)
same_why s at j k (R.deep e o h c) (R.deep f p g b) = refl

pub same_fault : {s : List ℕ} {j k : ℕ} (p : Fault s j) (q : Fault s k) → j ≡ k
same_fault {s} {j} {k} p q = same_why s q.at j k (subst (λ (x : ℕ). R.Why s x j) (same_place p q) p.why) q.why

-- a text with a fault is not right
pub fault_wrong : {s : List ℕ} {k : ℕ} → Fault s k → Right deepest s → ⊥
fault_wrong {s} p r = by p.why
  where
    whole_text : (n : ℕ) → Hopeless deepest (take n s) → ⊥
    whole_text n h = h (drop n s) (subst (Right deepest) (sym (take-append-drop n s)) r)

    by : {k : ℕ} → R.Why s p.at k → ⊥
    by (R.ended e n) = n r
    by (R.broken e h) = whole_text (suc p.at) (h deepest)
    by (R.deep e o h c) = whole_text (suc p.at) h

-- its number is 10 or 11
pub fault_number : {s : List ℕ} {k : ℕ} → Fault s k → (k ≡ 10) ⊎ (k ≡ 11)
fault_number {s} p = by p.why
  where
    by : {k : ℕ} → R.Why s p.at k → (k ≡ 10) ⊎ (k ≡ 11)
    by (R.ended e n) = inl refl
    by (R.broken e h) = inl refl
    by (R.deep e o h c) = inr refl

-- a text is right or has a fault
pub decided : (s : List ℕ) → Right deepest s ⊎ (Fault s 10 ⊎ Fault s 11)
decided s = by (read_from deepest s before_n) refl
  where
    by : (x : Reading) → read_from deepest s before_n ≡ x → Right deepest s ⊎ (Fault s 10 ⊎ Fault s 11)
    by (right a) e = let t = text_given deepest s a e in inl (record { tree = t.tree; text = t.text })
    by (wrong k left) e = let p = fault_placed s k left e in inr (⊎_elim (λ q. inl (subst (Fault s) q p)) (λ q. inr (subst (Fault s) q p)) (fault_number p))
