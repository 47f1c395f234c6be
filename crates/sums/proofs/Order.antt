-- Sums that began empty: rows 1, 2 and 9 leave them alone, and the order of the listings does not matter.
use Prim.Native.Nat.{ℕ, suc, ◌+◌, ◌*◌, ◌≤◌, ◌<◌}
use mathlib.Core.Path.{◌≡◌, refl, sym, ap, subst, ◌∙◌}
use mathlib.Core.List.{List, [], ◌∷◌, Permᴰ}
use mathlib.Core.Bool.{Bool, true, false, cond, true≢false}
use native.Mathlib.Omega.{arith}
use borrow.Author.Tests.{lt-ltb, le-ltb, le-leb, leb-true, ltb-true, ltb-false}
use lib.Dec.{ltb, leb}
use lib.ListN.{length, get_or-replicate}
use Rattle.answers.specs.declared.Sum.{Sum}
use Rattle.answers.specs.Shape.{longest_listing, Answer, Right}
use Rattle.answers.specs.Gains.{no_sum, gained}
use Rattle.std.specs.Prelude.{Result}
use Rattle.std.specs.Result.{is_ok, result_unwrap_or}
use Rattle.answers.specs.Readers.{listing_in}
use Rattle.answers.specs.Ranges.{Below, AllBelow}
use Rattle.answers.proofs.SumLaws.{gained_comm, weaker}
use Rattle.answers.proofs.Theorems.{reads_shaped, shaped_read}
use Rattle.sums.specs.declared.Sums.{Sums}
use Rattle.sums.specs.Season.{empty_sums, most_listings, sums_refusal, is_right, add_refusal, taking, added, sums_after, add_all}
use Rattle.sums.proofs.RefusalLaws.{below_small}
use Rattle.sums.proofs.Bytes.{most, listing_adds}

-- `is_right` decides `Right`
right_pick : (n w : ℕ) (bs : List ℕ) → n ≤ 16 → (t : Bool) → leb (length bs) longest_listing ≡ t
    → cond t (is_ok (listing_in n w [] bs)) false ≡ true → Right n w bs
right_pick n w bs few true e h = record { short = leb-true (length bs) longest_listing e; shaped = shaped_read n w [] bs h }
right_pick n w bs few false e h = absurd (true≢false (sym h))

pub right_of : (n w : ℕ) (bs : List ℕ) → n ≤ 16 → is_right n w bs ≡ true → Right n w bs
unfolding is_right
right_of n w bs few h = right_pick n w bs few (leb (length bs) longest_listing) refl h

pub of_right : (n w : ℕ) (bs : List ℕ) → n ≤ 16 → Right n w bs → is_right n w bs ≡ true
unfolding is_right
of_right n w bs few r =
    simp (le-leb (length bs) longest_listing r.short) (ap is_ok (reads_shaped n w [] few r.shaped))

-- sums that began empty
pub record Fine (s : Sums) : Type 0 where
  pub some_n : 1 ≤ s.n
  pub few_n : s.n ≤ 16
  pub some_w : 1 ≤ s.w
  pub few_w : s.w ≤ 64
  pub few : s.taken ≤ most_listings
  pub below : AllBelow s.n (s.taken * most) s.each

pub empty_fine : (n w : ℕ) → 1 ≤ n → n ≤ 16 → 1 ≤ w → w ≤ 64 → Fine (empty_sums n w)
unfolding empty_sums
empty_fine n w a b c d = record {
  some_n = a;
  few_n = b;
  some_w = c;
  few_w = d;
  few = omega arith;
  below = λ q h. subst (Below (0 * most)) (sym (get_or-replicate 16 q no_sum no_sum (omega arith)))
      (record { successes = omega arith; scs = omega arith; steps = omega arith; lls = omega arith });
}

-- 4,096 listings add less than 2 to the 56th
pub fine_right : (s : Sums) → Fine s → sums_refusal s ≡ 0
unfolding sums_refusal
fine_right s f =
    simp (
      le-leb 1 s.n f.some_n,
      le-leb s.n 16 f.few_n,
      le-leb 1 s.w f.some_w,
      le-leb s.w 64 f.few_w,
      below_small s.n (s.taken * most) s.each (omega (arith, f.few)) f.below,
    )

module _ (s : Sums) (f : Fine s) (bs : List ℕ) where
  -- what adding does, by whether there is room and the listing is right
  full : most_listings ≤ s.taken → sums_after s bs ≡ s
  unfolding sums_after added add_refusal
  full h = simp (fine_right s f, le-ltb s.taken most_listings h)

  wrong : is_right s.n s.w bs ≡ false → s.taken < most_listings → sums_after s bs ≡ s
  unfolding sums_after added add_refusal
  wrong e h = simp (fine_right s f, lt-ltb s.taken most_listings h, e)

  pub takes : is_right s.n s.w bs ≡ true → s.taken < most_listings → (sums_after s bs) ≡ taking s bs
  unfolding sums_after added add_refusal
  takes e h = simp (fine_right s f, lt-ltb s.taken most_listings h, e)

  pub gains : (r : Right s.n s.w bs) → (taking s bs).each ≡ gained s.each r.shaped.answers
  unfolding taking
  gains r = ap (λ (x : Result (List Sum) (List ℕ)). result_unwrap_or x s.each) (reads_shaped s.n s.w s.each f.few_n r.shaped)

  pub taking_fine : is_right s.n s.w bs ≡ true → s.taken < most_listings → Fine (taking s bs)
  unfolding taking
  taking_fine e h =
      let r = right_of s.n s.w bs f.few_n e in
      let l : List Sum = gained s.each r.shaped.answers in
      record {
        some_n = f.some_n;
        few_n = f.few_n;
        some_w = f.some_w;
        few_w = f.few_w;
        few = omega arith;
        below = subst (AllBelow s.n ((s.taken + 1) * most)) (sym (gains r))
            (weaker s.n (s.taken * most + most) ((s.taken + 1) * most) l (omega arith)
            (listing_adds s.n s.w f.few_n f.some_w (s.taken * most) s.each r f.below));
      }

  -- the sums after it: fine, with at most one more taken
  record After (t : Sums) : Type 0 where
    fine : Fine t
    more : t.taken ≤ s.taken + 1

  stays : {t : Sums} → t ≡ s → After t
  stays e = subst After (sym e) (record { fine = f; more = omega arith })

  grows : is_right s.n s.w bs ≡ true → s.taken < most_listings → {t : Sums} → t ≡ taking s bs → After t
  unfolding taking
  grows h k e = subst After (sym e) (record { fine = taking_fine h k; more = omega arith })

  after_pick : (t u : Bool) → ltb s.taken most_listings ≡ t → is_right s.n s.w bs ≡ u → After (sums_after s bs)
  after_pick false u e h = stays (full (ltb-false s.taken most_listings e))
  after_pick true false e h = stays (wrong h (ltb-true s.taken most_listings e))
  after_pick true true e h = let k = ltb-true s.taken most_listings e in grows h k (takes h k)

  after : After (sums_after s bs)
  after = after_pick (ltb s.taken most_listings) (is_right s.n s.w bs) refl refl

pub all_fine : (xs : List (List ℕ)) (s : Sums) → Fine s → Fine (add_all s xs)
unfolding add_all
all_fine [] s f = f
all_fine (x ∷ xs) s f = all_fine xs (sums_after s x) (after s f x).fine

-- two listings in either order
module _ (s : Sums) (f : Fine s) (x y : List ℕ) (room : s.taken + 2 ≤ most_listings) where
  abbrev IsRight : List ℕ → Bool
  IsRight bs = is_right s.n s.w bs

  answers_of : (bs : List ℕ) → IsRight bs ≡ true → List Answer
  answers_of bs a = (right_of s.n s.w bs f.few_n a).shaped.answers

  -- both taken
  gains_both : (u v : List ℕ) (a : IsRight u ≡ true) (b : IsRight v ≡ true)
      → (taking (taking s u) v).each ≡ gained (gained s.each (answers_of u a)) (answers_of v b)
  unfolding taking answers_of
  gains_both u v a b =
      let p = right_of s.n s.w u f.few_n a in
      let q = right_of s.n s.w v f.few_n b in
      gains (taking s u) (taking_fine s f u a (omega arith)) v q ∙ ap (λ (l : List Sum). gained l q.shaped.answers) (gains s f u p)

  both : IsRight x ≡ true → IsRight y ≡ true → taking (taking s x) y ≡ taking (taking s y) x
  unfolding taking
  both a b =
      ap (λ (l : List Sum). record { n = s.n; w = s.w; taken = s.taken + 1 + 1; each = l })
      (gains_both x y a b ∙ gained_comm s.each (answers_of x a) (answers_of y b) ∙ sym (gains_both y x b a))

  then_takes : (u v : List ℕ) → IsRight u ≡ true → IsRight v ≡ true → sums_after (sums_after s u) v ≡ taking (taking s u) v
  unfolding taking
  then_takes u v a b =
      ap (λ (z : Sums). sums_after z v) (takes s f u a (omega arith)) ∙ takes (taking s u) (taking_fine s f u a (omega arith)) v b (omega arith)

  then_stays : (u v : List ℕ) → IsRight u ≡ true → IsRight v ≡ false → sums_after (sums_after s u) v ≡ sums_after s u
  unfolding taking
  then_stays u v a b =
      let e = takes s f u a (omega arith) in
      ap (λ (z : Sums). sums_after z v) e ∙ wrong (taking s u) (taking_fine s f u a (omega arith)) v b (omega arith) ∙ sym e

  skips : (u v : List ℕ) → IsRight u ≡ false → sums_after (sums_after s u) v ≡ sums_after s v
  skips u v a = ap (λ (z : Sums). sums_after z v) (wrong s f u a (omega arith))

  swap_pick : (t u : Bool) → IsRight x ≡ t → IsRight y ≡ u → sums_after (sums_after s x) y ≡ sums_after (sums_after s y) x
  swap_pick true true a b = then_takes x y a b ∙ both a b ∙ sym (then_takes y x b a)
  swap_pick true false a b = then_stays x y a b ∙ sym (skips y x b)
  swap_pick false true a b = skips x y a ∙ sym (then_stays y x b a)
  swap_pick false false a b = skips x y a ∙ wrong s f y b (omega arith) ∙ sym (skips y x b ∙ wrong s f x a (omega arith))

  swaps : sums_after (sums_after s x) y ≡ sums_after (sums_after s y) x
  swaps = swap_pick (IsRight x) (IsRight y) refl refl

perm_length : {xs ys : List (List ℕ)} → Permᴰ xs ys → length xs ≡ length ys
perm_length Permᴰ.nil = refl
perm_length (Permᴰ.cons e p) = ap suc (perm_length p)
perm_length (Permᴰ.swap e g) = refl
perm_length (Permᴰ.trans p q) = perm_length p ∙ perm_length q

pub same_sums : {xs ys : List (List ℕ)} → Permᴰ xs ys → (s : Sums) → Fine s → s.taken + length xs ≤ most_listings → add_all s xs ≡ add_all s ys
unfolding add_all
same_sums Permᴰ.nil s f h = refl
same_sums (Permᴰ.cons {a = a} {b = b} {l₁ = l₁} {l₂ = l₂} e p) s f h =
    let k = after s f a in
    same_sums p (sums_after s a) k.fine (omega (arith, k.more)) ∙ ap (λ (z : List ℕ). add_all (sums_after s z) l₂) e
same_sums (Permᴰ.swap {a = a} {b = b} {a' = a'} {b' = b'} {l = l} e g) s f h =
    ap (λ (z : Sums). add_all z l) (swaps s f a b (omega arith))
    ∙ ap (λ (z : List ℕ). add_all (sums_after (sums_after s z) a) l) g
    ∙ ap (λ (z : List ℕ). add_all (sums_after (sums_after s a') z) l) e
same_sums (Permᴰ.trans p q) s f h = same_sums p s f h ∙ same_sums q s f (omega (arith, perm_length p))
