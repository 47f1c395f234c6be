-- Laws of adding a listing: for each `return` of the code, that this is what `added` says.
use Prim.Native.Nat.{ℕ, ◌+◌, ◌-◌, ◌≤◌, ◌<◌}
use mathlib.Core.Path.{◌≡◌, refl, sym, ap, subst, ◌∙◌}
use mathlib.Core.List.{List, []}
use mathlib.Core.Bool.{Bool, true, false, not, ◌&&◌, cond}
use borrow.Author.Tests.{lt-ltb, le-ltb, le-leb, lt-leb, ne_eqb, eqb-false}
use lib.Dec.{eqb, leb}
use Rattle.std.specs.Prelude.{Option, Some, None, Result, Ok, Err}
use Rattle.std.specs.Option.{unwrap_or}
use Rattle.std.specs.Result.{is_ok, result_err, result_unwrap_or, IsErrAnd}
use Rattle.std.proofs.lemmas.Result.{err_from_is_err_and}
use lib.ListN.{length, drop}
use Rattle.llsc.specs.declared.refusals.Refusal.{Refusal}
use Rattle.llsc.specs.Refusals.{refusal_number}
use Rattle.answers.specs.declared.Sum.{Sum}
use Rattle.answers.specs.declared.Wrong.{Wrong}
use Rattle.answers.specs.Shape.{longest_listing}
use Rattle.answers.specs.Readers.{listing_in}
use Rattle.answers.specs.Ranges.{Readable}
use Rattle.answers.proofs.Theorems.{same_right, same_rest}
use Rattle.sums.specs.declared.Sums.{Sums}
use Rattle.sums.specs.Season.{most_listings, all_small, sums_refusal, is_right, add_refusal, taking, break_in, NotTaken, added}
use Rattle.sums.proofs.RefusalLaws.{some_number, passes, small_below}

abbrev pub not_taken : ℕ → Option ℕ → Result Sums NotTaken
not_taken number at = Err (record { number = number; at = at })

-- what `added` is, by its number
as_refused : (s : Sums) (bs : List ℕ) (k : ℕ) (at : Option ℕ) → add_refusal s bs ≡ k → eqb k 0 ≡ false
    → at ≡ cond (eqb k 18) (Some (break_in s.n s.w bs)) None → not_taken k at ≡ added s bs
unfolding added
as_refused s bs k at e h p = simp (e, h, p)

as_taken : (s : Sums) (bs : List ℕ) → add_refusal s bs ≡ 0 → Ok (taking s bs) ≡ added s bs
unfolding added
as_taken s bs e = simp (e)

module _ (s : Sums) (bs : List ℕ) where
  early : (k : ℕ) → k ≡ sums_refusal s → (k ≡ 0 → ⊥) → (t : Bool) → eqb k 18 ≡ t → t ≡ false → not_taken k None ≡ added s bs
  unfolding add_refusal
  early k e h t q z =
      as_refused s bs k None (simp (sym e, ne_eqb k 0 h)) (ne_eqb k 0 h)
      (sym (ap (λ (x : Bool). cond x (Some (break_in s.n s.w bs)) None) (q ∙ z)))

  -- rows 1, 2 and 9 have other numbers than 18
  early_number : eqb (sums_refusal s) 18 ≡ false
  unfolding sums_refusal
  early_number = pick (leb 1 s.n && leb s.n 16) (leb 1 s.w && leb s.w 64) (all_small s.n s.each)
    where
      pick : (a b c : Bool) → eqb (cond (not a) 1 (cond (not b) 2 (cond (not c) 9 0))) 18 ≡ false
      pick true true true = refl
      pick true true false = refl
      pick true false c = refl
      pick false b c = refl

  pub refused : (r : Refusal) → refusal_number r ≡ sums_refusal s → not_taken (refusal_number r) None ≡ added s bs
  refused r e = let k : ℕ = refusal_number r in early k e (eqb-false k 0 (some_number r)) (eqb k 18) refl (ap (λ (x : ℕ). eqb x 18) e ∙ early_number)

  module _ (z : sums_refusal s ≡ 0) where
    pub full : most_listings ≤ s.taken → not_taken 19 None ≡ added s bs
    unfolding add_refusal
    full h = as_refused s bs 19 None (simp (z, le-ltb s.taken most_listings h)) refl refl

    pub long : s.taken < most_listings → longest_listing < length bs → not_taken 18 (Some longest_listing) ≡ added s bs
    unfolding add_refusal is_right break_in
    long h k =
        let e = lt-leb (length bs) longest_listing k in
        as_refused s bs 18 (Some longest_listing) (simp (z, lt-ltb s.taken most_listings h, e)) refl (simp (e))

    pub readable : length bs ≤ longest_listing → Readable s.n s.each bs
    readable k = let p = passes s z in record { few = p.few; short = k; below = small_below s.n s.each p.small }

    module _ (h : s.taken < most_listings) (k : length bs ≤ longest_listing) where
      abbrev read : Result (List Sum) (List ℕ)
      read = listing_in s.n s.w s.each bs

      right_of : {t : Bool} → is_ok read ≡ t → is_right s.n s.w bs ≡ t
      unfolding is_right
      right_of q = simp (le-leb (length bs) longest_listing k) (same_right s.n s.w [] s.each bs ∙ q)

      broken : {rest : List ℕ} → read ≡ Err rest → length bs - length rest ≡ break_in s.n s.w bs
      unfolding break_in
      broken e =
          simp (le-leb (length bs) longest_listing k)
          (ap (λ (o : Option (List ℕ)). length bs - length (unwrap_or o [])) (sym (same_rest s.n s.w [] s.each bs ∙ ap result_err e)))

      pub wrong : {at : ℕ} → IsErrAnd read (λ rest. at ≡ length bs - length rest) → not_taken 18 (Some at) ≡ added s bs
      unfolding add_refusal
      wrong {at} e =
          let p = err_from_is_err_and read e in
          as_refused s bs 18 (Some at) (simp (z, lt-ltb s.taken most_listings h, right_of (ap is_ok p.1))) refl (ap Some (p.2 ∙ broken p.1))

      -- by what `read_listing` tells: the place, and that the bytes from there on are the rest
      pub wrong_found : (found : Wrong) → IsErrAnd read (λ rest. (rest ≡ drop found.at bs) × (found.at ≡ length bs - length rest))
          → not_taken 18 (Some found.at) ≡ added s bs
      wrong_found found e =
          let p = err_from_is_err_and read e in
          wrong (subst (λ r. IsErrAnd r (λ rest. found.at ≡ length bs - length rest)) (sym p.1) p.2.1)

      pub right : {each : List Sum} → read ≡ Ok each → Ok (record { n = s.n; w = s.w; taken = s.taken + 1; each = each }) ≡ added s bs
      unfolding add_refusal taking
      right e =
          ap (λ (x : Result (List Sum) (List ℕ)). Ok (record { n = s.n; w = s.w; taken = s.taken + 1; each = result_unwrap_or x s.each })) (sym e)
          ∙ as_taken s bs (simp (z, lt-ltb s.taken most_listings h, right_of (ap is_ok e)))

pub ruleset adding = (refused, full, long, readable, wrong_found, right)
