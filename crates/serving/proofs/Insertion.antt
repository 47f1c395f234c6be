-- THE INSERTION LEMMA: an LL of p at its moment, with no later call of p, and the words that the object holds there for its answer.
use mathlib.Core.Path.{◌≡◌, refl, sym, ap, ap₂, subst, ◌∙◌}
use mathlib.Core.Bool.{Bool, true, false, cond}
use mathlib.Core.List.{List, [], ◌∷◌, ◌++◌}
use Prim.Native.Nat.{ℕ, ◌≤◌}
use native.Mathlib.Omega.{arith}
use lib.Dec.{eqb}
use borrow.Author.Tests.{le-leb}
use Rattle.llsc.specs.Answers.{ll_words}
use Rattle.llsc.specs.Object.{ll, Object, feed}
use Rattle.llsc.specs.Linearizable.{Timed, insert}
use Rattle.laws.proofs.Updates.{ifb_eq}
use Rattle.serving.proofs.Serving.{feeds, after, Served, Free, Alike, ll_alike, served_alike_lem, after_alike}
use Rattle.serving.proofs.Serving.{success, successes, successes_alike, link_after, after_append}
use Rattle.serving.proofs.Serving.{served_parts, served_append, successes_append}
use Rattle.serving.proofs.Sorting.{all_map, upto, past, upto_past, insert_between, upto_low, upto_append, free_upto}

-- what becomes of served calls when the call is inserted
pub record Inserted (o : Object) (us : List Timed) (t : Timed) : Type 0 where
  pub served : Served o (insert t us)
  -- the end: alike but for p's link
  pub alike : Alike t.call.process (after o us) (after o (insert t us))
  -- any part up to a moment: its words and its successes are what they were
  pub part : (m : ℕ) → t.moment ≤ m → ((after o (upto m (insert t us))).words ≡ (after o (upto m us)).words) × (successes o (upto m (insert t us)) ≡ successes o (upto m us))
  -- p's link at the end: set if nothing succeeded behind the moment
  pub link : (after o (insert t us)).link t.call.process ≡ eqb (successes (after o (upto t.moment us)) (past t.moment us)) 0

module _ (o : Object) (us : List Timed) (t : Timed) (v : List ℕ) (is_ll_is : t.call.kind ≡ ll) (an : t.call.answer ≡ ll_words v)
    (ok : Served o us) (free : Free t.call.process (past t.moment us)) (here : (after o (upto t.moment us)).words ≡ v) where
  abbrev p : ℕ
  p = t.call.process

  abbrev before : List Timed
  before = upto t.moment us

  abbrev behind : List Timed
  behind = past t.moment us

  -- the object at the moment
  abbrev mid : Object
  mid = after o before

  alike : Alike p mid (feeds t mid)
  alike = rw is_ll_is (ll_alike p mid)

  insert_served : Served o (insert t us)
  insert_served =
      let w = served_parts o before behind (rw (← (upto_past t.moment us)) at ok) in
      rw (insert_between t us)
      (served_append o before (t ∷ behind) w.0 (rw is_ll_is (ap ll_words here ∙ sym an), served_alike_lem p mid (feeds t mid) behind alike free w.1))

  insert_alike : Alike p (after o us) (after o (insert t us))
  insert_alike =
      subst (λ z. Alike p (after o z) (after o (insert t us))) (upto_past t.moment us)
      (rw (insert_between t us, after_append o before behind, after_append o before (t ∷ behind)) (after_alike p mid (feeds t mid) behind alike free))

  insert_upto : (m : ℕ) → t.moment ≤ m → ((after o (upto m (insert t us))).words ≡ (after o (upto m us)).words) × (successes o (upto m (insert t us)) ≡ successes o (upto m us))
  insert_upto m h =
      let low = all_map (λ u. u.moment ≤ t.moment) (λ u. u.moment ≤ m) (λ u w. omega arith) before (upto_low t.moment us) in
      let fr = free_upto p m behind free in
      let a : upto m (insert t us) ≡ before ++ t ∷ upto m behind =
      ap (upto m) (insert_between t us) ∙ upto_append m before (t ∷ behind) low ∙ ap (λ b. before ++ cond b (t ∷ upto m behind) []) (le-leb t.moment m h) in
      let b : upto m us ≡ before ++ upto m behind = ap (upto m) (sym (upto_past t.moment us)) ∙ upto_append m before behind low in
      let none : success p t.call.kind mid ≡ 0 = ap (λ k. success p k mid) is_ll_is in (
        rw (a, b) (rw (after_append o before (t ∷ upto m behind), after_append o before (upto m behind)) (sym (after_alike p mid (feeds t mid) (upto m behind) alike fr).words)),
        rw (a, b) (let c = successes_append o before (t ∷ upto m behind) in let d = successes_append o before (upto m behind) in
            let z = successes_alike p mid (feeds t mid) (upto m behind) alike fr in omega arith),
      )

  insert_link : (after o (insert t us)).link p ≡ eqb (successes mid behind) 0
  insert_link =
      let z = successes_alike p mid (feeds t mid) behind alike free in
      let s : (feeds t mid).link p ≡ true = ap (λ k. (feed p k mid).link p) is_ll_is ∙ ifb_eq p p true (mid.link p) refl in
      ap (λ x. (after o x).link p) (insert_between t us) ∙ ap (λ x. x.link p) (after_append o before (t ∷ behind))
      ∙ link_after p (feeds t mid) behind free ∙ ap₂ (λ n b. cond (eqb n 0) b false) (sym z) s ∙ tidy (eqb (successes mid behind) 0)
    where
      tidy : (b : Bool) → cond b true false ≡ b
      tidy true = refl
      tidy false = refl

  pub insert_ll : Inserted o us t
  insert_ll = record { served = insert_served; alike = insert_alike; part = insert_upto; link = insert_link }
