-- The theorems of CR 2.
use Prim.Native.Nat.{ℕ, zero, suc, ◌+◌, ◌≤◌, ◌<◌, ◌∣◌}
use mathlib.Core.Path.{◌≡◌, refl, sym, ap, subst, ◌∙◌}
use mathlib.Core.List.{List, [], ◌∷◌, Permᴰ}
use mathlib.Core.Bool.{Bool, true, false, ◌&&◌, cond, true≢false}
use native.Mathlib.Omega.{arith}
use native.Mathlib.Nat.{dvd-zero}
use borrow.Author.Tests.{leb-true, lt-ltb, eqb-true}
use lib.Dec.{leb, eqb}
use Rattle.std.specs.Prelude.{Option, Result, Ok, Err}
use Rattle.std.specs.Result.{is_ok, result_unwrap_or, IsOk, IsErr, IsOkAnd}
use lib.ListN.{length, get_or, replicate, get_or-replicate, length-replicate}
use Rattle.answers.specs.declared.Sum.{Sum}
use Rattle.answers.specs.Shape.{Answer, ll, sc, vl, Right}
use Rattle.answers.specs.Gains.{no_sum, plus, gain_of, gained}
use Rattle.answers.proofs.Theorems.{reads_shaped}
use Rattle.sums.specs.declared.Sums.{Sums}
use Rattle.sums.specs.declared.Fraction.{Fraction}
use Rattle.sums.specs.declared.Row.{Row}
use Rattle.sums.specs.Season.{empty_sums, most_listings, sums_refusal, is_right, listing_refusal, add_refusal, taking, NotTaken, added, added_number, sums_after, add_all}
use Rattle.sums.specs.Fractions.{none, lowest, Exact, row_of, no_row, rows_of, table}
use Rattle.sums.specs.SeasonTable.{Listing, bytes_of, answers_of, sc_success, sc_answered, ll_steps, ll_answered, total, Tabled, SeasonTable}
use Rattle.sums.proofs.GcdLaws.{lowest_terms, no_calls}
use Rattle.sums.proofs.RefusalLaws.{passes, and_true}
use Rattle.sums.proofs.RowLaws.{row_below, row_past}
use Rattle.sums.proofs.Order.{right_of, of_right, Fine, empty_fine, fine_right, all_fine, same_sums}
use Rattle.sums.proofs.TotalLaws.{totals, all_gained}

-- Row 18 is exact: a listing is taken exactly if it is of 01's shape, with N, W and numbers as CR 2 says,
pub right_exactly : (n w : ℕ) (bs : List ℕ) → n ≤ 16 → (is_right n w bs ≡ true → Right n w bs) × (Right n w bs → is_right n w bs ≡ true)
right_exactly n w bs few = (right_of n w bs few, of_right n w bs few)

-- and then the sums gain what its answers add.
pub gains_answers : (s : Sums) (bs : List ℕ) → s.n ≤ 16 → (r : Right s.n s.w bs) → (taking s bs).each ≡ gained s.each r.shaped.answers
unfolding taking
gains_answers s bs few r = ap (λ (x : Result (List Sum) (List ℕ)). result_unwrap_or x s.each) (reads_shaped s.n s.w s.each few r.shaped)

-- A right listing is taken by sums that rows 1, 2, 9 and 19 leave alone.
pub right_taken : (s : Sums) (bs : List ℕ) → sums_refusal s ≡ 0 → s.taken < most_listings → Right s.n s.w bs → IsOk (added s bs)
unfolding added add_refusal
right_taken s bs e h r = simp (e, lt-ltb s.taken most_listings h, of_right s.n s.w bs (passes s e).few r)

-- What rows 1, 2 and 9 leave has its rows.
rows_are : (s : Sums) → sums_refusal s ≡ 0 → table s ≡ Ok (rows_of s.each s.n)
unfolding table
rows_are s e = simp (e)

-- Row 9 never strikes sums that began empty, whatever listings were added: neither their table
pub never_nine : (n w : ℕ) (xs : List (List ℕ)) → 1 ≤ n → n ≤ 16 → 1 ≤ w → w ≤ 64 → IsOk (table (add_all (empty_sums n w) xs))
never_nine n w xs a b c d = ap is_ok (rows_are (add_all (empty_sums n w) xs) (fine_right _ (all_fine xs (empty_sums n w) (empty_fine n w a b c d))))

-- (the number that is told is that of the first row that strikes)
number_added : (s : Sums) (bs : List ℕ) → added_number (added s bs) ≡ add_refusal s bs
unfolding added
number_added s bs = pick (add_refusal s bs) _ (eqb (add_refusal s bs) 0) refl
  where
    pick : (k : ℕ) (at : Option ℕ) (t : Bool) → eqb k 0 ≡ t
        → added_number (cond t (Ok (taking s bs)) (Err (record { number = k; at = at }))) ≡ k
    pick k at true e = sym (eqb-true k 0 e)
    pick k at false e = refl

-- nor the adding of a further one, which rows 19 and 18 alone can stop.
pub never_nine_adding : (n w : ℕ) (xs : List (List ℕ)) (bs : List ℕ) → 1 ≤ n → n ≤ 16 → 1 ≤ w → w ≤ 64
    → added_number (added (add_all (empty_sums n w) xs) bs) ≡ listing_refusal (add_all (empty_sums n w) xs) bs
unfolding add_refusal
never_nine_adding n w xs bs a b c d =
    let s : Sums = add_all (empty_sums n w) xs in
    number_added s bs ∙ simp (fine_right s (all_fine xs (empty_sums n w) (empty_fine n w a b c d)))

-- "the sums stay"
pub sums_stay : (s : Sums) (bs : List ℕ) → IsErr (added s bs) → sums_after s bs ≡ s
unfolding sums_after
sums_stay s bs h = pick (added s bs) h
  where
    pick : (r : Result Sums NotTaken) → IsErr r → result_unwrap_or r s ≡ s
    pick (Ok t) e = absurd (true≢false (sym e))
    pick (Err e) h = refl

-- At rows 1, 2 and 9 they stay whatever is added.
stuck : (s : Sums) → eqb (sums_refusal s) 0 ≡ false → (xs : List (List ℕ)) → add_all s xs ≡ s
unfolding add_all sums_after added add_refusal
stuck s e [] = refl
stuck s e (x ∷ xs) = ap (λ (z : Sums). add_all z xs) (simp (e)) ∙ stuck s e xs

module _ (n w : ℕ) where
  abbrev right_n : Bool
  right_n = leb 1 n && leb n 16

  abbrev right_w : Bool
  right_w = leb 1 w && leb w 64

  out_n : right_n ≡ false → eqb (sums_refusal (empty_sums n w)) 0 ≡ false
  unfolding sums_refusal empty_sums
  out_n e = simp (e)

  out_w : right_n ≡ true → right_w ≡ false → eqb (sums_refusal (empty_sums n w)) 0 ≡ false
  unfolding sums_refusal empty_sums
  out_w e f = simp (e, f)

  in_range_lem : right_n ≡ true → right_w ≡ true → Fine (empty_sums n w)
  in_range_lem e f =
      let p = and_true (leb 1 n) (leb n 16) e in
      let q = and_true (leb 1 w) (leb w 64) f in
      empty_fine n w (leb-true 1 n p.0) (leb-true n 16 p.1) (leb-true 1 w q.0) (leb-true w 64 q.1)

  order_pick : {xs ys : List (List ℕ)} → Permᴰ xs ys → length xs ≤ most_listings → (t u : Bool) → right_n ≡ t → right_w ≡ u
      → add_all (empty_sums n w) xs ≡ add_all (empty_sums n w) ys
  unfolding empty_sums
  order_pick {xs} {ys} p h false u e f = let s = empty_sums n w in stuck s (out_n e) xs ∙ sym (stuck s (out_n e) ys)
  order_pick {xs} {ys} p h true false e f = let s = empty_sums n w in stuck s (out_w e f) xs ∙ sym (stuck s (out_w e f) ys)
  order_pick p h true true e f = same_sums p (empty_sums n w) (in_range_lem e f) (omega arith)

-- "Adding at most 4,096 listings to empty sums in another order must give the same table, shown over all processes and
-- both fractions together." Any listings, right or not, and any N and W.
pub any_order : (n w : ℕ) {xs ys : List (List ℕ)} → Permᴰ xs ys → length xs ≤ most_listings
    → table (add_all (empty_sums n w) xs) ≡ table (add_all (empty_sums n w) ys)
any_order n w p h = ap table (order_pick n w p h (right_n n w) (right_w n w) refl refl)

-- The table: a process below N has its two fractions, the others have 0 over 0,
tabled : (s : Sums) {rows : List Row} → table s ≡ Ok rows → (sums_refusal s ≡ 0) × (rows ≡ rows_of s.each s.n)
unfolding table
tabled s {rows} e = pick (eqb (sums_refusal s) 0) refl e
  where
    pick : (t : Bool) → eqb (sums_refusal s) 0 ≡ t → cond t (Ok (rows_of s.each s.n)) (Err (sums_refusal s)) ≡ Ok rows
        → (sums_refusal s ≡ 0) × (rows ≡ rows_of s.each s.n)
    pick true z h = (eqb-true (sums_refusal s) 0 z, ap (λ (r : Result (List Row) ℕ). result_unwrap_or r []) (sym h))
    pick false z h = absurd (true≢false (sym (ap is_ok h)))

pub own_row : (s : Sums) (p : ℕ) {rows : List Row} → table s ≡ Ok rows → p < s.n → get_or rows p no_row ≡ row_of (get_or s.each p no_sum)
own_row s p e h =
    let t = tabled s e in
    ap (λ (l : List Row). get_or l p no_row) t.1 ∙ row_below s.each s.n p h (passes s t.0).few

pub other_row : (s : Sums) (p : ℕ) {rows : List Row} → table s ≡ Ok rows → s.n ≤ p → p < 16 → get_or rows p no_row ≡ no_row
other_row s p e h k = ap (λ (l : List Row). get_or l p no_row) (tabled s e).1 ∙ row_past s.each s.n p h k

-- "as fractions in lowest terms. A process with no such call gets 0 over 0", and no other does.
two_zeros : {x : ℕ} → x ≡ 0 → 2 ∣ x
two_zeros z = subst (λ (y : ℕ). 2 ∣ y) (sym z) (dvd-zero 2)

only_none : (a b : ℕ) → lowest a b ≡ none → b ≡ 0
only_none a zero e = refl
only_none a (suc b) e =
    let l = lowest_terms a (suc b) (omega arith) in
    let over = two_zeros (ap (λ (f : Fraction). f.over) e) in
    let under = two_zeros (ap (λ (f : Fraction). f.under) e) in
    absurd (omega (arith, l.coprime 2 over under))

exact : (a b : ℕ) → Exact a b (lowest a b)
exact a b = record {
  some = lowest_terms a b;
  no_call = λ z. ap (lowest a) z ∙ no_calls a;
  only = only_none a b;
}

-- So for each process below N and both fractions of its row.
pub exact_rows : (s : Sums) (p : ℕ) {rows : List Row} → table s ≡ Ok rows → p < s.n
    → let r = get_or rows p no_row in let t = get_or s.each p no_sum in
    Exact t.successes t.scs r.successes × Exact t.steps t.lls r.steps
unfolding row_of
exact_rows s p e h =
    let t : Sum = get_or s.each p no_sum in
    subst (λ (r : Row). Exact t.successes t.scs r.successes × Exact t.steps t.lls r.steps) (sym (own_row s p e h))
    (exact t.successes t.scs, exact t.steps t.lls)

-- CR 2 in one statement: for up to 4,096 right listings of one N and W the table has, for each process, the fractions of
-- the answers in all of them.
module _ (n w : ℕ) (a : 1 ≤ n) (b : n ≤ 16) (c : 1 ≤ w) (d : w ≤ 64) (season : List (Listing n w)) (h : length season ≤ most_listings) where
  abbrev end : Sums
  end = add_all (empty_sums n w) (bytes_of season)

  abbrev answers : List Answer
  answers = answers_of season

  abbrev each : List Sum
  each = gained (replicate 16 no_sum) answers

  end_is : end ≡ record { n = n; w = w; taken = 0 + length season; each = each }
  unfolding empty_sums
  end_is = all_gained n w season 0 (replicate 16 no_sum) (empty_fine n w a b c d) (omega arith)

  rows_end : table end ≡ Ok (rows_of end.each end.n)
  rows_end = rows_are end (fine_right end (all_fine (bytes_of season) (empty_sums n w) (empty_fine n w a b c d)))

  -- one of the four sums of a process
  total_is : (g : Sum → ℕ) (f : Answer → ℕ) (adds : (s t : Sum) → g (plus s t) ≡ g s + g t) (worth : (x : Answer) → g (gain_of x) ≡ f x)
      → g no_sum ≡ 0 → (p : ℕ) → p < n → g (get_or end.each p no_sum) ≡ total f p answers
  total_is g f adds worth nought p k =
      let x = ap (λ (s : Sums). g (get_or s.each p no_sum)) end_is in
      let y = totals g f adds worth (replicate 16 no_sum) answers p (omega (arith, length-replicate 16 no_sum)) in
      let z = ap g (get_or-replicate 16 p no_sum no_sum (omega arith)) in
      omega (arith, x, y, z, nought)

  below_n : (p : ℕ) → p < n → p < end.n
  below_n p k = omega (arith, ap (λ (s : Sums). s.n) end_is)

  season_tabled : IsOkAnd (table end) (Tabled n answers)
  season_tabled = subst (λ (t : Result (List Row) ℕ). IsOkAnd t (Tabled n answers)) (sym rows_end) (record {
    successes = λ p k.
        let scs = total_is (λ (s : Sum). s.scs) sc_answered (λ s t. refl) of_scs refl p k in
        let ones = total_is (λ (s : Sum). s.successes) sc_success (λ s t. refl) of_successes refl p k in
        rw (sym scs, sym ones) (exact_rows end p rows_end (below_n p k)).0;
    steps = λ p k.
        let lls = total_is (λ (s : Sum). s.lls) ll_answered (λ s t. refl) of_lls refl p k in
        let all = total_is (λ (s : Sum). s.steps) ll_steps (λ s t. refl) of_steps refl p k in
        rw (sym lls, sym all) (exact_rows end p rows_end (below_n p k)).1;
    others = λ p k q. other_row end p rows_end (omega (arith, ap (λ (s : Sums). s.n) end_is)) q;
  })
    where
      of_scs : (x : Answer) → (gain_of x).scs ≡ sc_answered x
      of_scs (ll p e ws) = refl
      of_scs (sc p e t) = refl
      of_scs (vl p e t) = refl

      of_successes : (x : Answer) → (gain_of x).successes ≡ sc_success x
      of_successes (ll p e ws) = refl
      of_successes (sc p e t) = refl
      of_successes (vl p e t) = refl

      of_lls : (x : Answer) → (gain_of x).lls ≡ ll_answered x
      of_lls (ll p e ws) = refl
      of_lls (sc p e t) = refl
      of_lls (vl p e t) = refl

      of_steps : (x : Answer) → (gain_of x).steps ≡ ll_steps x
      of_steps (ll p e ws) = refl
      of_steps (sc p e t) = refl
      of_steps (vl p e t) = refl

pub season_table : SeasonTable
season_table n w a b c d season h =
    let few : length season ≤ 4096 = omega arith in
    record {
      all_taken = ap (λ (s : Sums). s.taken) (end_is n w a b c d season few) ∙ omega arith;
      tabled = season_tabled n w a b c d season few;
    }
