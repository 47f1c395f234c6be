-- The sums of a season, and what adding a listing does to them (CR 2). Each definition cites the sentence that it
-- states.
use Rattle.std.specs.Prelude.{ℕ, zero, suc, ◌+◌, ◌-◌, List, [], ◌∷◌, Bool, true, false, ◌&&◌, cond, eqb, ltb, leb, length, get_or, replicate, Option, Some, None, Result, Ok, Err}
use Rattle.std.specs.Option.{unwrap_or}
use Rattle.std.specs.Result.{is_ok, result_err, result_unwrap_or}
use Rattle.answers.specs.declared.Sum.{Sum}
use Rattle.answers.specs.Shape.{longest_listing}
use Rattle.answers.specs.Gains.{no_sum}
use Rattle.answers.specs.Readers.{listing_in}
use Rattle.llsc.specs.declared.refusals.Refusal.TheVariants as refusal
use Rattle.llsc.specs.Refusals.{refusal_number}
use Rattle.llsc.specs.Rows.{first, row1, row2, row9}
use Rattle.sums.specs.declared.Sums.{Sums}
use Rattle.sums.specs.declared.NotAdded.{NotAdded}
use Rattle.sums.specs.declared.NotAdded.TheVariants.{Refused, NoListing}

-- "empty sums"
unfoldable pub empty_sums : ℕ → ℕ → Sums
empty_sums n w = record { n = n; w = w; taken = 0; each = replicate 16 no_sum }

-- 9 for "a handed-in sum of 2 to the 56th or more"
abbrev pub sum_limit : ℕ
sum_limit = 72057594037927936

abbrev pub small_sum : Sum → Bool
small_sum s = ltb s.successes sum_limit && (ltb s.scs sum_limit && (ltb s.steps sum_limit && ltb s.lls sum_limit))

-- the sums of the first k processes
unfoldable pub all_small : ℕ → List Sum → Bool
all_small zero l = true
all_small (suc k) l = cond (small_sum (get_or l k no_sum)) (all_small k l) false

-- "New, after 1 and 2: 9"; 0 for none of them
unfoldable pub sums_refusal : Sums → ℕ
sums_refusal s = first (row1 s.n ∷ row2 s.w ∷ row9 (all_small s.n s.each) ∷ [])

-- "19 for adding once 4,096 are taken"
abbrev pub most_listings : ℕ
most_listings = 4096

-- whether a listing is right: `Right` of answers/specs/Shape, as proofs/Theorems shows
unfoldable pub is_right : ℕ → ℕ → List ℕ → Bool
is_right n w bs = cond (leb (length bs) longest_listing) (is_ok (listing_in n w [] bs)) false

-- "then 18"
abbrev pub listing_refusal : Sums → List ℕ → ℕ
listing_refusal s bs = cond (ltb s.taken most_listings) (cond (is_right s.n s.w bs) 0 18) 19

unfoldable pub add_refusal : Sums → List ℕ → ℕ
add_refusal s bs = cond (eqb (sums_refusal s) 0) (listing_refusal s bs) (sums_refusal s)

-- the sums with a right listing taken: each sum gains what its answers add (proofs/Theorems)
unfoldable pub taking : Sums → List ℕ → Sums
taking s bs = record { n = s.n; w = s.w; taken = s.taken + 1; each = result_unwrap_or (listing_in s.n s.w s.each bs) s.each }

-- where a listing breaks: the place of its first wrong byte, or of its first byte too many; not asked by CR 2
unfoldable pub break_in : ℕ → ℕ → List ℕ → ℕ
break_in n w bs =
    cond (leb (length bs) longest_listing) (length bs - length (unwrap_or (result_err (listing_in n w [] bs)) [])) longest_listing

-- why a listing is not added: the number of the refusal, and at 18 the place of the first wrong byte
pub record NotTaken : Type 0 where
  pub number : ℕ
  pub at : Option ℕ

-- adding a listing: the sums with it, or why it is not added, by the first row that strikes it
unfoldable pub added : Sums → List ℕ → Result Sums NotTaken
added s bs =
    let number : ℕ = add_refusal s bs in
    let at : Option ℕ = cond (eqb number 18) (Some (break_in s.n s.w bs)) None in
    cond (eqb number 0) (Ok (taking s bs)) (Err (record { number = number; at = at }))

-- the number that users are told, 0 for none
abbrev pub added_number : Result Sums NotTaken → ℕ
added_number (Ok t) = 0
added_number (Err e) = e.number

-- what the code returns: other sums, or why they stay
abbrev pub not_added_number : NotAdded → ℕ
not_added_number (Refused r) = refusal_number r
not_added_number (NoListing at) = refusal_number refusal.NoListing

abbrev pub broken_at : NotAdded → Option ℕ
broken_at (Refused r) = None
broken_at (NoListing at) = Some at

abbrev pub told_added : Result Sums NotAdded → Result Sums NotTaken
told_added (Ok t) = Ok t
told_added (Err e) = Err (record { number = not_added_number e; at = broken_at e })

-- "the sums stay" at a refusal
unfoldable pub sums_after : Sums → List ℕ → Sums
sums_after s bs = result_unwrap_or (added s bs) s

-- a season: listing after listing, whatever becomes of each
unfoldable pub add_all : Sums → List (List ℕ) → Sums
add_all s [] = s
add_all s (bs ∷ more) = add_all (sums_after s bs) more
