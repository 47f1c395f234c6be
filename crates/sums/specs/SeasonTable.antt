-- CR 2 in one statement, from the listings of a season to its fractions.
use Rattle.std.specs.Prelude.{ℕ, ◌+◌, ◌≤◌, ◌<◌, ◌≡◌, List, [], ◌∷◌, ◌++◌, cond, eqb, length, get_or}
use Rattle.std.specs.Result.{IsOkAnd}
use Rattle.answers.specs.Shape.{Answer, ll, sc, vl, Right}
use Rattle.answers.specs.Gains.{bit, process_of}
use Rattle.sums.specs.Season.{empty_sums, most_listings, add_all}
use Rattle.sums.specs.declared.Row.{Row}
use Rattle.sums.specs.Fractions.{Exact, no_row, table}

-- a listing of N and W that row 18 leaves: its bytes, and what they are
pub record Listing (n w : ℕ) : Type 0 where
  pub bytes : List ℕ
  pub right : Right n w bytes

-- "a season of listings": the bytes of each,
abbrev pub bytes_of : {n w : ℕ} → List (Listing n w) → List (List ℕ)
bytes_of [] = []
bytes_of (l ∷ more) = l.bytes ∷ bytes_of more

-- and the answers of all
abbrev pub answers_of : {n w : ℕ} → List (Listing n w) → List Answer
answers_of [] = []
answers_of (l ∷ more) = l.right.shaped.answers ++ answers_of more

-- "successful SCs"
abbrev pub sc_success : Answer → ℕ
sc_success (ll p c ws) = 0
sc_success (sc p c t) = bit t
sc_success (vl p c t) = 0

-- "SCs answered"
abbrev pub sc_answered : Answer → ℕ
sc_answered (ll p c ws) = 0
sc_answered (sc p c t) = 1
sc_answered (vl p c t) = 0

-- "LL steps"
abbrev pub ll_steps : Answer → ℕ
ll_steps (ll p c ws) = c
ll_steps (sc p c t) = 0
ll_steps (vl p c t) = 0

-- "LLs answered"
abbrev pub ll_answered : Answer → ℕ
ll_answered (ll p c ws) = 1
ll_answered (sc p c t) = 0
ll_answered (vl p c t) = 0

-- "for each process", "the total": over the answers of process p
abbrev pub total : (Answer → ℕ) → ℕ → List Answer → ℕ
total f p [] = 0
total f p (a ∷ more) = cond (eqb (process_of a) p) (f a) 0 + total f p more

-- "we want, for each process, successful SCs over SCs answered, and the total of LL steps over LLs answered, as fractions
-- in lowest terms. A process with no such call gets 0 over 0." Processes not below N have no calls.
pub record Tabled (n : ℕ) (answers : List Answer) (rows : List Row) : Type 0 where
  pub successes : (p : ℕ) → p < n → Exact (total sc_success p answers) (total sc_answered p answers) (get_or rows p no_row).successes
  pub steps : (p : ℕ) → p < n → Exact (total ll_steps p answers) (total ll_answered p answers) (get_or rows p no_row).steps
  pub others : (p : ℕ) → n ≤ p → p < 16 → get_or rows p no_row ≡ no_row

-- "For up to 4,096 listings of one N and W": added to empty sums one after the other, all are taken, and the table is that
-- of their answers.
pub record SeasonOf (n w : ℕ) (season : List (Listing n w)) : Type 0 where
  pub all_taken : (add_all (empty_sums n w) (bytes_of season)).taken ≡ length season
  pub tabled : IsOkAnd (table (add_all (empty_sums n w) (bytes_of season))) (Tabled n (answers_of season))

abbrev pub SeasonTable : Type 0
SeasonTable =
    (n w : ℕ) → 1 ≤ n → n ≤ 16 → 1 ≤ w → w ≤ 64 → (season : List (Listing n w)) → length season ≤ most_listings
    → SeasonOf n w season
