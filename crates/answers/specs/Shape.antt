-- What a right listing is, to be held against CR 2's row 18 and 01's "The listing has a line for each answer".
use Rattle.std.specs.Prelude.{ℕ, ◌≤◌, ◌<◌, ◌≡◌, List, [], ◌∷◌, ◌++◌, Bool, length}
use Rattle.listing.specs.Lines.{letter_s, letter_v, ll_line, truth_line, end_line, refused_line}

-- "any count, word, C or E up to 4,294,967,295 will do"
abbrev pub largest : ℕ
largest = 4294967295

-- "a listing over 65,536 bytes"
abbrev pub longest_listing : ℕ
longest_listing = 65536

-- an answer: process, count of own steps, and the words or the truth
pub data Answer : Type 0 where
  ll : ℕ → ℕ → List ℕ → Answer
  sc : ℕ → ℕ → Bool → Answer
  vl : ℕ → ℕ → Bool → Answer

-- a last line: `end E` or `refused C E`
pub data Last : Type 0 where
  end : ℕ → Last
  refused : ℕ → ℕ → Last

-- "in 01's shape (no leading zeros": the bytes of a line; `decimal` has no leading zeros
unfoldable pub line_of : Answer → List ℕ
line_of (ll p c ws) = ll_line p c ws
line_of (sc p c t) = truth_line p letter_s c t
line_of (vl p c t) = truth_line p letter_v c t

unfoldable pub last_of : Last → List ℕ
last_of (end e) = end_line e
last_of (refused c e) = refused_line c e

unfoldable pub lines_of : List Answer → List ℕ
lines_of [] = []
lines_of (a ∷ more) = line_of a ++ lines_of more

-- words that will do
pub data Fit : List ℕ → Type 0 where
  no_words : Fit []
  word : {x : ℕ} {ws : List ℕ} → x ≤ largest → Fit ws → Fit (x ∷ ws)

-- an answer that will do; row 18 strikes one "with a process not below N or not W words"
pub data Fits (n w : ℕ) : Answer → Type 0 where
  ll_fits : {p c : ℕ} {ws : List ℕ} → p < n → c ≤ largest → length ws ≡ w → Fit ws → Fits n w (ll p c ws)
  sc_fits : {p c : ℕ} {t : Bool} → p < n → c ≤ largest → Fits n w (sc p c t)
  vl_fits : {p c : ℕ} {t : Bool} → p < n → c ≤ largest → Fits n w (vl p c t)

pub data AllFit (n w : ℕ) : List Answer → Type 0 where
  no_lines : AllFit n w []
  line : {a : Answer} {more : List Answer} → Fits n w a → AllFit n w more → AllFit n w (a ∷ more)

pub data LastFits : Last → Type 0 where
  end_fits : {e : ℕ} → e ≤ largest → LastFits (end e)
  refused_fits : {c e : ℕ} → c ≤ largest → e ≤ largest → LastFits (refused c e)

-- "answer lines and a last line in 01's shape"
pub record Shaped (n w : ℕ) (bs : List ℕ) : Type 0 where
  pub answers : List Answer
  pub last : Last
  pub fit : AllFit n w answers
  pub last_fits : LastFits last
  pub bytes : bs ≡ lines_of answers ++ last_of last

-- a listing that row 18 leaves
pub record Right (n w : ℕ) (bs : List ℕ) : Type 0 where
  pub short : length bs ≤ longest_listing
  pub shaped : Shaped n w bs
