-- A log that was written call by call is read back call by call.
use mathlib.Core.Path.{◌≡◌, refl, ap, ap₂, ◌∙◌}
use mathlib.Core.List.{List, [], ◌∷◌, ◌++◌, map}
use Prim.Native.Nat.{ℕ, zero, suc, ◌+◌, ◌*◌, ◌/◌, ◌%◌}
use native.Mathlib.Nat.{mul-div_cancel, mul-mod_left, suc-mul, div-eq_of_lt, add-mul-div_right}
use native.Mathlib.Omega.{arith}
use lib.ListN.{length, take, drop, length-append, length-replicate}
use Rattle.llsc.specs.Object.{Kind, ll, sc, vl}
use Rattle.llsc.specs.Answers.{Answer, ll_words, sc_truth, vl_truth}
use Rattle.llsc.specs.Linearizable.{All, Timed}
use Rattle.verdicts.specs.Log.{Entry, width, rows, entries, begun}
use Rattle.verdict_laws.specs.BenchLogs.{words_for, entry_for, numbers_of, log_for}
use Rattle.verdict_laws.specs.CallFacts.{Formed}

-- the entry has W words
abbrev pub Wide : ℕ → ℕ → Timed → Type 0
Wide w places t = length (entry_for w places t).words ≡ w

pub words_wide : (w : ℕ) (k : Kind) (a : Answer) → Formed w k a → length (words_for w k a) ≡ w
words_wide w ll (ll_words v) f = f
words_wide w ll (sc_truth t) f = absurd f
words_wide w ll (vl_truth t) f = absurd f
words_wide w (sc o) (ll_words v) f = absurd f
words_wide w (sc o) (sc_truth t) f = f
words_wide w (sc o) (vl_truth t) f = absurd f
words_wide w vl (ll_words v) f = absurd f
words_wide w vl (sc_truth t) f = absurd f
words_wide w vl (vl_truth t) f = length-replicate w 0

take_front : (w : ℕ) (xs ys : List ℕ) → length xs ≡ w → take w (xs ++ ys) ≡ xs
take_front zero [] ys e = refl
take_front zero (x ∷ xs) ys e = absurd (omega arith)
take_front (suc w) [] ys e = absurd (omega arith)
take_front (suc w) (x ∷ xs) ys e = ap (x ∷◌) (take_front w xs ys (omega arith))

drop_front : (w : ℕ) (xs ys : List ℕ) → length xs ≡ w → drop w (xs ++ ys) ≡ ys
drop_front zero [] ys e = refl
drop_front zero (x ∷ xs) ys e = absurd (omega arith)
drop_front (suc w) [] ys e = absurd (omega arith)
drop_front (suc w) (x ∷ xs) ys e = drop_front w xs ys (omega arith)

six : (w : ℕ) → width w ≡ suc (suc (suc (suc (suc (suc w)))))
six w = omega arith

module _ (w places : ℕ) where
  abbrev log : List Timed → List ℕ
  log ts = log_for w places ts

  log_rows_is : (ts : List Timed) → All (Wide w places) ts → rows (length ts) w (log ts) ≡ map (entry_for w places) ts
  log_rows_is [] a = refl
  log_rows_is (t ∷ ts) a =
      let e = entry_for w places t in
      let with : List ℕ → Entry = λ ws. record { process = e.process; kind = e.kind; start = e.start; answer = e.answer; truth = e.truth; moment = e.moment; words = ws } in
      ap₂ ◌∷◌ (ap with (take_front w e.words (log ts) a.0))
      (ap (rows (length ts) w) (ap (λ k. drop k (numbers_of e ++ log ts)) (six w) ∙ drop_front w e.words (log ts) a.0) ∙ log_rows_is ts a.1)

  log_length : (ts : List Timed) → All (Wide w places) ts → length (log ts) ≡ length ts * width w
  log_length [] a = omega arith
  log_length (t ∷ ts) a =
      let x = length-append (numbers_of (entry_for w places t)) (log ts) in let y = log_length ts a.1 in let z = a.0 in let s = suc-mul (length ts) (width w) in omega arith

  module _ (ts : List Timed) (a : All (Wide w places) ts) where
    pub log_whole : length (log ts) % width w ≡ 0
    log_whole = ap (◌% width w) (log_length ts a) ∙ mul-mod_left (length ts) (width w)

    -- so many entries, whatever is left over
    so_many : (k : ℕ) → k ≡ length ts → rows k w (log ts) ≡ map (entry_for w places) ts
    so_many k e = ap (λ k. rows k w (log ts)) e ∙ log_rows_is ts a

    pub log_entries : entries w (log ts) ≡ map (entry_for w places) ts
    log_entries = so_many (length (log ts) / width w) (ap (◌/ width w) (log_length ts a) ∙ mul-div_cancel (length ts) (omega arith))

    pub log_begun : begun w (log ts) ≡ map (entry_for w places) ts
    log_begun =
        let total : length (log ts) + (5 + w) ≡ (5 + w) + length ts * width w = let z = log_length ts a in omega (arith, z) in
        let none : (5 + w) / width w + length ts ≡ length ts = let z : (5 + w) / width w ≡ 0 = div-eq_of_lt (omega arith) in omega (arith, z) in
        so_many ((length (log ts) + (5 + w)) / width w) (ap (◌/ width w) total ∙ add-mul-div_right (5 + w) (length ts) (omega arith) ∙ none)
