-- An accepted set-up leaves memory that is related to the machine's set-up, whatever it held before.
use mathlib.Core.Path.{◌≡◌, refl, sym, ap, ap₂, ◌∙◌}
use mathlib.Core.Bool.{cond}
use mathlib.Core.List.{List, ◌++◌}
use Prim.Native.Nat.{ℕ, zero, suc, ◌+◌, ◌-◌, ◌*◌, ◌≤◌, ◌<◌}
use native.Mathlib.Nat.{mul-le-mul_right}
use native.Mathlib.Omega.{arith}
use lib.ListN.{length, get_or, replicate, length-replicate, get_or-replicate, length-append, get_or-append}
use lib.Seq.{sets, length-sets, get_or-append-add}
use borrow.Author.Tests.{ltb-false, eqb-true, eq-eqb, not-false}
use Rattle.laws.proofs.Updates.{upd, upd_same, upd_other}
use Rattle.laws.proofs.ListFacts.{sets_front, zeros}
use Rattle.serving.proofs.RefusalFacts.{or_false, no_row, none_holds, inside}
use Rattle.moir_model.specs.Records.{no_process}
use Rattle.moir_model.specs.Machine.{Memory, Shaped}
use Rattle.moir_model.specs.Refusals.{set_up_rows}
use Rattle.moir_model.specs.SetUp as U
use Rattle.moir_model.specs.SetUp.{set_up_refusal, at_set_up, process_at_set_up, values_at_set_up}
use Rattle.moir_linearization.proofs.GhostRuns.{set_up}
use Rattle.moir_linearization.proofs.Relation.{Sizes, WordsLike, Related}

-- what an accepted set-up found
pub record Admitted (m : Memory) (n w : ℕ) (value : List ℕ) : Type 0 where
  pub sizes : Sizes n w
  pub words : (3 * n + 1) * w ≤ length m.words
  pub records : n ≤ length m.records
  pub value_length : length value ≡ w

pub set_up_admits : (m : Memory) (n w : ℕ) (value : List ℕ) → (U.set_up m n w value).0 ≡ 0 → Admitted m n w value
unfolding U.set_up set_up_refusal
set_up_admits m n w value e =
    let r : (j : ℕ) → (get_or (set_up_rows m n w value) j no_row).holds ≡ _ = none_holds (set_up_rows m n w value) refl e in
    let a = inside 1 16 n (r 0) in
    let b = inside 1 64 w (r 1) in
    let c = or_false _ _ (r 2) in
    record {
      sizes = record { n_low = a.0; n_high = a.1; w_low = b.0; w_high = b.1 };
      words = ltb-false _ _ c.0;
      records = ltb-false _ _ c.1;
      value_length = eqb-true _ _ (not-false _ (r 3));
    }

set_up_memory : (m : Memory) (n w : ℕ) (value : List ℕ) → (U.set_up m n w value).0 ≡ 0 → (U.set_up m n w value).1 ≡ at_set_up m n w value
unfolding U.set_up
set_up_memory m n w value e = ap (λ b. cond b (at_set_up m n w value) m) (eq-eqb _ 0 e)

module _ (m : Memory) (N W : ℕ) (value : List ℕ) (shaped : Shaped m) (a : Admitted m N W value) where
  -- A[0], the other rows of A, the segments, the areas
  abbrev others : List ℕ
  others = replicate ((N - 1) * W) 0

  abbrev areas : List ℕ
  areas = replicate (2 * N * W) 0

  abbrev v0 : ℕ → ℕ
  v0 k = get_or value k 0

  rows_of_a : (N - 1) * W + W ≡ N * W
  rows_of_a = let z = a.sizes.n_low in let e : suc (N - 1) ≡ N = omega arith in let y : suc (N - 1) * W ≡ N * W = ap (◌* W) e in omega arith

  length_a : length (value ++ others) ≡ N * W
  length_a =
      let y = rows_of_a in let x = a.value_length in let z : length others ≡ (N - 1) * W = length-replicate ((N - 1) * W) 0 in
      length-append value others ∙ (let e : length value + length others ≡ N * W = omega arith in e)

  length_front : length (value ++ others ++ value) ≡ N * W + W
  length_front = length-append (value ++ others) value ∙ ap₂ ◌+◌ length_a a.value_length

  length_values : length (values_at_set_up N W value) ≡ (3 * N + 1) * W
  length_values =
      length-append (value ++ others ++ value) areas ∙ ap₂ ◌+◌ length_front (length-replicate (2 * N * W) 0)
      ∙ (let e : N * W + W + 2 * N * W ≡ (3 * N + 1) * W = omega arith in e)

  in_front : (i : ℕ) → i < N * W + W → get_or (values_at_set_up N W value) i 0 ≡ get_or (value ++ others ++ value) i 0
  in_front i h = get_or-append (value ++ others ++ value) areas 0 i (let z = length_front in omega arith)

  in_a : (i : ℕ) → i < N * W → get_or (values_at_set_up N W value) i 0 ≡ get_or (value ++ others) i 0
  in_a i h = in_front i (omega arith) ∙ get_or-append (value ++ others) value 0 i (let z = length_a in omega arith)

  row_0 : (k : ℕ) → k < W → get_or (values_at_set_up N W value) (0 * W + k) 0 ≡ v0 k
  row_0 k hk =
      let n1 = a.sizes.n_low in let y : 1 * W ≤ N * W = mul-le-mul_right W n1 in
      in_a (0 * W + k) (omega arith) ∙ ap (λ i. get_or (value ++ others) i 0) (let e : 0 * W + k ≡ k = omega arith in e)
      ∙ get_or-append value others 0 k (let z = a.value_length in omega arith)

  row_a : (q k : ℕ) → suc q < N → k < W → get_or (values_at_set_up N W value) (suc q * W + k) 0 ≡ 0
  row_a q k hq hk =
      let y : suc (suc q) * W ≤ N * W = mul-le-mul_right W hq in
      in_a (suc q * W + k) (omega arith) ∙ ap (λ i. get_or (value ++ others) i 0)
      (let z = a.value_length in let e : suc q * W + k ≡ length value + (q * W + k) = omega arith in e)
      ∙ get_or-append-add value others (q * W + k) 0 ∙ zeros ((N - 1) * W) (q * W + k)

  row_n : (k : ℕ) → k < W → get_or (values_at_set_up N W value) (N * W + k) 0 ≡ v0 k
  row_n k hk =
      in_front (N * W + k) (omega arith) ∙ ap (λ i. get_or (value ++ others ++ value) i 0)
      (let z = length_a in let e : N * W + k ≡ length (value ++ others) + k = omega arith in e)
      ∙ get_or-append-add (value ++ others) value k 0

  row_late : (q k : ℕ) → N < q → k < W → get_or (values_at_set_up N W value) (q * W + k) 0 ≡ 0
  row_late q k hq hk =
      let y : suc N * W ≤ q * W = mul-le-mul_right W hq in let z = length_front in
      ap (λ i. get_or (values_at_set_up N W value) i 0) (let e : q * W + k ≡ length (value ++ others ++ value) + (q * W + k - (N * W + W)) = omega arith in e)
      ∙ get_or-append-add (value ++ others ++ value) areas (q * W + k - (N * W + W)) 0 ∙ zeros (2 * N * W) (q * W + k - (N * W + W))

  -- the words lent, after the set-up
  word : (q k : ℕ) → q < 3 * N + 1 → k < W → get_or (at_set_up m N W value).words (q * W + k) 0 ≡ get_or (values_at_set_up N W value) (q * W + k) 0
  word q k hq hk =
      let y : suc q * W ≤ (3 * N + 1) * W = mul-le-mul_right W hq in let z = length_values in let x = a.words in
      sets_front (values_at_set_up N W value) m.words (q * W + k) 0 (omega arith) (omega arith)

  abbrev rows0 : ℕ → ℕ → ℕ
  rows0 = λ q k. 0

  rows : (q k : ℕ) → q < N → k < W → get_or (values_at_set_up N W value) (q * W + k) 0 ≡ upd rows0 0 v0 q k
  rows zero k hq hk = row_0 k hk ∙ sym (ap (λ f. f k) (upd_same rows0 0 v0))
  rows (suc q) k hq hk = row_a q k hq hk ∙ sym (ap (λ f. f k) (upd_other rows0 0 (suc q) v0 (λ e. omega arith)))

  words_like : WordsLike N W (at_set_up m N W value).words (upd rows0 0 v0) v0 (λ q k. 0) (λ q k. 0)
  words_like = record {
    len = let z = length-sets m.words 0 (values_at_set_up N W value) in let x = a.words in omega arith;
    row = λ q k hq hk. word q k (omega arith) hk ∙ rows q k hq hk;
    val = λ k hk. word N k (omega arith) hk ∙ row_n k hk;
    returned = λ q k hq hk. word (N + 1 + q) k (omega arith) hk ∙ row_late (N + 1 + q) k (omega arith) hk;
    offered = λ q k hq hk. word (2 * N + 1 + q) k (omega arith) hk ∙ row_late (2 * N + 1 + q) k (omega arith) hk;
  }

  tags_zero : (k : ℕ) → k < W → get_or (sets m.bench.tags 0 (replicate W 0)) k 0 ≡ 0
  tags_zero k hk =
      let z = length-replicate {A = ℕ} W 0 in let y = shaped.tags in let x = a.sizes.w_high in
      sets_front {A = ℕ} (replicate W 0) m.bench.tags k 0 (omega arith) (omega arith) ∙ zeros W k

  process_at_is : (q : ℕ) → q < N → get_or (sets m.records 0 (replicate N process_at_set_up)) q no_process ≡ process_at_set_up
  process_at_is q hq =
      let z = length-replicate N process_at_set_up in let x = a.records in
      sets_front (replicate N process_at_set_up) m.records q no_process (omega arith) (omega arith) ∙ get_or-replicate N q process_at_set_up no_process hq

  at_set_up_related : Related N W (at_set_up m N W value) (set_up v0)
  at_set_up_related = record {
    sizes = a.sizes;
    bench = record {
      n = refl;
      w = refl;
      header = refl;
      tags_length = let z = length-sets m.bench.tags 0 (replicate {A = ℕ} W 0) in let y = shaped.tags in let x = a.sizes.w_high in omega arith;
      tags = tags_zero;
    };
    words = words_like;
    records_length = let z = length-sets m.records 0 (replicate N process_at_set_up) in let x = a.records in omega arith;
    process = process_at_is;
  }

pub set_up_related : (m : Memory) (n w : ℕ) (value : List ℕ) → Shaped m → (U.set_up m n w value).0 ≡ 0
    → Related n w (U.set_up m n w value).1 (set_up (λ k. get_or value k 0))
set_up_related m n w value shaped e = rw (set_up_memory m n w value e) (at_set_up_related m n w value shaped (set_up_admits m n w value e))
