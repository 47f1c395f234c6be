-- An accepted set-up leaves memory that is related to the ghost machine's set-up, whatever it held before.
use mathlib.Core.Path.{◌≡◌, refl, sym, ap, ap₂, ◌∙◌}
use mathlib.Core.Bool.{false, cond}
use mathlib.Core.List.{List, ◌++◌, map}
use Prim.Native.Nat.{ℕ, zero, suc, ◌+◌, ◌-◌, ◌*◌, ◌≤◌, ◌<◌}
use native.Mathlib.Nat.{mul-le-mul_right}
use native.Mathlib.Omega.{arith}
use lib.Dec.{eqb}
use borrow.Author.Tests.{ltb-false, eqb-true, eq-eqb, not-false}
use lib.ListN.{length, get_or, replicate, length-map, length-replicate, get_or-replicate, length-append, get_or-append}
use lib.Seq.{sets, length-sets, get_or-append-add}
use Rattle.model.specs.Sizes.{halves}
use Rattle.model.specs.Words.{word_of, half}
use Rattle.model.proofs.HalfLaws.{half_zero}
use Rattle.model.specs.Tables.{no_bank, no_help}
use Rattle.model.specs.Records.{no_process}
use Rattle.model.specs.Machine.{Memory, Shaped}
use Rattle.model.specs.Refusals.{set_up_rows}
use Rattle.model.specs.SetUp.{set_up, set_up_refusal, at_set_up, numbers, bank_at_set_up, help_at_set_up, process_at_set_up}
use Rattle.laws.proofs.Updates.{ifb_ne}
use Rattle.linearization.proofs.GhostMachine.{State}
use Rattle.linearization.proofs.GhostRuns
use Rattle.linearization.proofs.WordLists.{cells}
use Rattle.laws.proofs.ListFacts.{sets_front, map_at, zeros}
use Rattle.linearization.proofs.ListFacts.{numbers_length, numbers_at}
use Rattle.serving.proofs.RefusalFacts.{or_false, no_row, none_holds, inside}
use Rattle.linearization.proofs.Relation.{Sizes, Related, links_none}

-- what an accepted set-up found
pub record Admitted (m : Memory) (n w : ℕ) (value : List ℕ) : Type 0 where
  pub sizes : Sizes n w
  pub words : 5 * n * w ≤ length m.words
  pub records : n ≤ length m.records
  pub value_length : length value ≡ w

pub set_up_admits : (m : Memory) (n w : ℕ) (value : List ℕ) → (set_up m n w value).0 ≡ 0 → Admitted m n w value
unfolding set_up set_up_refusal
set_up_admits m n w value e =
    let r : (j : ℕ) → (get_or (set_up_rows m n w value) j no_row).holds ≡ false = none_holds (set_up_rows m n w value) refl e in
    let a = inside 1 16 n (r 0) in
    let b = inside 1 64 w (r 1) in
    let c = or_false _ _ (r 2) in
    record {
      sizes = record {
        n_low = a.0;
        n_high = a.1;
        w_low = b.0;
        w_high = b.1;
      };
      words = ltb-false _ _ c.0;
      records = ltb-false _ _ c.1;
      value_length = eqb-true _ _ (not-false _ (r 3));
    }

pub set_up_memory : (m : Memory) (n w : ℕ) (value : List ℕ) → (set_up m n w value).0 ≡ 0 → (set_up m n w value).1 ≡ at_set_up m n w value
unfolding set_up
set_up_memory m n w value e = ap (λ b. cond b (at_set_up m n w value) m) (eq-eqb _ 0 e)

module _ (m : Memory) (N W : ℕ) (value : List ℕ) (shaped : Shaped m) (a : Admitted m N W value) where
  -- the words, row by row
  abbrev given : List ℕ
  given = value ++ replicate (5 * N * W - W) 0

  enough : W ≤ 5 * N * W
  enough = let z = a.sizes.n_low in let y : 1 * W ≤ 5 * N * W = mul-le-mul_right W (omega arith) in omega arith

  given_length : length given ≡ 5 * N * W
  given_length =
      length-append value (replicate (5 * N * W - W) 0) ∙ ap₂ ◌+◌ a.value_length (length-replicate (5 * N * W - W) 0)
      ∙ (let x = enough in let z : W + (5 * N * W - W) ≡ 5 * N * W = omega arith in z)

  row0 : (k : ℕ) → k < W → get_or given (0 * W + k) 0 ≡ get_or value k 0
  row0 k hk = ap (λ i. get_or given i 0) (let z : 0 * W + k ≡ k = omega arith in z) ∙ get_or-append value (replicate (5 * N * W - W) 0) 0 k (let z = a.value_length in omega arith)

  row_s : (r k : ℕ) → 0 < r → get_or given (r * W + k) 0 ≡ 0
  row_s zero k h = absurd (omega arith)
  row_s (suc r) k h =
      ap (λ i. get_or given i 0) (let y = a.value_length in let z : suc r * W + k ≡ length value + (r * W + k) = omega arith in z)
      ∙ get_or-append-add value (replicate (5 * N * W - W) 0) (r * W + k) 0 ∙ zeros (5 * N * W - W) (r * W + k)

  rows : (r k : ℕ) → k < halves W → half k (get_or given (r * W + word_of k) 0) ≡ cond {A = ℕ → ℕ} (eqb r 0) (cells value) (λ w. 0) k
  rows zero k hk = ap (half k) (row0 (word_of k) (omega arith))
  rows (suc r) k hk = ap (half k) (row_s (suc r) (word_of k) (omega arith)) ∙ half_zero k ∙ sym (ap (λ f. f k) (ifb_ne {A = ℕ → ℕ} (suc r) 0 (cells value) (λ w. 0) (λ e. omega arith)))

  word : (r k : ℕ) → r < 5 * N → k < halves W → half k (get_or (sets m.words 0 given) (r * W + word_of k) 0) ≡ half k (get_or given (r * W + word_of k) 0)
  word r k hr hk =
      let z : suc r * W ≤ 5 * N * W = mul-le-mul_right W hr in let y = given_length in let x = a.words in
      ap (half k) (sets_front given m.words (r * W + word_of k) 0 (omega arith) (omega arith))

  abbrev state : State
  state = GhostRuns.setup N (halves W) (cells value)

  -- the three tables
  bank_at_is : (i : ℕ) → i < 2 * N → get_or (sets m.bench.bank 0 (map bank_at_set_up (numbers 0 (2 * N)))) i no_bank ≡ bank_at_set_up i
  bank_at_is i hi =
      let y = length-map (numbers 0 (2 * N)) bank_at_set_up in let x = numbers_length 0 (2 * N) in let v = shaped.bank in let u = a.sizes.n_high in
      sets_front (map bank_at_set_up (numbers 0 (2 * N))) m.bench.bank i no_bank (omega arith) (omega arith)
      ∙ map_at bank_at_set_up (numbers 0 (2 * N)) i 0 no_bank (omega arith) ∙ ap bank_at_set_up (numbers_at 0 (2 * N) i hi ∙ (let z : 0 + i ≡ i = omega arith in z))

  help_at_is : (i : ℕ) → i < N → get_or (sets m.bench.help 0 (replicate N help_at_set_up)) i no_help ≡ help_at_set_up
  help_at_is i hi =
      let y = length-replicate N help_at_set_up in let v = shaped.help in let u = a.sizes.n_high in
      sets_front (replicate N help_at_set_up) m.bench.help i no_help (omega arith) (omega arith) ∙ get_or-replicate N i help_at_set_up no_help hi

  process_at_is : (q : ℕ) → q < N → get_or (sets m.records 0 (map process_at_set_up (numbers (2 * N) N))) q no_process ≡ process_at_set_up (2 * N + q)
  process_at_is q hq =
      let y = length-map (numbers (2 * N) N) process_at_set_up in let x = numbers_length (2 * N) N in let v = a.records in
      sets_front (map process_at_set_up (numbers (2 * N) N)) m.records q no_process (omega arith) (omega arith)
      ∙ map_at process_at_set_up (numbers (2 * N) N) q 0 no_process (omega arith) ∙ ap process_at_set_up (numbers_at (2 * N) N q hq)

  at_set_up_related : Related N W (at_set_up m N W value) state
  at_set_up_related = record {
    sizes = a.sizes;
    n = refl;
    w = refl;
    records_length = let y = length-sets m.records 0 (map process_at_set_up (numbers (2 * N) N)) in let x = a.records in omega arith;
    process = process_at_is;
    places = record {
      x = record { buf = refl; seq = refl; links = links_none N _ (λ q. refl) };
      bank_length = let y = length-sets m.bench.bank 0 (map bank_at_set_up (numbers 0 (2 * N))) in let v = shaped.bank in let u = a.sizes.n_high in omega arith;
      bank = λ i hi. rw (bank_at_is i hi) (record { buf = refl; links = links_none N _ (λ q. refl) });
      help_length = let y = length-sets m.bench.help 0 (replicate N help_at_set_up) in let v = shaped.help in let u = a.sizes.n_high in omega arith;
      help = λ i hi. rw (help_at_is i hi) (record { flag = refl; buf = refl; links = links_none N _ (λ q. refl) });
      words = record {
        len = let y = length-sets m.words 0 given in let v = a.words in omega arith;
        buf = λ r k hr hk. word r k (omega arith) hk ∙ rows r k hk;
        returned = λ q k hq hk. word (3 * N + q) k (omega arith) hk ∙ ap (half k) (row_s (3 * N + q) (word_of k) (omega arith)) ∙ half_zero k;
        offered = λ q k hq hk. word (4 * N + q) k (omega arith) hk ∙ ap (half k) (row_s (4 * N + q) (word_of k) (omega arith)) ∙ half_zero k;
      };
    };
  }

pub set_up_related : (m : Memory) (n w : ℕ) (value : List ℕ) → Shaped m → (set_up m n w value).0 ≡ 0 → Related n w (set_up m n w value).1 (GhostRuns.setup n (halves w) (cells value))
set_up_related m n w value shaped e = rw (set_up_memory m n w value e) (at_set_up_related m n w value shaped (set_up_admits m n w value e))

-- there is a half word
pub set_up_halves : (m : Memory) (n w : ℕ) (value : List ℕ) → (set_up m n w value).0 ≡ 0 → 0 < halves w
set_up_halves m n w value e = let a = (set_up_admits m n w value e).sizes.w_low in omega arith
