-- No text and no board's file is refused for what a bench of its own has: it has room for every N and W.
use mathlib.Core.Path.{◌≡◌, refl, ap, ◌∙◌}
use mathlib.Core.List.{List}
use mathlib.Core.Bool.{Bool, true, false}
use Prim.Native.Nat.{ℕ, ◌≤◌, ◌*◌, ◌+◌}
use native.Mathlib.Nat.{mul-le-mul}
use native.Mathlib.Omega.{arith}
use lib.Dec.{leb}
use lib.ListN.{length}
use borrow.Author.Tests.{leb-true, le-leb, le-ltb, eq-eqb}
use Rattle.notation.specs.Grammar.{Said}
use Rattle.notation.specs.Readings.{right}
use Rattle.notation.specs.FirstLine.{read}
use Rattle.model.specs.SetUp.{set_up_refusal}
use Rattle.moir_model.specs.SetUp.{set_up_refusal as moir_set_up_refusal}
use Rattle.moir_text_machine.specs.TextRan.{at_start}
use Rattle.besklaun.specs.OwnBench.{narrow, words_for, words_of, own_memory, own_words, all_words}

rows : {n : ℕ} → n ≤ 16 → 5 * n ≤ 80
rows few = omega (arith, few)

-- a bench whose words are enough
has_room : (words : List ℕ) (n w : ℕ) (value : List ℕ) → 5 * n * w ≤ length words →
    1 ≤ n → n ≤ 16 → 1 ≤ w → w ≤ 64 → length value ≡ w → set_up_refusal (own_memory words) n w value ≡ 0
unfolding set_up_refusal
has_room words n w value room some few one most whole =
    let lent = le-ltb (length words) (5 * n * w) room in
    simp (le-leb 1 n some, le-leb n 16 few, le-leb 1 w one, le-leb w 64 most, lent, le-ltb 16 n few, eq-eqb (length value) w whole)

-- the larger one, on which a board's file is run: at each N and W, the narrow ones too
pub larger_bench_has_room : (n w : ℕ) (value : List ℕ) → 1 ≤ n → n ≤ 16 → 1 ≤ w → w ≤ 64 → length value ≡ w →
    set_up_refusal (own_memory all_words) n w value ≡ 0
larger_bench_has_room n w value some few one most whole =
    has_room all_words n w value (omega (arith, mul-le-mul (rows few) most)) some few one most whole

enough : (n w : ℕ) → n ≤ 16 → w ≤ 64 → 5 * n * w ≤ length (words_for w)
enough n w few most = by (leb w narrow) refl
  where
    by : (b : Bool) → leb w narrow ≡ b → 5 * n * w ≤ length (words_for w)
    by true e = rw e (omega (arith, mul-le-mul (rows few) (leb-true w narrow e)))
    by false e = rw e (omega (arith, mul-le-mul (rows few) most))

-- of a right text, whatever N and W it has
pub own_bench_has_room : (text : List ℕ) (a : Said) (value : List ℕ) → read text ≡ right a →
    1 ≤ a.n → a.n ≤ 16 → 1 ≤ a.w → a.w ≤ 64 → length value ≡ a.w →
    set_up_refusal (own_memory (own_words text)) a.n a.w value ≡ 0
own_bench_has_room text a value reads some few one most whole =
    ap (λ (ws : List ℕ). set_up_refusal (own_memory ws) a.n a.w value) (ap words_of reads)
    ∙ has_room (words_for a.w) a.n a.w value (enough a.n a.w few most) some few one most whole

-- nor on Moir's bench
moir_rows : {n : ℕ} → n ≤ 16 → 3 * n + 1 ≤ 49
moir_rows few = omega (arith, few)

pub moir_bench_has_room : (n w : ℕ) (value : List ℕ) → 1 ≤ n → n ≤ 16 → 1 ≤ w → w ≤ 64 → length value ≡ w →
    moir_set_up_refusal at_start n w value ≡ 0
unfolding moir_set_up_refusal
moir_bench_has_room n w value some few words most whole =
    let lent = le-ltb 3136 ((3 * n + 1) * w) (mul-le-mul (moir_rows few) most) in
    simp (le-leb 1 n some, le-leb n 16 few, le-leb 1 w words, le-leb w 64 most, lent, le-ltb 16 n few, eq-eqb (length value) w whole)
