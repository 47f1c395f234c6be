-- A half word put: what is there, what stays, and two puts of different halves change places.
use mathlib.Core.Path.{◌≡◌, refl, sym, ap, ◌∙◌}
use mathlib.Core.Logic.{◌≢◌}
use mathlib.Core.List.{List}
use mathlib.Core.Bool.{Bool, true, false, cond}
use Prim.Native.Nat.{ℕ, ◌+◌, ◌*◌, ◌/◌, ◌%◌, ◌<◌}
use native.Mathlib.Omega.{arith}
use native.Mathlib.Decide.{ℕ_discrete}
use lib.Dec.{eqb}
use lib.ListN.{length, get_or, set}
use lib.Seq.{get_or-set_same, get_or-set_other, set-set, set_comm, set-get_or}
use borrow.Author.Tests.{eqb-true, eqb-false}
use Rattle.model.specs.Words.{word_of, half_values, half, with_half, copied_half}
use Rattle.model.proofs.HalfLaws.{half_set, half_kept}
use Rattle.doings.specs.Items.{whole, put_half}

abbrev H : ℕ
H = half_values

-- a half, a word with a half set and a whole word for a half, by whether it is the low half
abbrev half_by : Bool → ℕ → ℕ
half_by low v = cond low (v % H) (v / H)

abbrev with_by : Bool → ℕ → ℕ → ℕ
with_by low u v = cond low (v / H * H + u % H) (u / H * H + v % H)

abbrev whole_by : Bool → ℕ → ℕ
whole_by low v = cond low v (v * H)

-- a half of a word is itself a half
pub half_whole : (k u : ℕ) → half k (whole k (half k u)) ≡ half k u
half_whole k u = go (eqb (k % 2) 0)
  where
    go : (low : Bool) → half_by low (whole_by low (half_by low u)) ≡ half_by low u
    go true = omega arith
    go false = omega arith

with_whole : (k u v : ℕ) → with_half k (whole k (half k u)) v ≡ with_half k u v
with_whole k u v = go (eqb (k % 2) 0)
  where
    go : (low : Bool) → with_by low (whole_by low (half_by low u)) v ≡ with_by low u v
    go true = omega arith
    go false = omega arith

with_again : (k u g v : ℕ) → with_half k g (with_half k u v) ≡ with_half k g v
with_again k u g v = go (eqb (k % 2) 0)
  where
    go : (low : Bool) → with_by low g (with_by low u v) ≡ with_by low g v
    go true = omega arith
    go false = omega arith

with_itself : (k v : ℕ) → with_half k v v ≡ v
with_itself k v = go (eqb (k % 2) 0)
  where
    go : (low : Bool) → with_by low v v ≡ v
    go true = omega arith
    go false = omega arith

-- the other half of one word
pub record OtherHalf (k m : ℕ) : Type 0 where
  pub word : word_of m ≡ word_of k
  pub half : m ≢ k

with_swap : (k m u g v : ℕ) → OtherHalf k m → with_half m g (with_half k u v) ≡ with_half k u (with_half m g v)
with_swap k m u g v o = go (eqb (m % 2) 0) (eqb (k % 2) 0) refl refl
  where
    go : (a b : Bool) → eqb (m % 2) 0 ≡ a → eqb (k % 2) 0 ≡ b → with_by a g (with_by b u v) ≡ with_by b u (with_by a g v)
    go true false x y = omega arith
    go false true x y = omega arith
    go true true x y = absurd (o.half (let p = eqb-true (m % 2) 0 x in let q = eqb-true (k % 2) 0 y in omega (arith, o.word)))
    go false false x y = absurd (o.half (let p = eqb-false (m % 2) 0 x in let q = eqb-false (k % 2) 0 y in omega (arith, o.word)))

-- the word x with half k set
abbrev settled : ℕ → ℕ → ℕ → ℕ
settled k v x = with_half k (whole k v) x

-- half k of word i put
module _ (ws : List ℕ) (i k : ℕ) where
  pub half_put : (v : ℕ) → i < length ws → half k (get_or (put_half ws i k v) i 0) ≡ half k (whole k v)
  half_put v hi = ap (half k) (get_or-set_same ws i (with_half k (whole k v) (get_or ws i 0)) 0 hi) ∙ half_set k (whole k v) (get_or ws i 0)

  pub half_again : (v u : ℕ) → i < length ws → put_half (put_half ws i k v) i k u ≡ put_half ws i k u
  half_again v u hi =
      set-set ws i (with_half k (whole k v) (get_or ws i 0)) (with_half k (whole k u) (get_or (put_half ws i k v) i 0))
      ∙ ap (λ (x : ℕ). set ws i (with_half k (whole k u) x)) (get_or-set_same ws i (with_half k (whole k v) (get_or ws i 0)) 0 hi)
      ∙ ap (set ws i) (with_again k (whole k v) (whole k u) (get_or ws i 0))

  -- the half that is there already
  pub half_back : put_half ws i k (half k (get_or ws i 0)) ≡ ws
  half_back = ap (set ws i) (with_whole k (get_or ws i 0) (get_or ws i 0) ∙ with_itself k (get_or ws i 0)) ∙ set-get_or ws i 0

  -- the half of another word
  pub half_copied : (j : ℕ) → copied_half ws k j i ≡ put_half ws i k (half k (get_or ws j 0))
  half_copied j = ap (set ws i) (sym (with_whole k (get_or ws j 0) (get_or ws i 0)))

  -- half m of word j, which is another word or the other half
  module _ (j m : ℕ) (e : i ≡ j → OtherHalf k m) where
    pub half_elsewhere : (v : ℕ) → i < length ws → half m (get_or (put_half ws i k v) j 0) ≡ half m (get_or ws j 0)
    half_elsewhere v hi = go (ℕ_discrete i j)
      where
        new : ℕ
        new = with_half k (whole k v) (get_or ws i 0)

        go : Dec (i ≡ j) → half m (get_or (put_half ws i k v) j 0) ≡ half m (get_or ws j 0)
        go (no n) = ap (half m) (get_or-set_other ws i j new 0 (λ x. n (sym x)))
        go (yes x) =
            ap (λ (y : ℕ). half m (get_or (put_half ws i k v) y 0)) (sym x)
            ∙ ap (half m) (get_or-set_same ws i new 0 hi)
            ∙ half_kept m k (whole k v) (get_or ws i 0) (e x).word (e x).half
            ∙ ap (λ (y : ℕ). half m (get_or ws y 0)) x

    pub halves_swap : (v u : ℕ) → i < length ws → put_half (put_half ws i k v) j m u ≡ put_half (put_half ws j m u) i k v
    halves_swap v u hi = go (ℕ_discrete i j)
      where
        go : Dec (i ≡ j) → put_half (put_half ws i k v) j m u ≡ put_half (put_half ws j m u) i k v
        go (no n) =
            ap (λ (x : ℕ). set (put_half ws i k v) j (settled m u x)) (get_or-set_other ws i j (settled k v (get_or ws i 0)) 0 (λ x. n (sym x)))
            ∙ set_comm ws i j (settled k v (get_or ws i 0)) (settled m u (get_or ws j 0)) n
            ∙ sym (ap (λ (x : ℕ). set (put_half ws j m u) i (settled k v x)) (get_or-set_other ws j i (settled m u (get_or ws j 0)) 0 n))
        go (yes x) = ap (λ (y : ℕ). put_half (put_half ws i k v) y m u) (sym x) ∙ same ∙ ap (λ (y : ℕ). put_half (put_half ws y m u) i k v) x
          where
            same : put_half (put_half ws i k v) i m u ≡ put_half (put_half ws i m u) i k v
            same =
                set-set ws i (settled k v (get_or ws i 0)) (settled m u (get_or (put_half ws i k v) i 0))
                ∙ ap (λ (y : ℕ). set ws i (settled m u y)) (get_or-set_same ws i (settled k v (get_or ws i 0)) 0 hi)
                ∙ ap (set ws i) (with_swap k m (whole k v) (whole m u) (get_or ws i 0) (e x))
                ∙ sym (ap (λ (y : ℕ). set ws i (settled k v y)) (get_or-set_same ws i (settled m u (get_or ws i 0)) 0 hi))
                ∙ sym (set-set ws i (settled m u (get_or ws i 0)) (settled k v (get_or (put_half ws i m u) i 0)))
