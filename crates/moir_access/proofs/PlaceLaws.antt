-- The shared items as places of the tags and of the lent words: what one put leaves there and everywhere else.
use mathlib.Core.Path.{◌≡◌, refl, ap, ap₂}
use mathlib.Core.Logic.{◌≢◌}
use mathlib.Core.List.{List}
use Prim.Native.Nat.{ℕ, ◌+◌, ◌*◌, ◌≤◌, ◌<◌}
use native.Mathlib.Decide.{dec_lt}
use native.Mathlib.Omega.{arith}
use lib.ListN.{length, get_or, set}
use lib.Seq.{get_or-set_same, get_or-set_other, sets}
use Rattle.laws.proofs.ListFacts.{sets_out}
use Rattle.llsc.specs.declared.ProcessNumber.{ProcessNumber}
use Rattle.moir_model.specs.declared.Bench.{Bench}
use Rattle.moir_model.specs.Sizes.{lent_words}
use Rattle.moir_model.specs.Words.{announced_word, segment_word, put_tag, put_value}
use Rattle.words.proofs.WordLaws.{within}
use Rattle.moir_steps.proofs.PlaceLaws.{lies}
use Rattle.moir_access.specs.declared.Item.{Item}
use Rattle.moir_access.specs.declared.Item.TheVariants.{Hdr, Data, Announced}
use Rattle.moir_access.specs.declared.Content.TheVariants.{Tagged}
use Rattle.moir_access.specs.Items.{word_content, item_at, InBench}

-- a word's place tells its row and its place in the row
pub row_and_place : {w r k q j : ℕ} → k < w → j < w → r * w + k ≡ q * w + j → (r ≡ q) × (k ≡ j)
row_and_place {w} {r} {k} {q} {j} hk hj e = go (dec_lt r q) (dec_lt q r)
  where
    go : Dec (r < q) → Dec (q < r) → (r ≡ q) × (k ≡ j)
    go (yes a) b = absurd (omega (arith, e, within {b = r} {c = q} {k = k} {w = w} a hk))
    go (no a) (yes b) = absurd (omega (arith, e, within {b = q} {c = r} {k = j} {w = w} b hj))
    go (no a) (no b) = let same : r ≡ q = omega arith in (same, omega (arith, e, ap (◌* w) same))

-- a word of row r is put: the words of other rows stay
module _ (b : Bench) (ws : List ℕ) (r k v : ℕ) (hk : k < b.w) where
  pub row_stays : (q j : ℕ) → j < b.w → q ≢ r → get_or (set ws (r * b.w + k) v) (q * b.w + j) 0 ≡ get_or ws (q * b.w + j) 0
  row_stays q j hj ne = get_or-set_other ws (r * b.w + k) (q * b.w + j) v 0 (λ e. ne (row_and_place hj hk e).0)

  pub place_stays : (q j : ℕ) → j < b.w → j ≢ k → get_or (set ws (r * b.w + k) v) (q * b.w + j) 0 ≡ get_or ws (q * b.w + j) 0
  place_stays q j hj ne = get_or-set_other ws (r * b.w + k) (q * b.w + j) v 0 (λ e. ne (row_and_place hj hk e).1)

-- a word that belongs to no shared item is put: it lies behind the rows of A and of the segments
pub own_put : (b : Bench) (ws : List ℕ) (r k v : ℕ) → k < b.w → b.n < r → (i : Item) → InBench b i
    → item_at i b (set ws (r * b.w + k) v) ≡ item_at i b ws
own_put b ws r k v hk hr Hdr there = refl
own_put b ws r k v hk hr (Data j) there =
    ap (Tagged (get_or b.tags j 0))
    (row_stays b ws r k v hk b.n j there (λ e. omega arith))
own_put b ws r k v hk hr (Announced q j) there =
    ap word_content (row_stays b ws r k v hk q.0 j there.1 (λ e. omega (arith, there.0)))

-- a word of A is put
pub word_there : (b : Bench) (ws : List ℕ) (p : ProcessNumber) (k v : ℕ) → p.0 < b.n → k < b.w
    → lent_words b.n b.w ≤ length ws → item_at (Announced p k) b (set ws (p.0 * b.w + k) v) ≡ word_content v
word_there b ws p k v hp hk lent = ap word_content (get_or-set_same ws (p.0 * b.w + k) v 0 (lies b.n (omega (arith, hp)) hk lent))

pub word_elsewhere : (b : Bench) (ws : List ℕ) (p : ProcessNumber) (k v : ℕ) → p.0 < b.n → k < b.w → (i : Item) → InBench b i
    → i ≢ Announced p k → item_at i b (set ws (p.0 * b.w + k) v) ≡ item_at i b ws
word_elsewhere b ws p k v hp hk Hdr there ne = refl
word_elsewhere b ws p k v hp hk (Data j) there ne =
    ap (Tagged (get_or b.tags j 0))
    (row_stays b ws p.0 k v hk b.n j there (λ e. omega (arith, hp)))
word_elsewhere b ws p k v hp hk (Announced q j) there ne =
    ap word_content (get_or-set_other ws (p.0 * b.w + k) (q.0 * b.w + j) v 0 (λ e. ne (same (row_and_place there.1 hk e))))
  where
    same : (q.0 ≡ p.0) × (j ≡ k) → Announced q j ≡ Announced p k
    same e = ap₂ (λ (x y : ℕ). Announced (record { 0 = x }) y) e.0 e.1

-- a segment is put: its tag and its word
pub segment_there : (b : Bench) (ws : List ℕ) (k t v : ℕ) → k < b.w → b.w ≤ length b.tags
    → lent_words b.n b.w ≤ length ws → item_at (Data k) (put_tag b k t) (put_value b ws k v) ≡ Tagged t v
segment_there b ws k t v hk tags lent =
    ap₂ Tagged (get_or-set_same b.tags k t 0 (omega (arith, hk, tags)))
    (get_or-set_same ws (segment_word b.n b.w k) v 0 (lies b.n (omega arith) hk lent))

pub segment_elsewhere : (b : Bench) (ws : List ℕ) (k t v : ℕ) → k < b.w → (i : Item) → InBench b i → i ≢ Data k
    → item_at i (put_tag b k t) (put_value b ws k v) ≡ item_at i b ws
segment_elsewhere b ws k t v hk Hdr there ne = refl
segment_elsewhere b ws k t v hk (Data j) there ne =
    let other : j ≢ k = λ e. ne (ap Data e) in
    ap₂ Tagged (get_or-set_other b.tags k j t 0 other)
    (place_stays b ws b.n k v hk b.n j there other)
segment_elsewhere b ws k t v hk (Announced q j) there ne =
    ap word_content (row_stays b ws b.n k v hk q.0 j there.1 (λ e. omega (arith, there.0)))

-- an area of a process is put, from its first word on: it lies behind the rows of A and of the segments
pub area_put : (b : Bench) (ws : List ℕ) (r : ℕ) (v : List ℕ) → b.n < r → (i : Item) → InBench b i
    → item_at i b (sets ws (r * b.w + 0) v) ≡ item_at i b ws
area_put b ws r v hr Hdr there = refl
area_put b ws r v hr (Data j) there =
    let before = within {b = b.n} {c = r} {k = j} {w = b.w} hr there in
    ap (Tagged (get_or b.tags j 0))
    (sets_out v ws (r * b.w + 0) (segment_word b.n b.w j) 0 (λ x y. omega (arith, before)))
area_put b ws r v hr (Announced q j) there =
    let before = within {b = q.0} {c = r} {k = j} {w = b.w} (omega (arith, hr, there.0)) there.1 in
    ap word_content (sets_out v ws (r * b.w + 0) (announced_word b.w q j) 0 (λ x y. omega (arith, before)))
