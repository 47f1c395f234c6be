-- Words in two layouts that agree where they are live: in all buffers, in the first halves of p's return area and in
-- its offer area.
use mathlib.Core.Path.{◌≡◌, refl, sym, ap, ◌∙◌}
use mathlib.Core.Bool.{Bool, true, false, cond}
use mathlib.Core.List.{List}
use Prim.Native.Nat.{ℕ, suc, ◌+◌, ◌*◌, ◌/◌, ◌%◌, ◌≤◌, ◌<◌}
use native.Mathlib.Nat.{mul-le-mul_right}
use native.Mathlib.Omega.{arith}
use lib.Dec.{eqb}
use lib.ListN.{length, get_or, set, length-set}
use lib.Seq.{sets, length-sets, get_or-set_same, get_or-set_other}
use Rattle.model.specs.Sizes.{buffers, halves}
use Rattle.model.specs.Words.{Layout, word_of, half_values, half, with_half}
use Rattle.model.proofs.HalfLaws.{half_set, half_kept}
use Rattle.laws.proofs.Updates.{Split, same, other, split}
use Rattle.laws.proofs.ListFacts.{sets_out, sets_in}
use Rattle.linearization.proofs.Relation.{addr, row_out}

-- the rows of a layout lie apart, and all below T
pub record Rows (N T : ℕ) (l : Layout) : Type 0 where
  pub apart : (i j : ℕ) → i < buffers N → j < buffers N → l.buffer i ≡ l.buffer j → i ≡ j
  pub buffer_return : (i q : ℕ) → i < buffers N → q < N → l.buffer i ≡ l.returns + q → ⊥
  pub buffer_offer : (i q : ℕ) → i < buffers N → q < N → l.buffer i ≡ l.offers + q → ⊥
  pub return_offer : (q r : ℕ) → q < N → r < N → l.returns + q ≡ l.offers + r → ⊥
  pub buffer_below : (i : ℕ) → i < buffers N → l.buffer i < T
  pub return_below : (q : ℕ) → q < N → l.returns + q < T
  pub offer_below : (q : ℕ) → q < N → l.offers + q < T

-- word k of row r, and place k of it
abbrev pub cell : ℕ → List ℕ → ℕ → ℕ → ℕ
cell W ws r k = get_or ws (r * W + k) 0

abbrev pub place : ℕ → List ℕ → ℕ → ℕ → ℕ
place W ws r k = half k (cell W ws r (word_of k))

-- half k of row r taken from the word u
abbrev pub put : ℕ → List ℕ → ℕ → ℕ → ℕ → List ℕ
put W ws r k u = set ws (r * W + word_of k) (with_half k u (cell W ws r (word_of k)))

pub record LiveWords (N W p kr ko T T' : ℕ) (l l' : Layout) (ws ws' : List ℕ) : Type 0 where
  pub rows : Rows N T l
  pub rows' : Rows N T' l'
  pub len : T * W ≤ length ws
  pub len' : T' * W ≤ length ws'
  pub buf : (i k : ℕ) → i < buffers N → k < W → cell W ws (l.buffer i) k ≡ cell W ws' (l'.buffer i) k
  pub returned : (k : ℕ) → k < halves W → k < kr → place W ws (l.returns + p) k ≡ place W ws' (l'.returns + p) k
  pub offered : (k : ℕ) → k < W → k < ko → cell W ws (l.offers + p) k ≡ cell W ws' (l'.offers + p) k

-- one word list after an order of p: every row but the layout's buffers and p's areas stays
pub record Kept (N W p : ℕ) (l : Layout) (ws new : List ℕ) : Type 0 where
  pub len : length new ≡ length ws
  pub row : (d k : ℕ) → ((i : ℕ) → i < buffers N → d ≡ l.buffer i → ⊥) → (d ≡ l.returns + p → ⊥) → (d ≡ l.offers + p → ⊥) → k < W → cell W new d k ≡ cell W ws d k

-- a word put together depends on its two halves alone
pub with_half_same : (k u u' : ℕ) {v v' : ℕ} → half k u ≡ half k u' → v ≡ v' → with_half k u v ≡ with_half k u' v'
with_half_same k u u' {v} {v'} e f = go (eqb (k % 2) 0) e ∙ ap (with_half k u') f
  where
    go : (b : Bool) → cond b (u % half_values) (u / half_values) ≡ cond b (u' % half_values) (u' / half_values)
        → cond b (v / half_values * half_values + u % half_values) (u / half_values * half_values + v % half_values)
        ≡ cond b (v / half_values * half_values + u' % half_values) (u' / half_values * half_values + v % half_values)
    go true h = ap (λ i. v / half_values * half_values + i) h
    go false h = ap (λ i. i * half_values + v % half_values) h

-- a word is set, in row r at place k
word_set : (T W : ℕ) (ws : List ℕ) → T * W ≤ length ws → (r k v : ℕ) → k < W → r < T → cell W (set ws (r * W + k) v) r k ≡ v
word_set T W ws len r k v hk hr = get_or-set_same ws (r * W + k) v 0 (let z : suc r * W ≤ T * W = mul-le-mul_right W hr in omega arith)

word_other : (W : ℕ) (ws : List ℕ) (r k v : ℕ) → k < W → (q j : ℕ) → j < W → (q ≡ r → j ≡ k → ⊥) → cell W (set ws (r * W + k) v) q j ≡ cell W ws q j
word_other W ws r k v hk q j hj ne = get_or-set_other ws (r * W + k) (q * W + j) v 0 (λ z. let y = addr W q j r k hj hk z in ne y.0 y.1)

-- W words are set, in row r: elsewhere, and there
row_other : (W : ℕ) (ws v : List ℕ) → length v ≡ W → (r d j : ℕ) → j < W → (d ≡ r → ⊥) → cell W (sets ws (r * W + 0) v) d j ≡ cell W ws d j
row_other W ws v hv r d j hj ne = sets_out v ws (r * W + 0) (d * W + j) 0 (λ x y. row_out W d r j hj ne (omega arith) (omega arith))

row_set : (T W : ℕ) (ws v : List ℕ) → T * W ≤ length ws → length v ≡ W → (r j : ℕ) → j < W → r < T → cell W (sets ws (r * W + 0) v) r j ≡ get_or v j 0
row_set T W ws v len hv r j hj hr =
    let z : suc r * W ≤ T * W = mul-le-mul_right W hr in
    ap (λ i. get_or (sets ws (r * W + 0) v) i 0) (let e : r * W + j ≡ r * W + 0 + j = omega arith in e) ∙ sets_in v ws (r * W + 0) j 0 (omega arith) (omega arith)

module _ (N W p : ℕ) (hp : p < N) where
  module _ (l : Layout) (ws : List ℕ) where
    pub kept_all : Kept N W p l ws ws
    kept_all = record { len = refl; row = λ _ _ _ _ _ _. refl }

    pub kept_return : (k u : ℕ) → k < halves W → Kept N W p l ws (put W ws (l.returns + p) k u)
    kept_return k u hk = record {
      len = length-set ws ((l.returns + p) * W + word_of k) _;
      row = λ d j b r o hj. word_other W ws (l.returns + p) (word_of k) _ (omega arith) d j hj (λ e _. r e);
    }

    pub kept_buffer : (i k u : ℕ) → i < buffers N → k < halves W → Kept N W p l ws (put W ws (l.buffer i) k u)
    kept_buffer i k u hi hk = record {
      len = length-set ws (l.buffer i * W + word_of k) _;
      row = λ d j b r o hj. word_other W ws (l.buffer i) (word_of k) _ (omega arith) d j hj (λ e _. b i hi e);
    }

    pub kept_offer : (v : List ℕ) → length v ≡ W → Kept N W p l ws (sets ws ((l.offers + p) * W + 0) v)
    kept_offer v hv = record { len = length-sets ws ((l.offers + p) * W + 0) v; row = λ d j b r o hj. row_other W ws v hv (l.offers + p) d j hj o }

  module _ {kr ko T T' : ℕ} {l l' : Layout} {ws ws' : List ℕ} (a : LiveWords N W p kr ko T T' l l' ws ws') where
    abbrev Live : ℕ → ℕ → List ℕ → List ℕ → Type 0
    Live kr' ko' v v' = LiveWords N W p kr' ko' T T' l l' v v'

    pub less : {kr' ko' : ℕ} → kr' ≤ kr → ko' ≤ ko → Live kr' ko' ws ws'
    less x y =
        record { rows = a.rows; rows' = a.rows'; len = a.len; len' = a.len'; buf = a.buf; returned = λ k hk h. a.returned k hk (omega arith); offered = λ k hk h. a.offered k hk (omega arith) }

    -- place k of BUF[f] into the return area
    pub read : (kr' f k : ℕ) → f < buffers N → k < halves W → ((i : ℕ) → i < halves W → i < kr' → (i ≡ k → ⊥) → i < kr)
        → Live kr' ko (put W ws (l.returns + p) k (cell W ws (l.buffer f) (word_of k))) (put W ws' (l'.returns + p) k (cell W ws' (l'.buffer f) (word_of k)))
    read kr' f k hf hk old = record {
      rows = a.rows;
      rows' = a.rows';
      len = let z = length-set ws (r * W + word_of k) (with_half k u (cell W ws r (word_of k))) in let y = a.len in omega arith;
      len' = let z = length-set ws' (r' * W + word_of k) (with_half k u' (cell W ws' r' (word_of k))) in let y = a.len' in omega arith;
      buf = λ i j hi hj. far (l.buffer i) j hj (λ e _. a.rows.buffer_return i p hi hp e) ∙ a.buf i j hi hj ∙ sym (far' (l'.buffer i) j hj (λ e _. a.rows'.buffer_return i p hi hp e));
      returned = λ j hj h. go j hj h (split j k) (split (word_of j) (word_of k));
      offered =
          λ j hj h. far (l.offers + p) j hj (λ e _. a.rows.return_offer p p hp hp (sym e)) ∙ a.offered j hj h ∙ sym (far' (l'.offers + p) j hj (λ e _. a.rows'.return_offer p p hp hp (sym e)));
    }
      where
        r : ℕ
        r = l.returns + p

        r' : ℕ
        r' = l'.returns + p

        u : ℕ
        u = cell W ws (l.buffer f) (word_of k)

        u' : ℕ
        u' = cell W ws' (l'.buffer f) (word_of k)

        hw : word_of k < W
        hw = omega arith

        far : (q j : ℕ) → j < W → (q ≡ r → j ≡ word_of k → ⊥) → cell W (put W ws r k u) q j ≡ cell W ws q j
        far = word_other W ws r (word_of k) (with_half k u (cell W ws r (word_of k))) hw

        far' : (q j : ℕ) → j < W → (q ≡ r' → j ≡ word_of k → ⊥) → cell W (put W ws' r' k u') q j ≡ cell W ws' q j
        far' = word_other W ws' r' (word_of k) (with_half k u' (cell W ws' r' (word_of k))) hw

        near : cell W (put W ws r k u) r (word_of k) ≡ with_half k u (cell W ws r (word_of k))
        near = word_set T W ws a.len r (word_of k) _ hw (a.rows.return_below p hp)

        near' : cell W (put W ws' r' k u') r' (word_of k) ≡ with_half k u' (cell W ws' r' (word_of k))
        near' = word_set T' W ws' a.len' r' (word_of k) _ hw (a.rows'.return_below p hp)

        -- the half itself, the other half of its word, another word
        go : (j : ℕ) → j < halves W → j < kr' → Split j k → Split (word_of j) (word_of k) → place W (put W ws r k u) r j ≡ place W (put W ws' r' k u') r' j
        go j hj h (same e) s =
            rw e (ap (half k) near ∙ half_set k u (cell W ws r (word_of k)) ∙ ap (half k) (a.buf f (word_of k) hf hw)
            ∙ sym (half_set k u' (cell W ws' r' (word_of k))) ∙ sym (ap (half k) near'))
        go j hj h (other ne) (same e) =
            ap (λ i. half j (cell W (put W ws r k u) r i)) e ∙ ap (half j) near ∙ half_kept j k u (cell W ws r (word_of k)) e ne
            ∙ ap (λ i. half j (cell W ws r i)) (sym e) ∙ a.returned j hj (old j hj h ne) ∙ ap (λ i. half j (cell W ws' r' i)) e
            ∙ sym (half_kept j k u' (cell W ws' r' (word_of k)) e ne) ∙ sym (ap (half j) near') ∙ ap (λ i. half j (cell W (put W ws' r' k u') r' i)) (sym e)
        go j hj h (other ne) (other n) =
            ap (half j) (far r (word_of j) (omega arith) (λ _ e. n e)) ∙ a.returned j hj (old j hj h ne)
            ∙ sym (ap (half j) (far' r' (word_of j) (omega arith) (λ _ e. n e)))

    -- the same half written to BUF[i], from two words that agree in it
    pub wrote : (u u' i k : ℕ) → half k u ≡ half k u' → i < buffers N → k < halves W → Live kr ko (put W ws (l.buffer i) k u) (put W ws' (l'.buffer i) k u')
    wrote u u' i k e hi hk = record {
      rows = a.rows;
      rows' = a.rows';
      len = let z = length-set ws (l.buffer i * W + word_of k) v in let y = a.len in omega arith;
      len' = let z = length-set ws' (l'.buffer i * W + word_of k) v' in let y = a.len' in omega arith;
      buf = λ q j hq hj. go q j hq hj (split q i) (split j (word_of k));
      returned =
          λ j hj h. ap (half j) (far (l.returns + p) (word_of j) (omega arith) (λ x _. a.rows.buffer_return i p hi hp (sym x))) ∙ a.returned j hj h
          ∙ sym (ap (half j) (far' (l'.returns + p) (word_of j) (omega arith) (λ x _. a.rows'.buffer_return i p hi hp (sym x))));
      offered =
          λ j hj h. far (l.offers + p) j hj (λ x _. a.rows.buffer_offer i p hi hp (sym x)) ∙ a.offered j hj h ∙ sym (far' (l'.offers + p) j hj (λ x _. a.rows'.buffer_offer i p hi hp (sym x)));
    }
      where
        hw : word_of k < W
        hw = omega arith

        v : ℕ
        v = with_half k u (cell W ws (l.buffer i) (word_of k))

        v' : ℕ
        v' = with_half k u' (cell W ws' (l'.buffer i) (word_of k))

        alike : v ≡ v'
        alike = with_half_same k u u' e (a.buf i (word_of k) hi hw)

        far : (q j : ℕ) → j < W → (q ≡ l.buffer i → j ≡ word_of k → ⊥) → cell W (put W ws (l.buffer i) k u) q j ≡ cell W ws q j
        far = word_other W ws (l.buffer i) (word_of k) v hw

        far' : (q j : ℕ) → j < W → (q ≡ l'.buffer i → j ≡ word_of k → ⊥) → cell W (put W ws' (l'.buffer i) k u') q j ≡ cell W ws' q j
        far' = word_other W ws' (l'.buffer i) (word_of k) v' hw

        go : (q j : ℕ) → q < buffers N → j < W → Split q i → Split j (word_of k)
            → cell W (put W ws (l.buffer i) k u) (l.buffer q) j ≡ cell W (put W ws' (l'.buffer i) k u') (l'.buffer q) j
        go q j hq hj (same x) (same y) =
            rw (x, y) (word_set T W ws a.len (l.buffer i) (word_of k) v hw (a.rows.buffer_below i hi) ∙ alike
            ∙ sym (word_set T' W ws' a.len' (l'.buffer i) (word_of k) v' hw (a.rows'.buffer_below i hi)))
        go q j hq hj (same x) (other ne) = far (l.buffer q) j hj (λ _ c. ne c) ∙ a.buf q j hq hj ∙ sym (far' (l'.buffer q) j hj (λ _ c. ne c))
        go q j hq hj (other ne) s = far (l.buffer q) j hj (λ c _. ne (a.rows.apart q i hq hi c)) ∙ a.buf q j hq hj ∙ sym (far' (l'.buffer q) j hj (λ c _. ne (a.rows'.apart q i hq hi c)))

    -- W words into the offer area: all of it is live
    pub offer : (v : List ℕ) → length v ≡ W → Live kr W (sets ws ((l.offers + p) * W + 0) v) (sets ws' ((l'.offers + p) * W + 0) v)
    offer v hv = record {
      rows = a.rows;
      rows' = a.rows';
      len = let z = length-sets ws ((l.offers + p) * W + 0) v in let y = a.len in omega arith;
      len' = let z = length-sets ws' ((l'.offers + p) * W + 0) v in let y = a.len' in omega arith;
      buf = λ i j hi hj. row (l.buffer i) j hj (a.rows.buffer_offer i p hi hp) ∙ a.buf i j hi hj ∙ sym (row' (l'.buffer i) j hj (a.rows'.buffer_offer i p hi hp));
      returned =
          λ j hj h. ap (half j) (row (l.returns + p) (word_of j) (omega arith) (a.rows.return_offer p p hp hp)) ∙ a.returned j hj h
          ∙ sym (ap (half j) (row' (l'.returns + p) (word_of j) (omega arith) (a.rows'.return_offer p p hp hp)));
      offered = λ j hj h. row_set T W ws v a.len hv (l.offers + p) j hj (a.rows.offer_below p hp) ∙ sym (row_set T' W ws' v a.len' hv (l'.offers + p) j hj (a.rows'.offer_below p hp));
    }
      where
        row : (d j : ℕ) → j < W → (d ≡ l.offers + p → ⊥) → cell W (sets ws ((l.offers + p) * W + 0) v) d j ≡ cell W ws d j
        row = row_other W ws v hv (l.offers + p)

        row' : (d j : ℕ) → j < W → (d ≡ l'.offers + p → ⊥) → cell W (sets ws' ((l'.offers + p) * W + 0) v) d j ≡ cell W ws' d j
        row' = row_other W ws' v hv (l'.offers + p)
