-- The relation between lent memory and the ghost machine, and what one change of a list does to it.
use mathlib.Core.Path.{◌≡◌, sym, ap, ◌∙◌}
use mathlib.Core.List.{List}
use Prim.Native.Nat.{ℕ, suc, ◌+◌, ◌*◌, ◌≤◌, ◌<◌}
use native.Mathlib.Nat.{mul-le-mul_right}
use native.Mathlib.Decide.{dec_lt}
use native.Mathlib.Omega.{arith}
use lib.ListN.{length, get_or, set, length-set}
use lib.Seq.{get_or-set_same, get_or-set_other, sets, length-sets}
use Rattle.laws.proofs.Updates.{upd, upd_same, upd_other, Split, same, other, split}
use Rattle.laws.proofs.ListFacts.{sets_out, sets_in}
use Rattle.moir_model.specs.declared.Header.{Header}
use Rattle.moir_model.specs.declared.Bench.{Bench}
use Rattle.moir_model.specs.declared.Process.{Process}
use Rattle.moir_model.specs.Points.{line_number}
use Rattle.moir_model.specs.Records.{no_process}
use Rattle.moir_model.specs.Machine.{Memory}
use Rattle.moir_linearization.proofs.GhostMachine.{Local, Shared, State}

-- the process record of a process of the ghost machine
abbrev pub header_of : ℕ → ℕ → Header
header_of t q = record { tag = t; pid = record { 0 = q } }

abbrev pub record_of : Local → Process
record_of l = record {
  line = line_number l.point;
  word = l.word;
  count = l.count;
  answered = l.mark;
  keep = l.keep;
  x = header_of l.x_tag l.x_pid;
  oldhdr = header_of l.old_tag l.old_pid;
  newhdr = header_of l.new_tag l.new_pid;
  h = header_of l.h_tag l.h_pid;
  y = record { tag = l.y_tag; val = l.y_val };
  z = record { tag = l.z_tag; val = l.z_val };
}

-- the lent words: A, the segments' values, the return areas, the offer areas
pub record WordsLike (N W : ℕ) (ws : List ℕ) (rows : ℕ → ℕ → ℕ) (vals : ℕ → ℕ) (rs os : ℕ → ℕ → ℕ) : Type 0 where
  pub len : (3 * N + 1) * W ≤ length ws
  pub row : (q k : ℕ) → q < N → k < W → get_or ws (q * W + k) 0 ≡ rows q k
  pub val : (k : ℕ) → k < W → get_or ws (N * W + k) 0 ≡ vals k
  pub returned : (q k : ℕ) → q < N → k < W → get_or ws ((N + 1 + q) * W + k) 0 ≡ rs q k
  pub offered : (q k : ℕ) → q < N → k < W → get_or ws ((2 * N + 1 + q) * W + k) 0 ≡ os q k

pub record BenchLike (N W : ℕ) (b : Bench) (h : Shared) : Type 0 where
  pub n : b.n ≡ N
  pub w : b.w ≡ W
  pub header : b.header ≡ header_of h.tag h.pid
  pub tags_length : W ≤ length b.tags
  pub tags : (k : ℕ) → k < W → get_or b.tags k 0 ≡ h.seg_tag k

pub record Sizes (N W : ℕ) : Type 0 where
  pub n_low : 1 ≤ N
  pub n_high : N ≤ 16
  pub w_low : 1 ≤ W
  pub w_high : W ≤ 64

pub record Related (N W : ℕ) (m : Memory) (s : State) : Type 0 where
  pub sizes : Sizes N W
  pub bench : BenchLike N W m.bench s.sh
  pub words : WordsLike N W m.words s.sh.rows s.sh.seg_val (λ q. (s.loc q).returned) (λ q. (s.loc q).offered)
  pub records_length : N ≤ length m.records
  pub process : (q : ℕ) → q < N → get_or m.records q no_process ≡ record_of (s.loc q)

-- rows of W words: a word's place tells its row and its place in the row
addr : (W r k q j : ℕ) → k < W → j < W → r * W + k ≡ q * W + j → (r ≡ q) × (k ≡ j)
addr W r k q j hk hj e = go (dec_lt r q) (dec_lt q r)
  where
    go : Dec (r < q) → Dec (q < r) → (r ≡ q) × (k ≡ j)
    go (yes a) b = absurd (let z : suc r * W ≤ q * W = mul-le-mul_right W a in omega arith)
    go (no a) (yes b) = absurd (let z : suc q * W ≤ r * W = mul-le-mul_right W b in omega arith)
    go (no a) (no b) = let z : r ≡ q = omega arith in (z, let y : r * W ≡ q * W = ap (◌* W) z in omega arith)

-- a word of another row does not lie in row q
pub row_out : (W r q j : ℕ) → j < W → (r ≡ q → ⊥) → q * W ≤ r * W + j → r * W + j < q * W + W → ⊥
row_out W r q j hj ne a b = go (dec_lt r q) (dec_lt q r)
  where
    go : Dec (r < q) → Dec (q < r) → ⊥
    go (yes x) y = let z : suc r * W ≤ q * W = mul-le-mul_right W x in omega arith
    go (no x) (yes y) = let z : suc q * W ≤ r * W = mul-le-mul_right W y in omega arith
    go (no x) (no y) = ne (omega arith)

module _ (R W : ℕ) (ws : List ℕ) (len : R * W ≤ length ws) (r k v : ℕ) (hr : r < R) (hk : k < W) where
  far : (q j : ℕ) → j < W → (q ≡ r → ⊥) → get_or (set ws (r * W + k) v) (q * W + j) 0 ≡ get_or ws (q * W + j) 0
  far q j hj ne = get_or-set_other ws (r * W + k) (q * W + j) v 0 (λ z. ne (addr W q j r k hj hk z).0)

  -- row r against a function, with word k set
  near : (f : ℕ → ℕ) → ((j : ℕ) → j < W → get_or ws (r * W + j) 0 ≡ f j) → (j : ℕ) → j < W → get_or (set ws (r * W + k) v) (r * W + j) 0 ≡ upd f k v j
  near f o j hj = go (split j k)
    where
      go : Split j k → get_or (set ws (r * W + k) v) (r * W + j) 0 ≡ upd f k v j
      go (same z) = rw z (get_or-set_same ws (r * W + k) v 0 (let y : suc r * W ≤ R * W = mul-le-mul_right W hr in omega arith) ∙ sym (upd_same f k v))
      go (other ne) = get_or-set_other ws (r * W + k) (r * W + j) v 0 (λ z. ne (addr W r j r k hj hk z).1) ∙ o j hj ∙ sym (upd_other f k j v ne)

module _ (N W : ℕ) (ws : List ℕ) (rows : ℕ → ℕ → ℕ) (vals : ℕ → ℕ) (rs os : ℕ → ℕ → ℕ) (r : WordsLike N W ws rows vals rs os) where
  abbrev R : ℕ
  R = 3 * N + 1

  len_set : (i v : ℕ) → R * W ≤ length (set ws i v)
  len_set i v = let z = length-set ws i v in let y = r.len in omega arith

  -- the areas of the processes as they were
  pub words_same : (rs' os' : ℕ → ℕ → ℕ) → ((q : ℕ) → rs' q ≡ rs q) → ((q : ℕ) → os' q ≡ os q) → WordsLike N W ws rows vals rs' os'
  words_same rs' os' a b = record {
    len = r.len;
    row = r.row;
    val = r.val;
    returned = λ q k hq hk. r.returned q k hq hk ∙ sym (ap (λ f. f k) (a q));
    offered = λ q k hq hk. r.offered q k hq hk ∙ sym (ap (λ f. f k) (b q));
  }

  -- a segment's value, a word of A, a word of p's return area
  pub words_val : (k v : ℕ) → k < W → WordsLike N W (set ws (N * W + k) v) rows (upd vals k v) rs os
  words_val k v hk = record {
    len = len_set (N * W + k) v;
    row = λ q j hq hj. far R W ws r.len N k v (omega arith) hk q j hj (λ z. omega arith) ∙ r.row q j hq hj;
    val = near R W ws r.len N k v (omega arith) hk vals r.val;
    returned = λ q j hq hj. far R W ws r.len N k v (omega arith) hk (N + 1 + q) j hj (λ z. omega arith) ∙ r.returned q j hq hj;
    offered = λ q j hq hj. far R W ws r.len N k v (omega arith) hk (2 * N + 1 + q) j hj (λ z. omega arith) ∙ r.offered q j hq hj;
  }

  pub words_row : (p k v : ℕ) → p < N → k < W → WordsLike N W (set ws (p * W + k) v) (upd rows p (upd (rows p) k v)) vals rs os
  words_row p k v hp hk = record {
    len = len_set (p * W + k) v;
    row = λ q j hq hj. go q j hq hj (split q p);
    val = λ j hj. far R W ws r.len p k v (omega arith) hk N j hj (λ z. omega arith) ∙ r.val j hj;
    returned = λ q j hq hj. far R W ws r.len p k v (omega arith) hk (N + 1 + q) j hj (λ z. omega arith) ∙ r.returned q j hq hj;
    offered = λ q j hq hj. far R W ws r.len p k v (omega arith) hk (2 * N + 1 + q) j hj (λ z. omega arith) ∙ r.offered q j hq hj;
  }
    where
      go : (q j : ℕ) → q < N → j < W → Split q p → get_or (set ws (p * W + k) v) (q * W + j) 0 ≡ upd rows p (upd (rows p) k v) q j
      go q j hq hj (same z) = rw z (near R W ws r.len p k v (omega arith) hk (rows p)
          (λ i hi. r.row p i hp hi) j hj ∙ sym (ap (λ f. f j) (upd_same rows p (upd (rows p) k v))))
      go q j hq hj (other ne) = far R W ws r.len p k v (omega arith) hk q j hj ne ∙ r.row q j hq hj
          ∙ sym (ap (λ f. f j) (upd_other rows p q (upd (rows p) k v) ne))

  pub words_return : (rs' os' : ℕ → ℕ → ℕ) (p k v : ℕ) → p < N → k < W → rs' p ≡ upd (rs p) k v
      → ((q : ℕ) → (q ≡ p → ⊥) → rs' q ≡ rs q) → ((q : ℕ) → os' q ≡ os q)
      → WordsLike N W (set ws ((N + 1 + p) * W + k) v) rows vals rs' os'
  words_return rs' os' p k v hp hk a b c = record {
    len = len_set ((N + 1 + p) * W + k) v;
    row = λ q j hq hj. far R W ws r.len (N + 1 + p) k v (omega arith) hk q j hj (λ z. omega arith) ∙ r.row q j hq hj;
    val = λ j hj. far R W ws r.len (N + 1 + p) k v (omega arith) hk N j hj (λ z. omega arith) ∙ r.val j hj;
    returned = λ q j hq hj. go q j hq hj (split q p);
    offered = λ q j hq hj. far R W ws r.len (N + 1 + p) k v (omega arith) hk (2 * N + 1 + q) j hj
        (λ z. omega arith) ∙ r.offered q j hq hj ∙ sym (ap (λ f. f j) (c q));
  }
    where
      go : (q j : ℕ) → q < N → j < W → Split q p → get_or (set ws ((N + 1 + p) * W + k) v) ((N + 1 + q) * W + j) 0 ≡ rs' q j
      go q j hq hj (same z) = rw z (near R W ws r.len (N + 1 + p) k v (omega arith) hk (rs p) (λ i hi. r.returned p i hp hi) j hj ∙ sym (ap (λ f. f j) a))
      go q j hq hj (other ne) = far R W ws r.len (N + 1 + p) k v (omega arith) hk (N + 1 + q) j hj
          (λ z. ne (omega arith)) ∙ r.returned q j hq hj ∙ sym (ap (λ f. f j) (b q ne))

  -- W words written to p's offer area
  pub words_offer : (rs' os' : ℕ → ℕ → ℕ) (p : ℕ) (v : List ℕ) → p < N → length v ≡ W → ((q : ℕ) → rs' q ≡ rs q)
      → os' p ≡ (λ k. get_or v k 0) → ((q : ℕ) → (q ≡ p → ⊥) → os' q ≡ os q)
      → WordsLike N W (sets ws ((2 * N + 1 + p) * W + 0) v) rows vals rs' os'
  words_offer rs' os' p v hp hv a b c = record {
    len = let z = length-sets ws ((2 * N + 1 + p) * W + 0) v in let y = r.len in omega arith;
    row = λ q j hq hj. out q j hj (λ z. omega arith) ∙ r.row q j hq hj;
    val = λ j hj. out N j hj (λ z. omega arith) ∙ r.val j hj;
    returned = λ q j hq hj. out (N + 1 + q) j hj (λ z. omega arith) ∙ r.returned q j hq hj ∙ sym (ap (λ f. f j) (a q));
    offered = λ q j hq hj. go q j hq hj (split q p);
  }
    where
      out : (q j : ℕ) → j < W → (q ≡ 2 * N + 1 + p → ⊥) → get_or (sets ws ((2 * N + 1 + p) * W + 0) v) (q * W + j) 0 ≡ get_or ws (q * W + j) 0
      out q j hj ne = sets_out v ws ((2 * N + 1 + p) * W + 0) (q * W + j) 0 (λ x y. row_out W q (2 * N + 1 + p) j hj ne (omega arith) (omega arith))

      into : (j : ℕ) → j < W → get_or (sets ws ((2 * N + 1 + p) * W + 0) v) ((2 * N + 1 + p) * W + j) 0 ≡ get_or v j 0
      into j hj =
          let z : suc (2 * N + 1 + p) * W ≤ (3 * N + 1) * W = mul-le-mul_right W (omega arith) in let y = r.len in
          ap (λ i. get_or (sets ws ((2 * N + 1 + p) * W + 0) v) i 0)
          (let e : (2 * N + 1 + p) * W + j ≡ (2 * N + 1 + p) * W + 0 + j = omega arith in e)
          ∙ sets_in v ws ((2 * N + 1 + p) * W + 0) j 0 (omega arith) (omega arith)

      go : (q j : ℕ) → q < N → j < W → Split q p → get_or (sets ws ((2 * N + 1 + p) * W + 0) v) ((2 * N + 1 + q) * W + j) 0 ≡ os' q j
      go q j hq hj (same e) = rw e (into j hj ∙ sym (ap (λ f. f j) b))
      go q j hq hj (other ne) = out (2 * N + 1 + q) j hj (λ z. ne (omega arith)) ∙ r.offered q j hq hj ∙ sym (ap (λ f. f j) (c q ne))
