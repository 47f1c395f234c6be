-- The relation between model's memory and the ghost machine, and what one change of a list does to it.
-- The tables are longer than N needs: they are related below 2N, N and 5NW, and above N no link is set.
use mathlib.Core.Path.{◌≡◌, sym, ap, ◌∙◌}
use mathlib.Core.Bool.{Bool, true, false, cond}
use mathlib.Core.List.{List}
use Prim.Native.Nat.{ℕ, suc, ◌+◌, ◌*◌, ◌^◌, ◌≤◌, ◌<◌}
use native.Mathlib.Nat.{mul-le-mul_right}
use native.Mathlib.Decide.{dec_lt}
use native.Mathlib.Omega.{arith}
use lib.Pow.{pow_pos}
use lib.ListN.{length, get_or, set, length-set}
use lib.Seq.{get_or-set_same, get_or-set_other, sets, length-sets}
use Rattle.model.specs.declared.Process.{Process}
use Rattle.model.specs.Places.{XPlace, BankPlace, HelpPlace, no_links, linked, link}
use Rattle.model.proofs.LinkLaws.{none_linked, link_same, link_other, link_below}
use Rattle.model.specs.Sizes.{halves}
use Rattle.model.specs.Words.{word_of, half, with_half}
use Rattle.model.proofs.HalfLaws.{half_set, half_kept}
use Rattle.model.specs.Tables.{no_bank, no_help}
use Rattle.model.specs.Points.{line_number}
use Rattle.model.specs.Records.{record_at}
use Rattle.model.specs.Machine.{Memory}
use Rattle.laws.proofs.Updates.{upd, upd_same, upd_other, Split, same, other, split}
use Rattle.linearization.proofs.GhostMachine.{Local, Shared, State}
use Rattle.linearization.proofs.WordLists.{cells}
use Rattle.laws.proofs.ListFacts.{sets_out, sets_in}

-- the process record of a process of the ghost machine
abbrev pub record_of : Local → Process
record_of f = record {
  mybuf = record { 0 = f.mybuf };
  x = record { buf = record { 0 = f.copy_buf }; seq = record { 0 = f.copy_seq } };
  line = line_number f.point;
  word = f.word;
  count = f.count;
  answered = f.answered;
  b = record { 0 = f.b };
  c = record { 0 = f.c };
  d = record { 0 = f.d };
  e = record { 0 = f.e };
}

-- the links of one place; f q is the link of process q
pub record LinksLike (N : ℕ) (links : ℕ) (f : ℕ → Bool) : Type 0 where
  pub at : (q : ℕ) → q < N → linked links (record { 0 = q }) ≡ f q
  pub below : links < 2 ^ N

pub record XLike (N : ℕ) (x : XPlace) (b s : ℕ) (f : ℕ → Bool) : Type 0 where
  pub buf : x.content.buf.0 ≡ b
  pub seq : x.content.seq.0 ≡ s
  pub links : LinksLike N x.links f

pub record BankLike (N : ℕ) (k : BankPlace) (b : ℕ) (f : ℕ → Bool) : Type 0 where
  pub buf : k.content.0 ≡ b
  pub links : LinksLike N k.links f

pub record HelpLike (N : ℕ) (h : HelpPlace) (up : Bool) (b : ℕ) (f : ℕ → Bool) : Type 0 where
  pub flag : h.content.flag ≡ cond up 1 0
  pub buf : h.content.buf.0 ≡ b
  pub links : LinksLike N h.links f

-- the lent words: the buffers, the return areas, the offer areas; a cell of the ghost machine is a half word
pub record WordsLike (N W : ℕ) (ws : List ℕ) (bs rs os : ℕ → ℕ → ℕ) : Type 0 where
  pub len : 5 * N * W ≤ length ws
  pub buf : (r k : ℕ) → r < 3 * N → k < halves W → half k (get_or ws (r * W + word_of k) 0) ≡ bs r k
  pub returned : (q k : ℕ) → q < N → k < halves W → half k (get_or ws ((3 * N + q) * W + word_of k) 0) ≡ rs q k
  pub offered : (q k : ℕ) → q < N → k < halves W → half k (get_or ws ((4 * N + q) * W + word_of k) 0) ≡ os q k

-- the shared places and the words
pub record PlacesLike (N W : ℕ) (xp : XPlace) (ks : List BankPlace) (hs : List HelpPlace) (ws : List ℕ) (h : Shared) (loc : ℕ → Local) : Type 0 where
  pub x : XLike N xp h.xbuf h.xseq (λ q. (loc q).link_x)
  pub bank_length : 2 * N ≤ length ks
  pub bank : (i : ℕ) → i < 2 * N → BankLike N (get_or ks i no_bank) (h.bank i) (λ q. (loc q).link_bank i)
  pub help_length : N ≤ length hs
  pub help : (i : ℕ) → i < N → HelpLike N (get_or hs i no_help) (h.flag i) (h.help_buf i) (λ q. (loc q).link_help i)
  pub words : WordsLike N W ws h.buf (λ q. (loc q).returned) (λ q. (loc q).offered)

-- N and W as a set-up admits them
pub record Sizes (N W : ℕ) : Type 0 where
  pub n_low : 1 ≤ N
  pub n_high : N ≤ 16
  pub w_low : 1 ≤ W
  pub w_high : W ≤ 64

-- all lent memory
pub record Related (N W : ℕ) (m : Memory) (z : State) : Type 0 where
  pub sizes : Sizes N W
  pub n : m.bench.n ≡ N
  pub w : m.bench.w ≡ W
  pub places : PlacesLike N W m.bench.x m.bench.bank m.bench.help m.words z.sh z.loc
  pub records_length : N ≤ length m.records
  pub process : (q : ℕ) → q < N → record_at m.records (record { 0 = q }) ≡ record_of (z.loc q)

-- links: the same, one more, none
module _ (N : ℕ) where
  pub links_same : {links : ℕ} {f g : ℕ → Bool} → ((q : ℕ) → g q ≡ f q) → LinksLike N links f → LinksLike N links g
  links_same e r = record { at = λ q hq. r.at q hq ∙ sym (e q); below = r.below }

  pub links_set : (links : ℕ) (f g : ℕ → Bool) (p : ℕ) → p < N → g p ≡ true → ((q : ℕ) → (q ≡ p → ⊥) → g q ≡ f q)
      → LinksLike N links f → LinksLike N (link links (record { 0 = p })) g
  links_set links f g p hp e o r = record { at = λ q hq. go q hq (split q p); below = link_below links (record { 0 = p }) N hp r.below }
    where
      go : (q : ℕ) → q < N → Split q p → linked (link links (record { 0 = p })) (record { 0 = q }) ≡ g q
      go q hq (same z) = rw z (link_same links (record { 0 = p }) ∙ sym e)
      go q hq (other ne) = link_other links (record { 0 = p }) (record { 0 = q }) ne ∙ r.at q hq ∙ sym (o q ne)

  pub links_none : (g : ℕ → Bool) → ((q : ℕ) → g q ≡ false) → LinksLike N no_links g
  links_none g e = record { at = λ q hq. none_linked (record { 0 = q }) ∙ sym (e q); below = pow_pos N }

-- a place that is left alone
module _ (N : ℕ) where
  pub x_same : (x : XPlace) {b c s t : ℕ} {f g : ℕ → Bool} → c ≡ b → t ≡ s → ((q : ℕ) → g q ≡ f q) → XLike N x b s f → XLike N x c t g
  x_same x d e l r = record { buf = r.buf ∙ sym d; seq = r.seq ∙ sym e; links = links_same N l r.links }

  pub bank_same : (k : BankPlace) {b c : ℕ} {f g : ℕ → Bool} → c ≡ b → ((q : ℕ) → g q ≡ f q) → BankLike N k b f → BankLike N k c g
  bank_same k d l r = record { buf = r.buf ∙ sym d; links = links_same N l r.links }

  pub help_same : (h : HelpPlace) {a a' : Bool} {b c : ℕ} {f g : ℕ → Bool} → a' ≡ a → c ≡ b → ((q : ℕ) → g q ≡ f q) → HelpLike N h a b f → HelpLike N h a' c g
  help_same h u d l r = record { flag = r.flag ∙ sym (ap (λ y. cond y 1 0) u); buf = r.buf ∙ sym d; links = links_same N l r.links }

-- a table with another place i: what holds of the new place, and of the others as before
pub put_place : {A : Type 0} (P : ℕ → A → Type 0) (n : ℕ) (xs : List A) (d a : A) (i : ℕ) → i < n → n ≤ length xs
    → P i a → ((j : ℕ) → j < n → (j ≡ i → ⊥) → P j (get_or xs j d))
    → (j : ℕ) → j < n → P j (get_or (set xs i a) j d)
put_place P n xs d a i hi hn here there j hj = go (split j i)
  where
    go : Split j i → P j (get_or (set xs i a) j d)
    go (same e) = rw (e, get_or-set_same xs i a d (omega arith)) here
    go (other ne) = rw (get_or-set_other xs i j a d ne) (there j hj ne)

-- rows of W words: a word's place tells its row and its place in the row
pub addr : (W r k q j : ℕ) → k < W → j < W → r * W + k ≡ q * W + j → (r ≡ q) × (k ≡ j)
addr W r k q j hk hj e = go (dec_lt r q) (dec_lt q r)
  where
    go : Dec (r < q) → Dec (q < r) → (r ≡ q) × (k ≡ j)
    go (yes a) b = absurd (let z : suc r * W ≤ q * W = mul-le-mul_right W a in omega arith)
    go (no a) (yes b) = absurd (let z : suc q * W ≤ r * W = mul-le-mul_right W b in omega arith)
    go (no a) (no b) = let z : r ≡ q = omega arith in (z, let y : r * W ≡ q * W = ap (◌* W) z in omega arith)

-- a word of another row does not lie in row q
pub row_out : (W r q j : ℕ) → j < W → (r ≡ q → ⊥) → q * W ≤ r * W + j → r * W + j < q * W + W → ⊥
row_out W r q j hj ne a b = go (dec_lt r q) (dec_lt q r)
  where
    go : Dec (r < q) → Dec (q < r) → ⊥
    go (yes x) y = let z : suc r * W ≤ q * W = mul-le-mul_right W x in omega arith
    go (no x) (yes y) = let z : suc q * W ≤ r * W = mul-le-mul_right W y in omega arith
    go (no x) (no y) = ne (omega arith)

-- half k of a word of row r is taken from the word u
module _ (N W : ℕ) (ws : List ℕ) (len : 5 * N * W ≤ length ws) (r k u : ℕ) (hk : k < halves W) where
  abbrev put : List ℕ
  put = set ws (r * W + word_of k) (with_half k u (get_or ws (r * W + word_of k) 0))

  word_set : r < 5 * N → get_or put (r * W + word_of k) 0 ≡ with_half k u (get_or ws (r * W + word_of k) 0)
  word_set hr = get_or-set_same ws (r * W + word_of k) _ 0 (let z : suc r * W ≤ 5 * N * W = mul-le-mul_right W hr in omega arith)

  half_other : (q j : ℕ) → j < halves W → (q ≡ r → word_of j ≡ word_of k → ⊥) → half j (get_or put (q * W + word_of j) 0) ≡ half j (get_or ws (q * W + word_of j) 0)
  half_other q j hj ne = ap (half j) (get_or-set_other ws (r * W + word_of k) (q * W + word_of j) _ 0 (λ z. let y = addr W q (word_of j) r (word_of k) (omega arith) (omega arith) z in ne y.0 y.1))

  -- the row r against a function, with half k set
  row_set : (f : ℕ → ℕ) (v : ℕ) → r < 5 * N → half k u ≡ v → ((j : ℕ) → j < halves W → half j (get_or ws (r * W + word_of j) 0) ≡ f j) → (j : ℕ) → j < halves W
      → half j (get_or put (r * W + word_of j) 0) ≡ upd f k v j
  row_set f v hr e o j hj = go (split j k) (split (word_of j) (word_of k))
    where
      go : Split j k → Split (word_of j) (word_of k) → half j (get_or put (r * W + word_of j) 0) ≡ upd f k v j
      go (same z) y = rw z (ap (half k) (word_set hr) ∙ half_set k u _ ∙ e ∙ sym (upd_same f k v))
      go (other ne) (other far) = half_other r j hj (λ _ z. far z) ∙ o j hj ∙ sym (upd_other f k j v ne)
      go (other ne) (same y) =
          ap (λ i. half j (get_or put (r * W + i) 0)) y ∙ ap (half j) (word_set hr) ∙ half_kept j k u _ y ne
          ∙ ap (λ i. half j (get_or ws (r * W + i) 0)) (sym y) ∙ o j hj ∙ sym (upd_other f k j v ne)

module _ (N W : ℕ) (ws : List ℕ) (buf ret off : ℕ → ℕ → ℕ) (r : WordsLike N W ws buf ret off) where
  pub words_same : (buf' ret' off' : ℕ → ℕ → ℕ) → buf' ≡ buf → ((q : ℕ) → ret' q ≡ ret q) → ((q : ℕ) → off' q ≡ off q) → WordsLike N W ws buf' ret' off'
  words_same buf' ret' off' a b c = record {
    len = r.len;
    buf = λ i k hi hk. r.buf i k hi hk ∙ sym (ap (λ f. f i k) a);
    returned = λ q k hq hk. r.returned q k hq hk ∙ sym (ap (λ f. f k) (b q));
    offered = λ q k hq hk. r.offered q k hq hk ∙ sym (ap (λ f. f k) (c q));
  }

  -- half k of p's return area is set
  pub words_return : (ret' off' : ℕ → ℕ → ℕ) (p k u v : ℕ) → p < N → k < halves W → half k u ≡ v
      → ret' p ≡ upd (ret p) k v → ((q : ℕ) → (q ≡ p → ⊥) → ret' q ≡ ret q) → ((q : ℕ) → off' q ≡ off q)
      → WordsLike N W (set ws ((3 * N + p) * W + word_of k) (with_half k u (get_or ws ((3 * N + p) * W + word_of k) 0))) buf ret' off'
  words_return ret' off' p k u v hp hk e a b c = record {
    len = let z = length-set ws ((3 * N + p) * W + word_of k) (with_half k u (get_or ws ((3 * N + p) * W + word_of k) 0)) in let y = r.len in omega arith;
    buf = λ i j hi hj. far i j hj (λ y _. omega arith) ∙ r.buf i j hi hj;
    returned = λ q j hq hj. go q j hq hj (split q p);
    offered = λ q j hq hj. far (4 * N + q) j hj (λ y _. omega arith) ∙ r.offered q j hq hj ∙ sym (ap (λ f. f j) (c q));
  }
    where
      far : (q j : ℕ) → j < halves W → (q ≡ 3 * N + p → word_of j ≡ word_of k → ⊥)
          → half j (get_or (put N W ws r.len (3 * N + p) k u hk) (q * W + word_of j) 0) ≡ half j (get_or ws (q * W + word_of j) 0)
      far = half_other N W ws r.len (3 * N + p) k u hk

      go : (q j : ℕ) → q < N → j < halves W → Split q p → half j (get_or (put N W ws r.len (3 * N + p) k u hk) ((3 * N + q) * W + word_of j) 0) ≡ ret' q j
      go q j hq hj (same z) = rw z (row_set N W ws r.len (3 * N + p) k u hk (ret p) v (omega arith) e (λ i hi. r.returned p i hp hi) j hj ∙ sym (ap (λ f. f j) a))
      go q j hq hj (other ne) = far (3 * N + q) j hj (λ y _. ne (omega arith)) ∙ r.returned q j hq hj ∙ sym (ap (λ f. f j) (b q ne))

  -- half k of BUF[i] is set
  pub words_buffer : (buf' ret' off' : ℕ → ℕ → ℕ) (i k u v : ℕ) → i < 3 * N → k < halves W → half k u ≡ v
      → buf' ≡ upd buf i (upd (buf i) k v) → ((q : ℕ) → ret' q ≡ ret q) → ((q : ℕ) → off' q ≡ off q)
      → WordsLike N W (set ws (i * W + word_of k) (with_half k u (get_or ws (i * W + word_of k) 0))) buf' ret' off'
  words_buffer buf' ret' off' i k u v hi hk e a b c = record {
    len = let z = length-set ws (i * W + word_of k) (with_half k u (get_or ws (i * W + word_of k) 0)) in let y = r.len in omega arith;
    buf = λ q j hq hj. go q j hq hj (split q i) ∙ sym (ap (λ f. f q j) a);
    returned = λ q j hq hj. far (3 * N + q) j hj (λ y _. omega arith) ∙ r.returned q j hq hj ∙ sym (ap (λ f. f j) (b q));
    offered = λ q j hq hj. far (4 * N + q) j hj (λ y _. omega arith) ∙ r.offered q j hq hj ∙ sym (ap (λ f. f j) (c q));
  }
    where
      far : (q j : ℕ) → j < halves W → (q ≡ i → word_of j ≡ word_of k → ⊥)
          → half j (get_or (put N W ws r.len i k u hk) (q * W + word_of j) 0) ≡ half j (get_or ws (q * W + word_of j) 0)
      far = half_other N W ws r.len i k u hk

      go : (q j : ℕ) → q < 3 * N → j < halves W → Split q i → half j (get_or (put N W ws r.len i k u hk) (q * W + word_of j) 0) ≡ upd buf i (upd (buf i) k v) q j
      go q j hq hj (same z) = rw z (row_set N W ws r.len i k u hk (buf i) v (omega arith) e (λ l hl. r.buf i l hi hl) j hj ∙ sym (ap (λ f. f j) (upd_same buf i (upd (buf i) k v))))
      go q j hq hj (other ne) = far q j hj (λ y _. ne y) ∙ r.buf q j hq hj ∙ sym (ap (λ f. f j) (upd_other buf i q (upd (buf i) k v) ne))

  -- W words are written to p's offer area
  pub words_offer : (ret' off' : ℕ → ℕ → ℕ) (p : ℕ) (v : List ℕ) → p < N → length v ≡ W → ((q : ℕ) → ret' q ≡ ret q) → off' p ≡ cells v
      → ((q : ℕ) → (q ≡ p → ⊥) → off' q ≡ off q) → WordsLike N W (sets ws ((4 * N + p) * W + 0) v) buf ret' off'
  words_offer ret' off' p v hp hv a b c = record {
    len = let z = length-sets ws ((4 * N + p) * W + 0) v in let y = r.len in omega arith;
    buf = λ i j hi hj. far i j hj (λ y. omega arith) ∙ r.buf i j hi hj;
    returned = λ q j hq hj. far (3 * N + q) j hj (λ y. omega arith) ∙ r.returned q j hq hj ∙ sym (ap (λ f. f j) (a q));
    offered = λ q j hq hj. go q j hq hj (split q p);
  }
    where
      far : (q j : ℕ) → j < halves W → (q ≡ 4 * N + p → ⊥) → half j (get_or (sets ws ((4 * N + p) * W + 0) v) (q * W + word_of j) 0) ≡ half j (get_or ws (q * W + word_of j) 0)
      far q j hj ne = ap (half j) (sets_out v ws ((4 * N + p) * W + 0) (q * W + word_of j) 0 (λ x y. row_out W q (4 * N + p) (word_of j) (omega arith) ne (omega arith) (omega arith)))

      near : (j : ℕ) → j < halves W → half j (get_or (sets ws ((4 * N + p) * W + 0) v) ((4 * N + p) * W + word_of j) 0) ≡ cells v j
      near j hj =
          let z : suc (4 * N + p) * W ≤ 5 * N * W = mul-le-mul_right W (omega arith) in let y = r.len in
          ap (λ i. half j (get_or (sets ws ((4 * N + p) * W + 0) v) i 0)) (let e : (4 * N + p) * W + word_of j ≡ (4 * N + p) * W + 0 + word_of j = omega arith in e)
          ∙ ap (half j) (sets_in v ws ((4 * N + p) * W + 0) (word_of j) 0 (omega arith) (omega arith))

      go : (q j : ℕ) → q < N → j < halves W → Split q p → half j (get_or (sets ws ((4 * N + p) * W + 0) v) ((4 * N + q) * W + word_of j) 0) ≡ off' q j
      go q j hq hj (same e) = rw e (near j hj ∙ sym (ap (λ f. f j) b))
      go q j hq hj (other ne) = far (4 * N + q) j hj (λ y. ne (omega arith)) ∙ r.offered q j hq hj ∙ sym (ap (λ f. f j) (c q ne))
