-- An item put: it is there, every other item is as before, and puts of two items change places.
use mathlib.Core.Path.{◌≡◌, refl, sym, ap, ap₂, subst, ◌∙◌}
use mathlib.Core.Logic.{◌≢◌, ◌⊎◌, inl, inr}
use mathlib.Core.List.{List}
use Prim.Native.Nat.{ℕ, ◌*◌, ◌≤◌, ◌<◌}
use native.Mathlib.Decide.{ℕ_discrete}
use native.Mathlib.Omega.{arith}
use lib.ListN.{length, length-set}
use lib.Seq.{set-set, set_comm, get_or-set_same, get_or-set_other}
use Rattle.model.specs.declared.BufferNumber.{BufferNumber}
use Rattle.model.specs.Places.{BankPlace, HelpPlace}
use Rattle.model.specs.declared.Bench.{Bench}
use Rattle.model.specs.Tables.{no_bank, no_help}
use Rattle.model.specs.Sizes.{buffers, sequence_numbers, halves}
use Rattle.model.specs.Words.{Layout, buffer_in, word_of, half}
use Rattle.doings.specs.declared.Item.{Item}
use Rattle.doings.specs.declared.Item.TheVariants.{X, Bank, Help, Half}
use Rattle.doings.specs.Items.{InBench, Holding, bank_holding, help_holding, half_holding, item_in, bank_of, help_of, whole, put_in_bench, put_in_words}
use Rattle.doings.proofs.HalfPuts.{OtherHalf, half_put, half_again, half_elsewhere, halves_swap}
use Rattle.doings.proofs.Layouts.{Laid, same_row, same_word, place_fits}

-- two items are one or different
pub same_item : (i j : Item) → (i ≡ j) ⊎ (i ≢ j)
same_item X X = inl refl
same_item X (Bank j) = inr (λ e. let z : ◌≡◌ {A = ℕ} 0 1 = cc in omega arith)
same_item X (Help j) = inr (λ e. let z : ◌≡◌ {A = ℕ} 0 1 = cc in omega arith)
same_item X (Half g m) = inr (λ e. let z : ◌≡◌ {A = ℕ} 0 1 = cc in omega arith)
same_item (Bank i) X = inr (λ e. let z : ◌≡◌ {A = ℕ} 0 1 = cc in omega arith)
same_item (Bank i) (Bank j) = go (ℕ_discrete i.0 j.0)
  where
    go : Dec (i.0 ≡ j.0) → (Bank i ≡ Bank j) ⊎ (Bank i ≢ Bank j)
    go (yes e) = inl (ap (λ (r : ℕ). Bank (record { 0 = r })) e)
    go (no n) = inr (λ e. n (cc))
same_item (Bank i) (Help j) = inr (λ e. let z : ◌≡◌ {A = ℕ} 0 1 = cc in omega arith)
same_item (Bank i) (Half g m) = inr (λ e. let z : ◌≡◌ {A = ℕ} 0 1 = cc in omega arith)
same_item (Help i) X = inr (λ e. let z : ◌≡◌ {A = ℕ} 0 1 = cc in omega arith)
same_item (Help i) (Bank j) = inr (λ e. let z : ◌≡◌ {A = ℕ} 0 1 = cc in omega arith)
same_item (Help i) (Help j) = go (ℕ_discrete i.0 j.0)
  where
    go : Dec (i.0 ≡ j.0) → (Help i ≡ Help j) ⊎ (Help i ≢ Help j)
    go (yes e) = inl (ap (λ (r : ℕ). Help (record { 0 = r })) e)
    go (no n) = inr (λ e. n (cc))
same_item (Help i) (Half g m) = inr (λ e. let z : ◌≡◌ {A = ℕ} 0 1 = cc in omega arith)
same_item (Half f k) X = inr (λ e. let z : ◌≡◌ {A = ℕ} 0 1 = cc in omega arith)
same_item (Half f k) (Bank j) = inr (λ e. let z : ◌≡◌ {A = ℕ} 0 1 = cc in omega arith)
same_item (Half f k) (Help j) = inr (λ e. let z : ◌≡◌ {A = ℕ} 0 1 = cc in omega arith)
same_item (Half f k) (Half g m) = go (ℕ_discrete f.0 g.0) (ℕ_discrete k m)
  where
    go : Dec (f.0 ≡ g.0) → Dec (k ≡ m) → (Half f k ≡ Half g m) ⊎ (Half f k ≢ Half g m)
    go (yes e) (yes d) = inl (ap₂ (λ (r s : ℕ). Half (record { 0 = r }) s) e d)
    go (no n) d = inr (λ e. n (cc))
    go (yes e) (no n) = inr (λ x. n (cc))

-- an item that there is
abbrev pub Inside : Bench → Item → Type 0
Inside b X = Unit {0}
Inside b (Bank i) = i.0 < sequence_numbers b.n
Inside b (Help i) = i.0 < b.n
Inside b (Half f k) = (f.0 < buffers b.n) × (k < halves b.w)

pub inside_named : (b : Bench) → 0 < b.n → 0 < b.w → (i : Item) → Inside b i → InBench b i
inside_named b hn hw X k = record { index = omega arith; word = omega arith }
inside_named b hn hw (Bank i) k = record { index = omega arith; word = omega arith }
inside_named b hn hw (Help i) k = record { index = omega arith; word = omega arith }
inside_named b hn hw (Half f j) k = record { index = k.0; word = k.1 }

-- what an item keeps of a holding
abbrev pub trim : Item → Holding → Holding
trim X h = h
trim (Bank i) h = bank_holding (bank_of h)
trim (Help i) h = h
trim (Half f k) h = half_holding (half k (whole k h.first))

-- the bench record
module _ (b : Bench) (h : Holding) where
  pub bench_n : (i : Item) → (put_in_bench i h b).n ≡ b.n
  bench_n X = refl
  bench_n (Bank i) = refl
  bench_n (Help i) = refl
  bench_n (Half f k) = refl

  pub bench_w : (i : Item) → (put_in_bench i h b).w ≡ b.w
  bench_w X = refl
  bench_w (Bank i) = refl
  bench_w (Help i) = refl
  bench_w (Half f k) = refl

  pub bench_bank : (i : Item) → length (put_in_bench i h b).bank ≡ length b.bank
  bench_bank X = refl
  bench_bank (Bank i) = length-set b.bank i.0 (bank_of h)
  bench_bank (Help i) = refl
  bench_bank (Half f k) = refl

  pub bench_help : (i : Item) → length (put_in_bench i h b).help ≡ length b.help
  bench_help X = refl
  bench_help (Bank i) = refl
  bench_help (Help i) = length-set b.help i.0 (help_of h)
  bench_help (Half f k) = refl

  pub bench_again : (i : Item) (g : Holding) → put_in_bench i g (put_in_bench i h b) ≡ put_in_bench i g b
  bench_again X g = refl
  bench_again (Bank i) g = ap (λ (ks : List BankPlace). record { n = b.n; w = b.w; x = b.x; bank = ks; help = b.help }) (set-set b.bank i.0 (bank_of h) (bank_of g))
  bench_again (Help i) g = ap (λ (hs : List HelpPlace). record { n = b.n; w = b.w; x = b.x; bank = b.bank; help = hs }) (set-set b.help i.0 (help_of h) (help_of g))
  bench_again (Half f k) g = refl

  pub bench_swap : (i j : Item) (g : Holding) → j ≢ i → put_in_bench j g (put_in_bench i h b) ≡ put_in_bench i h (put_in_bench j g b)
  bench_swap X X g ne = absurd (ne refl)
  bench_swap X (Bank j) g ne = refl
  bench_swap X (Help j) g ne = refl
  bench_swap X (Half f k) g ne = refl
  bench_swap (Bank i) X g ne = refl
  bench_swap (Bank i) (Bank j) g ne =
      let swap = set_comm b.bank i.0 j.0 (bank_of h) (bank_of g) (λ e. ne (ap (λ (r : ℕ). Bank (record { 0 = r })) (sym e))) in
      ap (λ (ks : List BankPlace). record { n = b.n; w = b.w; x = b.x; bank = ks; help = b.help }) swap
  bench_swap (Bank i) (Help j) g ne = refl
  bench_swap (Bank i) (Half f k) g ne = refl
  bench_swap (Help i) X g ne = refl
  bench_swap (Help i) (Bank j) g ne = refl
  bench_swap (Help i) (Help j) g ne =
      let swap = set_comm b.help i.0 j.0 (help_of h) (help_of g) (λ e. ne (ap (λ (r : ℕ). Help (record { 0 = r })) (sym e))) in
      ap (λ (hs : List HelpPlace). record { n = b.n; w = b.w; x = b.x; bank = b.bank; help = hs }) swap
  bench_swap (Help i) (Half f k) g ne = refl
  bench_swap (Half f k) j g ne = refl

  -- another item, as the bench record has it
  pub bench_other : (l : Layout) (ws : List ℕ) (i j : Item) → j ≢ i → item_in l j (put_in_bench i h b) ws ≡ item_in l j b ws
  bench_other l ws X X ne = absurd (ne refl)
  bench_other l ws X (Bank j) ne = refl
  bench_other l ws X (Help j) ne = refl
  bench_other l ws X (Half g m) ne = refl
  bench_other l ws (Bank i) X ne = refl
  bench_other l ws (Bank i) (Bank j) ne = ap bank_holding (get_or-set_other b.bank i.0 j.0 (bank_of h) no_bank (λ e. ne (ap (λ (r : ℕ). Bank (record { 0 = r })) e)))
  bench_other l ws (Bank i) (Help j) ne = refl
  bench_other l ws (Bank i) (Half g m) ne = refl
  bench_other l ws (Help i) X ne = refl
  bench_other l ws (Help i) (Bank j) ne = refl
  bench_other l ws (Help i) (Help j) ne = ap help_holding (get_or-set_other b.help i.0 j.0 (help_of h) no_help (λ e. ne (ap (λ (r : ℕ). Help (record { 0 = r })) e)))
  bench_other l ws (Help i) (Half g m) ne = refl
  bench_other l ws (Half f k) j ne = refl

-- the half words of i and j, if both are such, lie at different places or are the two halves of a word
abbrev pub Clear : ℕ → Layout → Item → Layout → Item → Type 0
Clear w l i l' j =
    (f g : BufferNumber) (k m : ℕ) → i ≡ Half f k → j ≡ Half g m → buffer_in l w f (word_of k) ≡ buffer_in l' w g (word_of m) → OtherHalf k m

-- the half word of i, if it is one, is lent
abbrev pub Room : ℕ → Layout → Item → List ℕ → Type 0
Room w l i ws = (f : BufferNumber) (k : ℕ) → i ≡ Half f k → buffer_in l w f (word_of k) < length ws

-- the words
module _ (w : ℕ) (l : Layout) (ws : List ℕ) (h : Holding) where
  pub words_length : (i : Item) → length (put_in_words l w i h ws) ≡ length ws
  words_length X = refl
  words_length (Bank i) = refl
  words_length (Help i) = refl
  words_length (Half f k) = length-set ws (buffer_in l w f (word_of k)) _

  pub words_again : (i : Item) (g : Holding) → Room w l i ws → put_in_words l w i g (put_in_words l w i h ws) ≡ put_in_words l w i g ws
  words_again X g r = refl
  words_again (Bank i) g r = refl
  words_again (Help i) g r = refl
  words_again (Half f k) g r = half_again ws (buffer_in l w f (word_of k)) k h.first g.first (r f k refl)

  pub words_swap : (i j : Item) (l' : Layout) (g : Holding) → Room w l i ws → Clear w l i l' j
      → put_in_words l' w j g (put_in_words l w i h ws) ≡ put_in_words l w i h (put_in_words l' w j g ws)
  words_swap i X l' g r c = refl
  words_swap i (Bank j) l' g r c = refl
  words_swap i (Help j) l' g r c = refl
  words_swap X (Half e m) l' g r c = refl
  words_swap (Bank i) (Half e m) l' g r c = refl
  words_swap (Help i) (Half e m) l' g r c = refl
  words_swap (Half f k) (Half e m) l' g r c =
      halves_swap ws (buffer_in l w f (word_of k)) k (buffer_in l' w e (word_of m)) m (c f e k m refl refl) h.first g.first (r f k refl)

  -- another item, as the words have it
  pub words_other : (b : Bench) → b.w ≡ w → (i j : Item) (l' : Layout) → Room w l i ws → Clear w l i l' j
      → item_in l' j b (put_in_words l w i h ws) ≡ item_in l' j b ws
  words_other b e i X l' r c = refl
  words_other b e i (Bank j) l' r c = refl
  words_other b e i (Help j) l' r c = refl
  words_other b e X (Half g m) l' r c = refl
  words_other b e (Bank i) (Half g m) l' r c = refl
  words_other b e (Help i) (Half g m) l' r c = refl
  words_other b e (Half f k) (Half g m) l' r c =
      let at = buffer_in l w f (word_of k) in
      let apart : at ≡ buffer_in l' b.w g (word_of m) → OtherHalf k m = λ x. c f g k m refl refl (x ∙ ap (λ (v : ℕ). buffer_in l' v g (word_of m)) e) in
      ap half_holding (half_elsewhere ws at k (buffer_in l' b.w g (word_of m)) m apart h.first (r f k refl))

-- a record's bench and words, as rows 1 to 3 and the declared types have them
pub record Stands (l : Layout) (rows : ℕ) (b : Bench) (ws : List ℕ) : Type 0 where
  pub laid : Laid b.n rows l
  pub bank : length b.bank ≡ 32
  pub help : length b.help ≡ 16
  pub most : b.n ≤ 16
  pub words : rows * b.w ≤ length ws

module _ {l : Layout} {rows : ℕ} {b : Bench} {ws : List ℕ} (z : Stands l rows b ws) where
  pub room : (i : Item) → InBench b i → Room b.w l i ws
  room i k f m e =
      let there : InBench b (Half f m) = subst (InBench b) e k in
      let row = z.laid.buffer_below f.0 there.index in
      place_fits (l.buffer f.0) rows b.w (length ws) (word_of m) row (omega (arith, there.word)) z.words

  -- two items of one record
  pub clear : (i j : Item) → InBench b i → InBench b j → j ≢ i → Clear b.w l i l j
  clear i j ki kj ne f g k m ei ej x =
      let hi : InBench b (Half f k) = subst (InBench b) ei ki in
      let hj : InBench b (Half g m) = subst (InBench b) ej kj in
      let rows_same = same_row b.w (l.buffer f.0) (l.buffer g.0) (word_of k) (word_of m) (omega (arith, hi.word)) (omega (arith, hj.word)) x in
      let same : f.0 ≡ g.0 = z.laid.buffers_apart f.0 g.0 hi.index hj.index rows_same in
      record {
        word = sym (same_word b.w (l.buffer f.0) (l.buffer g.0) (word_of k) (word_of m) (omega (arith, hi.word)) (omega (arith, hj.word)) x);
        half = λ y. ne (ej ∙ ap₂ (λ (r s : ℕ). Half (record { 0 = r }) s) (sym same) y ∙ sym ei);
      }

  module _ (h : Holding) where
    pub item_put : (i : Item) → Inside b i → item_in l i (put_in_bench i h b) (put_in_words l b.w i h ws) ≡ trim i h
    item_put X k = refl
    item_put (Bank i) k = ap bank_holding (get_or-set_same b.bank i.0 (bank_of h) no_bank (omega (arith, z.bank, z.most)))
    item_put (Help i) k = ap help_holding (get_or-set_same b.help i.0 (help_of h) no_help (omega (arith, z.help, z.most)))
    item_put (Half f k) j =
        let there : InBench b (Half f k) = record { index = j.0; word = j.1 } in
        ap half_holding (half_put ws (buffer_in l b.w f (word_of k)) k h.first (room (Half f k) there f k refl))

    pub item_other : (i j : Item) → InBench b i → InBench b j → j ≢ i
        → item_in l j (put_in_bench i h b) (put_in_words l b.w i h ws) ≡ item_in l j b ws
    item_other i j ki kj ne =
        bench_other b h l (put_in_words l b.w i h ws) i j ne ∙ words_other b.w l ws h b refl i j l (room i ki) (clear i j ki kj ne)
