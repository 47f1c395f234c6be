-- The parts of a station's memory: what is put is there, everything else is as before, and two puts of different parts
-- change places.
use mathlib.Core.Path.{◌≡◌, refl, sym, ap, ap₂, subst, ◌∙◌}
use mathlib.Core.Logic.{◌≢◌, ◌⊎◌, inl, inr}
use mathlib.Core.List.{List}
use Prim.Native.Nat.{ℕ, ◌+◌, ◌*◌, ◌≤◌, ◌<◌}
use native.Mathlib.Decide.{ℕ_discrete}
use native.Mathlib.Omega.{arith}
use lib.ListN.{length, get_or, set, length-set}
use lib.Seq.{set-set, set_comm, get_or-set_same, get_or-set_other}
use Rattle.model.specs.declared.Bench.{Bench}
use Rattle.model.specs.Sizes.{buffers}
use Rattle.model.specs.Words.{word_of}
use Rattle.station.specs.declared.RecordNumber.{RecordNumber}
use Rattle.station.specs.declared.Tables.{Tables}
use Rattle.station.specs.Station.{StationMemory, station_words, no_tables, station_layout, layout_of}
use Rattle.station.specs.Projection.{bench_of, put_tables}
use Rattle.station_laws.proofs.Agrees.{station_rows_lem, records_apart}
use Rattle.doings.specs.declared.Item.{Item}
use Rattle.doings.specs.declared.Item.TheVariants.{X, Bank, Help, Half}
use Rattle.doings.specs.Items.{InBench, Holding, item_in, put_in_bench}
use Rattle.doings.proofs.Layouts.{Laid, same_row}
use Rattle.doings.proofs.ItemLaws as one
use Rattle.doings.proofs.ItemLaws.{same_item, Inside, inside_named, trim, bench_bank, bench_help, bench_again, bench_swap}
use Rattle.doings.proofs.ItemLaws.{Clear, words_length, words_again, words_swap, words_other, Stands, room, clear}
use Rattle.commuting_laws.specs.Parts.{StationItem, InStation, item_of, put_item}

-- the sizes that rows 1 to 3 and 23 and the declared types give
pub record Sized (s : StationMemory) : Type 0 where
  pub tables : length s.tables ≡ 8
  pub bank : (j : ℕ) → j < 8 → length (get_or s.tables j no_tables).bank ≡ 32
  pub help : (j : ℕ) → j < 8 → length (get_or s.tables j no_tables).help ≡ 16
  pub n_most : s.n ≤ 16
  pub n_some : 0 < s.n
  pub r_most : s.r ≤ 8
  pub r_some : 0 < s.r
  pub wide : 0 < s.w
  pub words : station_words s.n s.w s.r ≤ length s.words
  pub processes : s.n ≤ length s.processes

-- the rows of a station's words
abbrev rows : StationMemory → ℕ
rows s = (3 * s.r + 2) * s.n

pub laid : (n r : ℕ) (j : RecordNumber) → j.0 < r → Laid n ((3 * r + 2) * n) (station_layout n r j)
laid n r j h = let k = station_rows_lem n r j h in record {
  buffers_apart = k.apart;
  buffer_return = k.buffer_return;
  buffer_offer = k.buffer_offer;
  return_offer = k.return_offer;
  buffer_below = k.buffer_below;
  return_below = k.return_below;
  offer_below = k.offer_below;
}

-- a record's bench and words
pub stands : (s : StationMemory) → Sized s → (j : RecordNumber) → j.0 < s.r → Stands (layout_of s j) (rows s) (bench_of s j) s.words
stands s z j h = record {
  laid = laid s.n s.r j h;
  bank = z.bank j.0 (omega (arith, z.r_most));
  help = z.help j.0 (omega (arith, z.r_most));
  most = z.n_most;
  words = z.words;
}

-- an item that there is
pub record Present (s : StationMemory) (i : StationItem) : Type 0 where
  pub number : i.number.0 < s.r
  pub item : Inside (bench_of s i.number) i.item

pub present_named : (s : StationMemory) → Sized s → (i : StationItem) → Present s i → InStation s i
present_named s z i k = record { number = k.number; item = inside_named (bench_of s i.number) z.n_some z.wide i.item k.item }

-- two items are one or different
one_item : (i j : Item) (a b : RecordNumber) → i ≡ j → a.0 ≡ b.0 → ◌≡◌ {A = StationItem} (record { number = a; item = i }) (record { number = b; item = j })
one_item i j a b e x = ap₂ (λ (m : ℕ) (k : Item). record { number = record { 0 = m }; item = k }) x e

pub same_station_item : (i j : StationItem) → (i ≡ j) ⊎ (i ≢ j)
same_station_item i j = go (ℕ_discrete i.number.0 j.number.0) (same_item i.item j.item)
  where
    go : Dec (i.number.0 ≡ j.number.0) → (i.item ≡ j.item) ⊎ (i.item ≢ j.item) → (i ≡ j) ⊎ (i ≢ j)
    go (yes x) (inl e) = inl (one_item i.item j.item i.number j.number e x)
    go (no x) e = inr (λ y. x (ap (λ (k : StationItem). k.number.0) y))
    go (yes x) (inr e) = inr (λ y. e (ap (λ (k : StationItem). k.item) y))

-- the half words of two records lie apart
foreign : (s : StationMemory) (i j : StationItem) → InStation s i → InStation s j → i.number.0 ≢ j.number.0
    → Clear s.w (layout_of s i.number) i.item (layout_of s j.number) j.item
foreign s i j ki kj ne f g k m ei ej x =
    let hi : InBench (bench_of s i.number) (Half f k) = subst (InBench (bench_of s i.number)) ei ki.item in
    let hj : InBench (bench_of s j.number) (Half g m) = subst (InBench (bench_of s j.number)) ej kj.item in
    let row = same_row s.w (i.number.0 * buffers s.n + f.0) (j.number.0 * buffers s.n + g.0) (word_of k) (word_of m) (omega (arith, hi.word)) (omega (arith, hj.word)) x in
    absurd (records_apart s.n i.number.0 j.number.0 f.0 g.0 ne hi.index hj.index row)

-- the bench record keeps its sizes
bench_kept : (i : Item) (h : Holding) (b : Bench)
    → record { n = b.n; w = b.w; x = (put_in_bench i h b).x; bank = (put_in_bench i h b).bank; help = (put_in_bench i h b).help } ≡ put_in_bench i h b
bench_kept X h b = refl
bench_kept (Bank i) h b = refl
bench_kept (Help i) h b = refl
bench_kept (Half f k) h b = refl

module _ (s : StationMemory) (z : Sized s) (i : StationItem) (h : Holding) where
  abbrev j : RecordNumber
  j = i.number

  abbrev b : Bench
  b = bench_of s j

  abbrev new : Tables
  new = put_tables (put_in_bench i.item h b)

  abbrev s' : StationMemory
  s' = put_item i h s

  abbrev with_tables : Tables → Bench
  with_tables t = record { n = s.n; w = s.w; x = t.x; bank = t.bank; help = t.help }

  -- the benches
  pub bench_here : i.number.0 < s.r → bench_of (put_item i h s) i.number ≡ put_in_bench i.item h (bench_of s i.number)
  bench_here k = ap with_tables (get_or-set_same s.tables j.0 new no_tables (omega (arith, z.tables, z.r_most))) ∙ bench_kept i.item h b

  pub bench_there : (k : RecordNumber) → k.0 ≢ i.number.0 → bench_of (put_item i h s) k ≡ bench_of s k
  bench_there k ne = ap with_tables (get_or-set_other s.tables j.0 k.0 new no_tables ne)

  pub item_put : Present s i → item_of i (put_item i h s) ≡ trim i.item h
  item_put k =
      ap (λ (c : Bench). item_in (layout_of s j) i.item c s'.words) (bench_here k.number)
      ∙ one.item_put (stands s z j k.number) h i.item k.item

  -- an item of the same record, and of another
  same_record : (m : Item) → InStation s i → InBench (bench_of s i.number) m → m ≢ i.item
      → item_of (record { number = i.number; item = m }) (put_item i h s) ≡ item_of (record { number = i.number; item = m }) s
  same_record m ki km ne =
      ap (λ (c : Bench). item_in (layout_of s j) m c s'.words) (bench_here ki.number)
      ∙ one.item_other (stands s z j ki.number) h i.item m ki.item km ne

  other_record : (m : StationItem) → InStation s i → InStation s m → i.number.0 ≢ m.number.0 → item_of m (put_item i h s) ≡ item_of m s
  other_record m ki km ne =
      ap (λ (c : Bench). item_in (layout_of s m.number) m.item c s'.words) (bench_there m.number (λ e. ne (sym e)))
      ∙ words_other s.w (layout_of s j) s.words h (bench_of s m.number) refl i.item m.item (layout_of s m.number)
      (room (stands s z j ki.number) i.item ki.item) (foreign s i m ki km ne)

  pub item_other : (m : StationItem) → InStation s i → InStation s m → m ≢ i → item_of m (put_item i h s) ≡ item_of m s
  item_other m ki km ne = go (ℕ_discrete i.number.0 m.number.0)
    where
      go : Dec (i.number.0 ≡ m.number.0) → item_of m (put_item i h s) ≡ item_of m s
      go (no x) = other_record m ki km x
      go (yes x) =
          let P : StationItem → Type 0 = λ k. item_of k (put_item i h s) ≡ item_of k s in
          let here : ◌≡◌ {A = StationItem} (record { number = i.number; item = m.item }) m = one_item m.item m.item i.number m.number refl x in
          let there : InBench (bench_of s i.number) m.item = record { index = km.item.index; word = km.item.word } in
          subst P here (same_record m.item ki there (λ e. ne (sym here ∙ one_item m.item i.item i.number i.number e refl)))

  -- the item put twice
  abbrev memory_with : List Tables → List ℕ → StationMemory
  memory_with ts ws = record { n = s.n; w = s.w; r = s.r; tables = ts; processes = s.processes; words = ws }

  pub item_again : (g : Holding) → InStation s i → put_item i g (put_item i h s) ≡ put_item i g s
  item_again g k =
      ap₂ memory_with
      (ap (λ (c : Bench). set s'.tables j.0 (put_tables (put_in_bench i.item g c))) (bench_here k.number)
      ∙ set-set s.tables j.0 new (put_tables (put_in_bench i.item g (put_in_bench i.item h b)))
      ∙ ap (λ (c : Bench). set s.tables j.0 (put_tables c)) (bench_again b h i.item g))
      (words_again s.w (layout_of s j) s.words h i.item g (room (stands s z j k.number) i.item k.item))

  -- the sizes stay
  tables_like : (k : ℕ) → k < 8 → (f : Tables → ℕ) → f new ≡ f (get_or s.tables j.0 no_tables) → f (get_or s'.tables k no_tables) ≡ f (get_or s.tables k no_tables)
  tables_like k hk f e = go (ℕ_discrete k j.0)
    where
      go : Dec (k ≡ j.0) → f (get_or s'.tables k no_tables) ≡ f (get_or s.tables k no_tables)
      go (no ne) = ap f (get_or-set_other s.tables j.0 k new no_tables ne)
      go (yes x) =
          ap (λ (m : ℕ). f (get_or s'.tables m no_tables)) x
          ∙ ap f (get_or-set_same s.tables j.0 new no_tables (omega (arith, z.tables)))
          ∙ e ∙ ap (λ (m : ℕ). f (get_or s.tables m no_tables)) (sym x)

  pub item_sized : Sized (put_item i h s)
  item_sized = record {
    tables = length-set s.tables j.0 new ∙ z.tables;
    bank = λ k hk. tables_like k hk (λ t. length t.bank) (bench_bank b h i.item) ∙ z.bank k hk;
    help = λ k hk. tables_like k hk (λ t. length t.help) (bench_help b h i.item) ∙ z.help k hk;
    n_most = z.n_most;
    n_some = z.n_some;
    r_most = z.r_most;
    r_some = z.r_some;
    wide = z.wide;
    words = omega (arith, z.words, words_length s.w (layout_of s j) s.words h i.item);
    processes = z.processes;
  }

-- two items put, in either order
module _ (s : StationMemory) (z : Sized s) (h g : Holding) where
  abbrev with_parts : List Tables → List ℕ → StationMemory
  with_parts ts ws = record { n = s.n; w = s.w; r = s.r; tables = ts; processes = s.processes; words = ws }

  swap_here : (j : RecordNumber) (i m : Item) → InStation s (record { number = j; item = i }) → InStation s (record { number = j; item = m }) → m ≢ i
      → put_item (record { number = j; item = m }) g (put_item (record { number = j; item = i }) h s)
      ≡ put_item (record { number = j; item = i }) h (put_item (record { number = j; item = m }) g s)
  swap_here j i m ki km ne =
      let b = bench_of s j in let ts = s.tables in
      let both : (k l : Item) (u v : Holding) → InStation s (record { number = j; item = k })
      → (put_item (record { number = j; item = l }) v (put_item (record { number = j; item = k }) u s)).tables ≡ set ts j.0 (put_tables (put_in_bench l v (put_in_bench k u b))) =
      λ k l u v kk.
      ap (λ (c : Bench). set (put_item (record { number = j; item = k }) u s).tables j.0 (put_tables (put_in_bench l v c))) (bench_here s z (record { number = j; item = k }) u kk.number)
      ∙ set-set ts j.0 (put_tables (put_in_bench k u b)) (put_tables (put_in_bench l v (put_in_bench k u b))) in
      let st = stands s z j ki.number in
      ap₂ with_parts
      (both i m h g ki ∙ ap (λ (c : Bench). set ts j.0 (put_tables c)) (bench_swap b h i m g ne) ∙ sym (both m i g h km))
      (words_swap s.w (layout_of s j) s.words h i m (layout_of s j) g (room st i ki.item) (clear st i m ki.item km.item ne))

  swap_there : (i m : StationItem) → InStation s i → InStation s m → i.number.0 ≢ m.number.0 → put_item m g (put_item i h s) ≡ put_item i h (put_item m g s)
  swap_there i m ki km ne =
      let ts = s.tables in
      let new_i = put_tables (put_in_bench i.item h (bench_of s i.number)) in let new_m = put_tables (put_in_bench m.item g (bench_of s m.number)) in
      let first = ap (λ (c : Bench). set (set ts i.number.0 new_i) m.number.0 (put_tables (put_in_bench m.item g c))) (bench_there s z i h m.number (λ e. ne (sym e))) in
      let second = ap (λ (c : Bench). set (set ts m.number.0 new_m) i.number.0 (put_tables (put_in_bench i.item h c))) (bench_there s z m g i.number ne) in
      let rest = words_swap s.w (layout_of s i.number) s.words h i.item m.item (layout_of s m.number) g
      (room (stands s z i.number ki.number) i.item ki.item) (foreign s i m ki km ne) in
      ap₂ with_parts (first ∙ set_comm ts i.number.0 m.number.0 new_i new_m ne ∙ sym second) rest

  pub items_swap : (i m : StationItem) → InStation s i → InStation s m → m ≢ i → put_item m g (put_item i h s) ≡ put_item i h (put_item m g s)
  items_swap i m ki km ne = go (ℕ_discrete i.number.0 m.number.0)
    where
      go : Dec (i.number.0 ≡ m.number.0) → put_item m g (put_item i h s) ≡ put_item i h (put_item m g s)
      go (no x) = swap_there i m ki km x
      go (yes x) =
          let P : StationItem → Type 0 = λ k. put_item k g (put_item i h s) ≡ put_item i h (put_item k g s) in
          let here : ◌≡◌ {A = StationItem} (record { number = i.number; item = m.item }) m = one_item m.item m.item i.number m.number refl x in
          let there : InStation s (record { number = i.number; item = m.item }) = record { number = ki.number; item = record { index = km.item.index; word = km.item.word } } in
          subst P here (swap_here i.number i.item m.item ki there (λ e. ne (sym here ∙ one_item m.item i.item i.number i.number e refl)))
