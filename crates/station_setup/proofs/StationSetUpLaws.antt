-- The set-up of a station: one record more, and what it means that no row holds.
use mathlib.Core.Path.{◌≡◌, refl, sym, ap, ap₂, ◌∙◌}
use mathlib.Core.List.{List, [], ◌++◌, append_assoc}
use mathlib.Core.Bool.{Bool, true, false, cond}
use Prim.Native.Nat.{ℕ, zero, suc, ◌+◌, ◌-◌, ◌*◌, ◌≤◌, ◌<◌}
use native.Mathlib.Nat.{mul-le-mul, mul-le-mul_right}
use native.Mathlib.Omega.{arith}
use lib.Dec.{eqb}
use lib.ListN.{length, set, replicate, length-append, length-replicate}
use lib.Seq.{sets}
use borrow.Author.Tests.{eq-eqb, ne_eqb, eqb-true, not-false}
use Rattle.model.specs.Sizes.{buffers}
use Rattle.llsc.specs.Rows.{row8always}
use Rattle.laws.proofs.ListLaws.{sets_append}
use Rattle.rows.proofs.RowLaws.{cleared}
use Rattle.model.specs.SetUp.{bench_at_set_up}
use Rattle.station.specs.declared.Tables.{Tables}
use Rattle.station.specs.declared.Station.{Station}
use Rattle.station.specs.declared.StationProcess.{StationProcess}
use Rattle.station.specs.Station.{station_memory, station_words, no_tables}
use Rattle.station.specs.Projection.{put_tables}
use Rattle.station.specs.StationSetUp.{firsts, tables_at_set_up, blocks, station_set_up, station_set_up_refusal}
use Rattle.station_facts.proofs.Firsts.{firsts_later, firsts_next}
use Rattle.station_records.specs.TakenOut.{bench_in, with_tables}
use Rattle.station_rows.proofs.StationRowLaws.{begins_lent}
use Rattle.station_setup.specs.StationSetUpByValue.{station_set_up_number, tables_set, sized, block, Admitted, station_prepared, processes_set}
use Rattle.llsc.proofs.RefusalNumbers.{number_some}

-- the tables of one record more
pub tables_next : (s : Station) (n w j : ℕ) → j < length s.tables
    → with_tables (tables_set s n j) (record { 0 = j }) (put_tables (bench_at_set_up (bench_in (tables_set s n j) (record { 0 = j })) n w)) ≡ tables_set s n (j + 1)
tables_next s n w j h =
    ap (λ (t : Tables). record { n = s.n; w = s.w; r = s.r; tables = set (firsts (tables_at_set_up n) 0 j s.tables) j (tables_at_set_up n j t) })
    (firsts_later (tables_at_set_up n) 0 j s.tables j no_tables (omega arith))
    ∙ ap (λ (l : List Tables). record { n = s.n; w = s.w; r = s.r; tables = l }) (firsts_next (tables_at_set_up n) j s.tables no_tables h)

-- j blocks, one after another
abbrev pub many : ℕ → ℕ → List ℕ → List ℕ
many zero each value = []
many (suc j) each value = many j each value ++ block each value

module _ (each : ℕ) (value : List ℕ) (fits : length value ≤ each) where
  block_length : length (block each value) ≡ each
  block_length =
      length-append value (replicate (each - length value) 0) ∙ ap (length value +◌) (length-replicate (each - length value) 0)
      ∙ (let z : length value + (each - length value) ≡ each = omega arith in z)

  many_length : (j : ℕ) → length (many j each value) ≡ j * each
  many_length zero = let z : 0 ≡ 0 * each = omega arith in z
  many_length (suc j) = length-append (many j each value) (block each value) ∙ ap₂ ◌+◌ (many_length j) block_length ∙ (let z : j * each + each ≡ suc j * each = omega arith in z)

  -- one more
  pub many_next : (ws : List ℕ) (j : ℕ) → sets (sets ws 0 (many j each value)) (j * each) (block each value) ≡ sets ws 0 (many (j + 1) each value)
  many_next ws j =
      ap (λ (k : ℕ). sets (sets ws 0 (many j each value)) k (block each value)) (let z : j * each ≡ 0 + length (many j each value) = omega (arith, many_length j) in z)
      ∙ sym (sets_append ws 0 (many j each value) (block each value))
      ∙ ap (λ (k : ℕ). sets ws 0 (many k each value)) (let z : suc j ≡ j + 1 = omega arith in z)

  -- all, and the areas behind them
  pub many_areas : (ws : List ℕ) (r k : ℕ) → sets (sets ws 0 (many r each value)) (r * each) (replicate k 0) ≡ sets ws 0 (many r each value ++ replicate k 0)
  many_areas ws r k =
      ap (λ (i : ℕ). sets (sets ws 0 (many r each value)) i (replicate k 0)) (let z : r * each ≡ 0 + length (many r each value) = omega (arith, many_length r) in z)
      ∙ sym (sets_append ws 0 (many r each value) (replicate k 0))

-- the blocks of the definition are these
blocks_many : (n w : ℕ) (value : List ℕ) → length value ≡ w → (j k : ℕ) → many j (buffers n * w) value ++ blocks k n w value ≡ blocks (j + k) n w value
blocks_many n w value e zero k = ap (λ (i : ℕ). blocks i n w value) (let z : k ≡ 0 + k = omega arith in z)
blocks_many n w value e (suc j) k =
    append_assoc (many j (buffers n * w) value) (block (buffers n * w) value) (blocks k n w value)
    ∙ ap (λ (i : ℕ). many j (buffers n * w) value ++ (value ++ replicate (buffers n * w - i) 0 ++ blocks k n w value)) e
    ∙ blocks_many n w value e j (suc k) ∙ ap (λ (i : ℕ). blocks i n w value) (let z : j + suc k ≡ suc j + k = omega arith in z)

pub blocks_are : (n w r : ℕ) (value : List ℕ) → length value ≡ w → many r (buffers n * w) value ++ replicate (station_words n w r - r * (buffers n * w)) 0 ≡ blocks r n w value
blocks_are n w r value e =
    ap (λ (k : ℕ). many r (buffers n * w) value ++ replicate k 0) (let z : station_words n w r - r * (buffers n * w) ≡ 2 * n * w = omega arith in z)
    ∙ blocks_many n w value e r 0 ∙ ap (λ (i : ℕ). blocks i n w value) (let z : r + 0 ≡ r = omega arith in z)

-- one record's words: the value, then zeros
pub block_set : (ws value : List ℕ) (at each : ℕ) → sets (sets ws at value) (at + length value) (replicate (at + each - (at + length value)) 0) ≡ sets ws at (block each value)
block_set ws value at each =
    ap (λ (k : ℕ). sets (sets ws at value) (at + length value) (replicate k 0)) (let z : at + each - (at + length value) ≡ each - length value = omega arith in z)
    ∙ sym (sets_append ws at value (replicate (each - length value) 0))

-- sizes that fit, where `each` words are those of one record
pub each_small : {n w b : ℕ} → n ≤ 16 → w ≤ 64 → b ≡ buffers n → b * w ≤ 3072
each_small {n} {w} {b} hn hw e = let few : b * w ≤ 48 * 64 = mul-le-mul {n₂ = 48} {m₂ = 64} (omega (arith, e, hn)) hw in omega (arith, few)

pub rows_small : {j each : ℕ} → j ≤ 8 → each ≤ 3072 → j * each ≤ 24576
rows_small {j} {each} hj he = let few : j * each ≤ 8 * 3072 = mul-le-mul {n₂ = 8} {m₂ = 3072} hj he in omega (arith, few)

module _ {n w r words value : ℕ} (h : Admitted n w r words value) where
  pub value_fits : value ≤ buffers n * w
  value_fits = let z : 1 * w ≤ buffers n * w = mul-le-mul_right w (omega (arith, h.n_some)) in omega (arith, z, h.value_words)

  pub areas_fit : (r * (buffers n * w) ≤ station_words n w r) × (station_words n w r ≤ words)
  areas_fit = (omega arith, h.words_lent)

  pub block_fits : (j : ℕ) → j < r → j * (buffers n * w) + buffers n * w ≤ words
  block_fits j hj = let z : suc j * (buffers n * w) ≤ r * (buffers n * w) = mul-le-mul_right (buffers n * w) hj in omega (arith, z, areas_fit)

-- where the number is 0, the set-up fits what is lent
pub set_up_fits : (n w r len words value : ℕ) → station_set_up_number n w r len words value ≡ 0 → Admitted n w r words value
unfolding station_set_up_number
set_up_fits n w r len words value e =
    let wrong = (row8always w value).holds in
    let lent = begins_lent n w r len words (cond wrong 8 0) e in
    record {
      n_some = lent.0.n_some;
      n_most = lent.0.n_most;
      w_most = lent.0.w_most;
      r_most = lent.0.r_most;
      words_lent = lent.0.words_lent;
      value_words = eqb-true value w (not-false (eqb value w) (cleared wrong 7 0 lent.1).0);
    }

-- the two answers of a set-up
module _ (s : Station) (len n w r : ℕ) (value ws : List ℕ) where
  abbrev number : ℕ
  number = station_set_up_number n w r len (length ws) (length value)

  pub prepared_refused : (k : ℕ) → k ≡ number → (k ≡ 0 → ⊥) → ◌≡◌ {A = (ℕ × Station) × List ℕ} ((k, s), ws) (station_prepared s len n w r value ws)
  unfolding station_prepared
  prepared_refused k e h = rw e (simp (ne_eqb number 0 (λ z. h (e ∙ z))))

  pub prepared_done : number ≡ 0
      → ◌≡◌ {A = (ℕ × Station) × List ℕ} ((0, sized (tables_set s n r) n w r), sets ws 0 (blocks r n w value)) (station_prepared s len n w r value ws)
  unfolding station_prepared
  prepared_done e = simp (eq-eqb number 0 e)

  abbrev accepted : (ℕ × Station) × List ℕ
  accepted = ((0, sized (tables_set s n r) n w r), sets ws 0 (blocks r n w value))

  abbrev refused : (ℕ × Station) × List ℕ
  refused = ((number, s), ws)

  pub prepared_number : (station_prepared s len n w r value ws).0.0 ≡ number
  unfolding station_prepared
  prepared_number = go (eqb number 0) refl
    where
      go : (t : Bool) → eqb number 0 ≡ t → (cond t accepted refused).0.0 ≡ number
      go true e = sym (eqb-true number 0 e)
      go false e = refl

-- what the by-value set-up makes, with the process records set up too, is the set-up
pub set_up_law : (s : Station) (ps : List StationProcess) (ws : List ℕ) (n w r : ℕ) (value : List ℕ)
    → processes_set ps n r (station_prepared s (length ps) n w r value ws) ≡ station_set_up (station_memory s ps ws) n w r value
unfolding station_prepared station_set_up station_set_up_number station_set_up_refusal
set_up_law s ps ws n w r value = go (number s (length ps) n w r value ws) refl
  where
    go : (k : ℕ) → number s (length ps) n w r value ws ≡ k → processes_set ps n r (station_prepared s (length ps) n w r value ws) ≡ station_set_up (station_memory s ps ws) n w r value
    go zero e = simp (eq-eqb (number s (length ps) n w r value ws) 0 e, e)
    go (suc k) e = simp (ne_eqb (number s (length ps) n w r value ws) 0 (λ z. let y : ⊥ = omega (arith, e, z) in y))

-- what `prepare` rests on
pub ruleset prepare_laws = (number_some, set_up_fits, prepared_refused, prepared_done)

-- what `words_at_set_up` rests on
pub ruleset words_laws = (many_next, each_small, rows_small, value_fits)
