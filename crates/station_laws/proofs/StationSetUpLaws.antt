-- An accepted set-up: every record agrees with a bench of its own that is set up alone.
use mathlib.Core.Path.{◌≡◌, refl, sym, ap, ap₂, subst, ◌∙◌}
use mathlib.Core.Bool.{Bool, true, false, not, ◌&&◌, ◌||◌, cond}
use mathlib.Core.List.{List, [], ◌∷◌, ◌++◌}
use Prim.Native.Nat.{ℕ, zero, suc, ◌+◌, ◌-◌, ◌*◌, ◌≤◌, ◌<◌}
use native.Mathlib.Nat.{mul-le-mul_right}
use native.Mathlib.Omega.{arith}
use borrow.Author.Tests.{ltb-false, eqb-true, eq-eqb, not-false, le-leb, le-ltb, lt-ltb}
use lib.ListN.{length, get_or, replicate, length-replicate, length-append, get_or-append}
use lib.Seq.{length-sets, get_or-append-add}
use Rattle.model.specs.declared.Process.{Process}
use Rattle.model.specs.Sizes.{sequence_numbers, halves}
use Rattle.model.specs.Machine.{Memory, Shaped}
use Rattle.model.specs.Records.{record_at, no_process}
use Rattle.model.specs.SetUp.{set_up, set_up_refusal, at_set_up}
use Rattle.linearization.proofs.GhostRuns
use Rattle.serving.proofs.RefusalFacts.{or_false, no_row, none_holds, inside}
use Rattle.laws.proofs.ListFacts.{sets_front, zeros}
use Rattle.linearization.proofs.WordLists.{cells}
use Rattle.linearization.proofs.SetUpSimulation.{set_up_memory}
use Rattle.linearization.proofs.CommandRuns.{Holds, set_up_holds}
use Rattle.station.specs.declared.RecordNumber.{RecordNumber}
use Rattle.station.specs.declared.Holding.{Holding}
use Rattle.station.specs.declared.Tables.{Tables}
use Rattle.station.specs.Station.{StationMemory, station_words, no_tables, no_holding, no_station_process, tables_at, process_at, holding_at}
use Rattle.station.specs.Projection.{process_of}
use Rattle.station.specs.StationRefusals.{StationShaped, station_set_up_rows}
use Rattle.station.specs.StationSetUp.{tables_at_set_up, holding_at_set_up, station_process_at_set_up, blocks, station_at_set_up, station_set_up, station_set_up_refusal}
use Rattle.station_facts.proofs.Firsts.{firsts_at, firsts_length}
use Rattle.station_laws.proofs.Live.{On, needs_b, needs_c, needs_d, needs_e, LiveProcess}
use Rattle.station_laws.proofs.Agrees.{WordsFor, Agrees, station_rows_lem, one_rows_lem}
use Rattle.station_laws.proofs.StationRuns.{Inv}

-- memory lent to a bench of its own: record j's tables, n process records, 5nw words
abbrev pub lent_alone : StationMemory → RecordNumber → ℕ → ℕ → Memory
lent_alone s j n w = record {
  bench = record { n = 0; w = 0; x = (tables_at s j).x; bank = (tables_at s j).bank; help = (tables_at s j).help };
  records = replicate n no_process;
  words = replicate (5 * n * w) 0;
}

-- zeros behind a value are like nothing
pad : (v : List ℕ) (x a : ℕ) → get_or (v ++ replicate x 0) a 0 ≡ get_or v a 0
pad [] x a = zeros x a
pad (w ∷ v) x zero = refl
pad (w ∷ v) x (suc a) = pad v x a

module _ (n w : ℕ) (value : List ℕ) (hn : 1 ≤ n) (hv : length value ≡ w) where
  abbrev S : ℕ
  S = 3 * n * w

  abbrev one : List ℕ
  one = value ++ replicate (S - w) 0

  enough : w ≤ S
  enough = let z : 1 * w ≤ 3 * n * w = mul-le-mul_right w (omega arith) in omega arith

  one_length : length one ≡ S
  one_length = length-append value (replicate (S - w) 0) ∙ ap₂ ◌+◌ hv (length-replicate (S - w) 0) ∙ (let x = enough in let z : w + (S - w) ≡ S = omega arith in z)

  blocks_length : (r : ℕ) → length (blocks r n w value) ≡ r * S + 2 * n * w
  blocks_length zero = length-replicate (2 * n * w) 0 ∙ (let z : 2 * n * w ≡ 0 * S + 2 * n * w = omega arith in z)
  blocks_length (suc r) = length-append one (blocks r n w value) ∙ ap₂ ◌+◌ one_length (blocks_length r) ∙ (let z : S + (r * S + 2 * n * w) ≡ suc r * S + 2 * n * w = omega arith in z)

  -- a word of a buffer of record j is the value's, or 0
  pub block : (r j a : ℕ) → j < r → a < S → get_or (blocks r n w value) (j * S + a) 0 ≡ get_or value a 0
  block zero j a hj ha = absurd (omega arith)
  block (suc r) zero a hj ha =
      ap (λ i. get_or (one ++ blocks r n w value) i 0) (let z : 0 * S + a ≡ a = omega arith in z)
      ∙ get_or-append one (blocks r n w value) 0 a (let x = one_length in omega arith) ∙ pad value (S - w) a
  block (suc r) (suc j) a hj ha =
      ap (λ i. get_or (one ++ blocks r n w value) i 0) (let x = one_length in let z : suc j * S + a ≡ length one + (j * S + a) = omega arith in z)
      ∙ get_or-append-add one (blocks r n w value) (j * S + a) 0 ∙ block r j a (omega arith) ha

-- a process with this holding and nothing else
abbrev pub holding_only : Holding → Process
holding_only v = record {
  mybuf = v.mybuf;
  x = v.x;
  line = 0;
  word = 0;
  count = 0;
  answered = v.answered;
  b = record { 0 = 0 };
  c = record { 0 = 0 };
  d = record { 0 = 0 };
  e = record { 0 = 0 };
}

-- what an accepted set-up found
pub record StationAdmitted (s : StationMemory) (n w r : ℕ) (value : List ℕ) : Type 0 where
  pub n_low : 1 ≤ n
  pub n_high : n ≤ 16
  pub w_low : 1 ≤ w
  pub w_high : w ≤ 64
  pub r_low : 1 ≤ r
  pub r_high : r ≤ 8
  pub words : station_words n w r ≤ length s.words
  pub processes : n ≤ length s.processes
  pub value_length : length value ≡ w

pub station_admits : (s : StationMemory) (n w r : ℕ) (value : List ℕ) → (station_set_up s n w r value).0 ≡ 0 → StationAdmitted s n w r value
unfolding station_set_up station_set_up_refusal
station_admits s n w r value e =
    let h : (i : ℕ) → (get_or (station_set_up_rows s n w r value) i no_row).holds ≡ false = none_holds (station_set_up_rows s n w r value) refl e in
    let a = inside 1 16 n (h 0) in
    let b = inside 1 64 w (h 1) in
    let d = inside 1 8 r (h 2) in
    let f = or_false _ _ (h 3) in
    record {
      n_low =
          a.0;
      n_high = a.1;
      w_low = b.0;
      w_high = b.1;
      r_low = d.0;
      r_high = d.1;
      words = ltb-false _ _ f.0;
      processes = ltb-false _ _ f.1;
      value_length = eqb-true _ _ (not-false _ (h 4));
    }

pub station_memory_lem : (s : StationMemory) (n w r : ℕ) (value : List ℕ) → (station_set_up s n w r value).0 ≡ 0 → (station_set_up s n w r value).1 ≡ station_at_set_up s n w r value
unfolding station_set_up
station_memory_lem s n w r value e = ap (λ b. cond b (station_at_set_up s n w r value) s) (eq-eqb _ 0 e)

skip : (b : Bool) (k l : ℕ) → b ≡ false → cond b k l ≡ l
skip b k l e = ap (λ c. cond c k l) e

on_refl : (b : Bool) {A : Type 0} → A → On b A
on_refl true a = a
on_refl false a = tt

live_refl : (u : Process) → LiveProcess u u
live_refl u = record {
  mybuf = refl;
  x = refl;
  line = refl;
  word = refl;
  count = refl;
  answered = refl;
  b = on_refl (needs_b u.line) refl;
  c = on_refl (needs_c u.line) refl;
  d = on_refl (needs_d u.line) refl;
  e = on_refl (needs_e u.line) refl;
}

module _ (s : StationMemory) (shaped : StationShaped s) (n w r : ℕ) (value : List ℕ) (e : (station_set_up s n w r value).0 ≡ 0) where
  a : StationAdmitted s n w r value
  a = station_admits s n w r value e

  abbrev s' : StationMemory
  s' = station_at_set_up s n w r value

  -- a bench of its own admits it
  pub alone_admits : (j : RecordNumber) → (set_up (lent_alone s j n w) n w value).0 ≡ 0
  unfolding set_up set_up_refusal
  alone_admits j =
      skip _ _ _ (ap not (ap₂ ◌&&◌ (le-leb 1 n a.n_low) (le-leb n 16 a.n_high))) ∙ skip _ _ _ (ap not (ap₂ ◌&&◌ (le-leb 1 w a.w_low) (le-leb w 64 a.w_high)))
      ∙ skip _ _ _ (ap₂ ◌||◌ (le-ltb (length (replicate (5 * n * w) zero)) (5 * n * w) (let x = length-replicate (5 * n * w) zero in omega arith))
      (le-ltb (length (replicate n no_process)) n (let x = length-replicate n no_process in omega arith)))
      ∙ skip _ _ _ (ap not (eq-eqb (length value) w a.value_length))

  pub alone_shaped : (j : RecordNumber) → j.0 < r → Shaped (lent_alone s j n w)
  alone_shaped j hj = let x = a.r_high in record { bank = shaped.bank j.0 (omega arith); help = shaped.help j.0 (omega arith) }

  pub h_w : 0 < halves w
  h_w = let x = a.w_low in omega arith

  module _ (j : RecordNumber) (hj : j.0 < r) where
    abbrev m : Memory
    m = (set_up (lent_alone s j n w) n w value).1

    h : Holds n w h_w 1 m (GhostRuns.setup n (halves w) (cells value))
    h = set_up_holds (lent_alone s j n w) (alone_shaped j hj) n w value (alone_admits j) h_w

    m_is : m ≡ at_set_up (lent_alone s j n w) n w value
    m_is = set_up_memory (lent_alone s j n w) n w value (alone_admits j)

    tables_at_is : tables_at s' j ≡ tables_at_set_up n j.0 (tables_at s j)
    tables_at_is = firsts_at (tables_at_set_up n) 0 r s.tables j.0 no_tables hj (let x = shaped.tables in let y = a.r_high in omega arith)

    process_at_is : (p : ℕ) → p < n → process_at s' p ≡ station_process_at_set_up n r p (process_at s p)
    process_at_is p hp =
        firsts_at (station_process_at_set_up n r) 0 n s.processes p no_station_process hp (let x =
        a.processes in omega arith) ∙ ap (λ k. station_process_at_set_up n r k (process_at s p)) (let z : 0 + p ≡ p = omega arith in z)

    holding_at_is : (p : ℕ) → p < n → holding_at (station_process_at_set_up n r p (process_at s p)) j ≡ holding_at_set_up (sequence_numbers n + p) j.0 no_holding
    holding_at_is p hp =
        firsts_at (holding_at_set_up (sequence_numbers n + p)) 0 r (process_at s p).holdings j.0 no_holding hj (let x =
        shaped.holdings p (let y = a.processes in omega arith) in let y = a.r_high in omega arith)

    seen_process : (p : ℕ) → p < n → process_of j (process_at s' p) ≡ record_at m.records (record { 0 = p })
    seen_process p hp =
        ap (process_of j) (process_at_is p hp)
        ∙ ap holding_only (holding_at_is p hp)
        ∙ sym (h.related.process p hp)

    len : station_words n w r ≤ length s'.words
    len = let x = length-sets s.words 0 (blocks r n w value) in let y = a.words in omega arith

    abbrev given : List ℕ
    given = value ++ replicate (5 * n * w - w) 0

    -- a word of a buffer, in the station and alone
    word : (i k : ℕ) → i < 3 * n → k < w → get_or s'.words ((j.0 * (3 * n) + i) * w + k) 0 ≡ get_or m.words (i * w + k) 0
    word i k hi hk =
        let b = blocks_length n w value a.n_low a.value_length r in let y = a.words in
        let x : suc j.0 * (3 * n * w) ≤ r * (3 * n * w) = mul-le-mul_right (3 * n * w) hj in
        let z : suc i * w ≤ 3 * n * w = mul-le-mul_right w hi in
        ap (λ o. get_or s'.words o 0) (let e : (j.0 * (3 * n) + i) * w + k ≡ j.0 * (3 * n * w) + (i * w + k) = omega arith in e)
        ∙ sets_front (blocks r n w value) s.words (j.0 * (3 * n * w) + (i * w + k)) 0 (omega arith) (omega arith)
        ∙ block n w value a.n_low a.value_length r j.0 (i * w + k) hj (omega arith) ∙ sym (alone (i * w + k) (omega arith))
      where
        alone : (k : ℕ) → k < 3 * n * w → get_or m.words k 0 ≡ get_or value k 0
        alone k hk =
            let z : 1 * w ≤ 5 * n * w = mul-le-mul_right w (let x = a.n_low in omega arith) in
            let g : length given ≡ 5 * n * w =
            length-append value (replicate (5 * n * w - w) 0)
            ∙ ap₂ ◌+◌ a.value_length (length-replicate (5 * n * w - w) 0)
            ∙ (let q : w + (5 * n * w - w) ≡ 5 * n * w = omega arith in q) in
            let f = length-replicate (5 * n * w) zero in
            ap (λ (t : Memory). get_or t.words k 0) m_is ∙ sets_front given (replicate (5 * n * w) 0) k 0 (omega arith) (omega arith) ∙ pad value (5 * n * w - w) k

    seen_words : (p : ℕ) → p < n → WordsFor n w r j p (record_at m.records (record { 0 = p })) s'.words m.words
    seen_words p hp = rw (h.related.process p hp) (record {
      rows = station_rows_lem n r j hj;
      rows' = one_rows_lem n;
      len = len;
      len' = h.related.places.words.len;
      buf = word;
      returned = λ k hk x. absurd (omega arith);
      offered = λ k hk x. absurd (omega arith);
    })

    agrees : Agrees n w r j s' m
    agrees = record {
      x = ap (λ (t : Tables). t.x) tables_at_is ∙ sym (ap (λ (t : Memory). t.bench.x) m_is);
      bank = ap (λ (t : Tables). t.bank) tables_at_is ∙ sym (ap (λ (t : Memory). t.bench.bank) m_is);
      help = ap (λ (t : Tables). t.help) tables_at_is ∙ sym (ap (λ (t : Memory). t.bench.help) m_is);
      process = λ p hp. subst (LiveProcess (process_of j (process_at s' p))) (seen_process p hp) (live_refl (process_of j (process_at s' p)));
      words = seen_words;
    }

  pub set_up_inv : Inv n w r h_w 1 (station_set_up s n w r value).1 (λ j. (set_up (lent_alone s j n w) n w value).1)
  set_up_inv = rw (station_memory_lem s n w r value e) (record {
    n = refl;
    w = refl;
    r = refl;
    tables = let x = firsts_length (tables_at_set_up n) 0 r s.tables in let y = shaped.tables in let z = a.r_high in omega arith;
    holdings = λ p hp. rw (process_at_is (record { 0 = 0 }) a.r_low p hp) (
        let x = firsts_length (holding_at_set_up (sequence_numbers n + p)) 0 r (process_at s p).holdings in
        let u = shaped.holdings p (let y = a.processes in omega arith) in let z = a.r_high in omega arith);
    r_low = a.r_low;
    r_high = a.r_high;
    words = len (record { 0 = 0 }) a.r_low;
    processes = let x = firsts_length (station_process_at_set_up n r) 0 n s.processes in let y = a.processes in omega arith;
    called = λ p hp. rw (process_at_is (record { 0 = 0 }) a.r_low p hp) (ap (λ b. b && true) (lt-ltb 0 r a.r_low));
    bounds = λ p hp. rw (process_at_is (record { 0 = 0 }) a.r_low p hp) (let x = a.n_low in record { b = omega arith; c = omega arith; d = omega arith; e = omega arith });
    each = λ j hj. record { state = _; holds = h j hj };
    agrees = agrees;
  })
