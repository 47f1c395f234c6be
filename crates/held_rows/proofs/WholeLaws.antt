-- Row 9 over the numbers of a list is row 9 of the memory that it stands for.
use mathlib.Core.Path.{◌≡◌, refl, sym, ap, ap₂, subst, ◌∙◌}
use mathlib.Core.List.{List}
use mathlib.Core.Bool.{Bool, true, false, cond, not, ◌&&◌, ◌||◌}
use Prim.Native.Nat.{ℕ, zero, suc, ◌+◌, ◌<◌, ◌≤◌}
use native.Mathlib.Omega.{arith}
use lib.Dec.{eqb, ltb}
use borrow.Author.Tests.{ltb-true, lt-ltb, eq-eqb, eqb-true}
use Rattle.llsc.specs.Rows.{every}
use Rattle.model.specs.SetUp.{numbers}
use Rattle.model.specs.Sizes.{buffers, sequence_numbers, halves}
use Rattle.model.specs.Refusals.{x_place_ok, bank_place_ok, help_place_ok, process_ok, bench_ok}
use Rattle.station.specs.Projection.{bench_of, process_of}
use Rattle.station.specs.StationRefusals.{called_ok, station_process_ok, station_in_range}
use Rattle.serving.proofs.RefusalFacts.{and_true}
use Rattle.station_facts.proofs.Accepts.{every_number}
use Rattle.held_model.specs.Layout.{call_place, record_place, bank_place, help_place, holding_place}
use Rattle.held_model.specs.Memory.{number_at, x_from, bank_from, help_from, process_in, memory_of}
use Rattle.held_model.proofs.TabLaws.{tab_every, every_same}
use Rattle.held_rows.specs.Reads.{away, seen_from}
use Rattle.held_rows.specs.ListRows.{LentList}
use Rattle.held_rows.specs.WholeRows.{bench_from_ok, holding_from_ok, record_from_ok, stage_ok, call_from_ok, list_in_range}
use Rattle.held_rows.proofs.NearRowLaws.{bench_there, seen_there}

-- two tests that pass where the other does
both_ways : (a b : Bool) → (a ≡ true → b ≡ true) → (b ≡ true → a ≡ true) → a ≡ b
both_ways true b f g = sym (f refl)
both_ways false true f g = g refl
both_ways false false f g = refl

every_passes : (f : ℕ → Bool) (r : ℕ) → ((j : ℕ) → j < r → f j ≡ true) → every f (numbers 0 r) ≡ true
every_passes f r h = go 0 r (λ i k. h i (omega arith))
  where
    go : (a n : ℕ) → ((i : ℕ) → i < a + n → f i ≡ true) → every f (numbers a n) ≡ true
    go a zero e = refl
    go a (suc n) e = ap₂ ◌&&◌ (e a (omega arith)) (go (suc a) n (λ i k. e i (omega arith)))

-- the open call's record is below R, and 0 when idle: a bound for each of the two
bound_called : (t : Bool) (k r : ℕ) → 1 ≤ r → ltb k (cond t 1 r) ≡ true → ltb k r && (not t || eqb k 0) ≡ true
bound_called true k r some e =
    let h : k < 1 = ltb-true k 1 e in
    let y : ltb k r ≡ true = lt-ltb k r (omega (arith, h, some)) in
    let z : eqb k 0 ≡ true = eq-eqb k 0 (omega (arith, h)) in
    ap₂ ◌&&◌ y z
bound_called false k r some e = ap (λ (s : Bool). s && true) e

called_bound : (t : Bool) (k r : ℕ) → ltb k r && (not t || eqb k 0) ≡ true → ltb k (cond t 1 r) ≡ true
called_bound true k r e =
    let h : k ≡ 0 = eqb-true k 0 (and_true (ltb k r) _ e).1 in
    lt-ltb k 1 (omega (arith, h))
called_bound false k r e = (and_true (ltb k r) _ e).0

-- elsewhere a process is idle, at word place 0 and with count 0, which is in range
stage_away : (t : Bool) (w line word count : ℕ) → 1 ≤ w → stage_ok w line word count ≡ true
    → stage_ok w (cond t 0 line) (cond t 0 word) (cond t 0 count) ≡ true
stage_away true w line word count some e =
    let h : ltb 0 (halves w) ≡ true = lt-ltb 0 (halves w) (omega (arith, some)) in
    ap (λ (s : Bool). s && true) h
stage_away false w line word count some e = e

and_not : (a b : Bool) → b ≡ true → a && not b ≡ false
and_not true b e = ap not e
and_not false b e = refl

module _ (l : List ℕ) (a : LentList l) where
  abbrev n : ℕ
  n = number_at l 0

  abbrev w : ℕ
  w = number_at l 1

  abbrev r : ℕ
  r = number_at l 2

  bench_is : (j : ℕ) → j < r → bench_from_ok l n j ≡ bench_ok (bench_of (memory_of l) (record { 0 = j }))
  bench_is j h =
      ap₂ (λ (s t : Bool). x_place_ok n (x_from l (record_place j)) && (s && t))
      (sym (tab_every (bank_place_ok n) (λ i. bank_from l (bank_place j i)) (sequence_numbers n) 32 (omega (arith, a.n_high))))
      (sym (tab_every (help_place_ok n) (λ p. help_from l (help_place j p)) n 16 a.n_high))
      ∙ ap bench_ok (sym (bench_there l j h (omega (arith, h, a.r_high))))

  -- a process as each of the R records' benches has it
  abbrev process_from_ok : ℕ → Bool
  process_from_ok p = called_ok r (process_in r l p) && every (λ j. process_ok n w (seen_from l j p)) (numbers 0 r)

  process_is : (p : ℕ) → p < n → process_from_ok p ≡ station_process_ok n w r (process_in r l p)
  process_is p h =
      ap (λ (t : Bool). called_ok r (process_in r l p) && t)
      (every_same (λ j. process_ok n w (seen_from l j p)) (λ j. process_ok n w (process_of (record { 0 = j }) (process_in r l p))) r
      (λ j b. ap (process_ok n w) (sym (seen_there l j p b (omega (arith, b, a.r_high))))))

  -- it is in range where its own numbers and what it holds of each record are
  module _ (p : ℕ) where
    abbrev k : ℕ
    k = call_place p

    abbrev b : ℕ → Bool
    b i = ltb (number_at l (k + i)) (buffers n)

    abbrev stage : Bool → Bool
    stage t = stage_ok w (cond t 0 (number_at l k)) (cond t 0 (number_at l (k + 1))) (cond t 0 (number_at l (k + 2)))

    abbrev own : Bool → Bool
    own t = b 4 && (b 5 && (b 6 && (b 7 && stage t)))

    -- what process p holds of record j
    abbrev mybuf : ℕ → Bool
    mybuf j = ltb (number_at l (holding_place j p)) (buffers n)

    abbrev x : ℕ → Bool
    x j = ltb (number_at l (holding_place j p + 1)) (buffers n) && ltb (number_at l (holding_place j p + 2)) (sequence_numbers n)

    seen_is : (j : ℕ) → process_ok n w (seen_from l j p) ≡ mybuf j && (x j && own (away l j p))
    seen_is j = refl

    own_away : (t : Bool) → own false ≡ true → own t ≡ true
    own_away t e =
        let b4 = and_true (b 4) _ e in
        let b5 = and_true (b 5) _ b4.1 in
        let b6 = and_true (b 6) _ b5.1 in
        let b7 = and_true (b 7) _ b6.1 in
        ap₂ ◌&&◌ b4.0 (ap₂ ◌&&◌ b5.0 (ap₂ ◌&&◌ b6.0 (ap₂ ◌&&◌ b7.0 (stage_away t w (number_at l k) (number_at l (k + 1)) (number_at l (k + 2)) a.w_low b7.1))))

    own_here : (t : Bool) → t ≡ false → own t ≡ true → own false ≡ true
    own_here t z e = subst (λ (s : Bool). own s ≡ true) z e

    -- from its own numbers
    process_from : call_from_ok l n w r k ≡ true → ((j : ℕ) → j < r → holding_from_ok l n (holding_place j p) ≡ true) → process_from_ok p ≡ true
    process_from e h =
        let c = and_true (ltb (number_at l (k + 3)) (cond (eqb (number_at l k) 0) 1 r)) _ e in
        ap₂ ◌&&◌ (bound_called (eqb (number_at l k) 0) (number_at l (k + 3)) r a.r_low c.0)
        (every_passes (λ j. process_ok n w (seen_from l j p)) r (λ j m.
        let y = and_true (mybuf j) (x j) (h j m) in
        ap₂ ◌&&◌ y.0 (ap₂ ◌&&◌ y.1 (own_away (away l j p) c.1))))

    -- and to them: on the record of its open call it is not elsewhere
    process_to : process_from_ok p ≡ true → (call_from_ok l n w r k ≡ true) × ((j : ℕ) → j < r → holding_from_ok l n (holding_place j p) ≡ true)
    process_to e =
        let j = number_at l (k + 3) in
        let c = and_true (called_ok r (process_in r l p)) _ e in
        let m : j < r = ltb-true j r (and_true (ltb j r) _ c.0).0 in
        let seen : (i : ℕ) → i < r → mybuf i && (x i && own (away l i p)) ≡ true = λ i h. every_number (λ i. process_ok n w (seen_from l i p)) r i c.1 h in
        let here = own_here (away l j p) (and_not (not (eqb (number_at l k) 0)) (eqb j j) (eq-eqb j j refl)) (and_true (x j) _ (and_true (mybuf j) _ (seen j m)).1).1 in (
          ap₂ ◌&&◌ (called_bound (eqb (number_at l k) 0) j r c.0) here,
          λ i h.
              let y = and_true (mybuf i) _ (seen i h) in
              ap₂ ◌&&◌ y.0 (and_true (x i) _ y.1).0,
        )

  -- record by record, and then call by call
  by_process : list_in_range l n w r ≡ every (bench_from_ok l n) (numbers 0 r) && every process_from_ok (numbers 0 n)
  by_process =
      both_ways _ _
      (λ e.
      let h = and_true (every (record_from_ok l n) (numbers 0 r)) _ e in
      let rec : (j : ℕ) → j < r → record_from_ok l n j ≡ true = λ j m. every_number (record_from_ok l n) r j h.0 m in
      ap₂ ◌&&◌ (every_passes (bench_from_ok l n) r (λ j m. (and_true (bench_from_ok l n j) _ (rec j m)).0))
      (every_passes process_from_ok n (λ p b.
      process_from p (every_number (λ i. call_from_ok l n w r (call_place i)) n p h.1 b)
      (λ j m. every_number (λ i. holding_from_ok l n (holding_place j i)) n p (and_true (bench_from_ok l n j) _ (rec j m)).1 b))))
      (λ e.
      let h = and_true (every (bench_from_ok l n) (numbers 0 r)) _ e in
      let pro = λ (p : ℕ) (b : p < n). process_to p (every_number process_from_ok n p h.1 b) in
      ap₂ ◌&&◌ (every_passes (record_from_ok l n) r (λ j m.
      ap₂ ◌&&◌ (every_number (bench_from_ok l n) r j h.0 m) (every_passes (λ p. holding_from_ok l n (holding_place j p)) n (λ p b. (pro p b).1 j m))))
      (every_passes (λ p. call_from_ok l n w r (call_place p)) n (λ p b. (pro p b).0)))

  whole : list_in_range l n w r ≡ station_in_range (memory_of l)
  unfolding station_in_range
  whole =
      by_process
      ∙ ap₂ ◌&&◌ (every_same (bench_from_ok l n) (λ j. bench_ok (bench_of (memory_of l) (record { 0 = j }))) r bench_is)
      (every_same process_from_ok (λ p. station_process_ok n w r (process_in r l p)) n process_is
      ∙ sym (tab_every (station_process_ok n w r) (process_in r l) n 16 a.n_high))

  pub in_range_there : {x y z : ℕ} {t : Bool} → x ≡ n → y ≡ w → z ≡ r → t ≡ list_in_range l x y z → t ≡ station_in_range (memory_of l)
  in_range_there e f g h = rw (e, f, g) at h ∙ whole

  passed : station_in_range (memory_of l) ≡ true → every (bench_from_ok l n) (numbers 0 r) && every process_from_ok (numbers 0 n) ≡ true
  passed e = sym by_process ∙ (whole ∙ e)

  -- what it says of each place
  pub bench_in_range : station_in_range (memory_of l) ≡ true → (j : ℕ) → j < r → bench_from_ok l n j ≡ true
  bench_in_range e j h = every_number (bench_from_ok l n) r j (and_true (every (bench_from_ok l n) (numbers 0 r)) _ (passed e)).0 h

  pub process_in_range : station_in_range (memory_of l) ≡ true → (j p : ℕ) → j < r → p < n → process_ok n w (seen_from l j p) ≡ true
  process_in_range e j p h b =
      every_number (λ i. process_ok n w (seen_from l i p)) r j (and_true (called_ok r (process_in r l p)) _
      (every_number process_from_ok n p (and_true (every (bench_from_ok l n) (numbers 0 r)) _ (passed e)).1 b)).1 h
