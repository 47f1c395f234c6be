-- Where no row holds, the order can be obeyed on its record.
use mathlib.Core.Path.{◌≡◌, refl, ap, ap₂, subst, ◌∙◌}
use mathlib.Core.List.{List}
use mathlib.Core.Bool.{Bool, true, false, ◌||◌, cond}
use Prim.Native.Nat.{ℕ, ◌+◌, ◌*◌, ◌<◌, ◌≤◌}
use native.Mathlib.Nat.{mul-le-mul_right}
use native.Mathlib.Omega.{arith}
use lib.Dec.{ltb}
use lib.ListN.{length, get_or}
use borrow.Author.Tests.{eq-eqb, ne_eqb, le-ltb}
use Rattle.model.specs.declared.Bench.{Bench}
use Rattle.llsc.specs.declared.Order.{Order}
use Rattle.std.specs.Prelude.{Ok, Err}
use Rattle.model.specs.declared.Moved.{Moved}
use Rattle.model.specs.declared.Process.{Process}
use Rattle.model.specs.Sizes.{buffers}
use Rattle.llsc.specs.Rows.{row1, row2}
use Rattle.model.specs.Refusals.{process_ok}
use Rattle.model.specs.Machine.{obey_in}
use Rattle.model.specs.Words.{Layout}
use Rattle.taken.specs.Ranges.{Ready}
use Rattle.words.specs.declared.layouts.FirstRows.{FirstRows}
use Rattle.words.specs.Layouts.{layout_from}
use Rattle.steps.specs.Layouts.{ObeyableIn, Placed}
use Rattle.rows.proofs.RowLaws.{n_in, InRange, in_range_lem}
use Rattle.station.specs.declared.RecordNumber.{RecordNumber}
use Rattle.station.specs.declared.Station.{Station}
use Rattle.station.specs.declared.StationProcess.{StationProcess}
use Rattle.station.specs.Station.{station_memory, station_words, no_station_process, station_layout}
use Rattle.station.specs.Projection.{process_of}
use Rattle.station.specs.StationRefusals.{StationOrder, record_about, row23, called_ok, station_in_range}
use Rattle.station.specs.StationCommand.{station_refusal}
use Rattle.station_records.specs.TakenOut.{bench_in}
use Rattle.station_rows.specs.StationCommandRows.{station_number}
use Rattle.station_facts.proofs.Accepts.{Accepts, accepts, every_number}
use Rattle.station_facts.proofs.RecordRows.{below_record}
use Rattle.serving.proofs.RefusalFacts.{and_true}
use Rattle.station_machine.specs.declared.Outcome.{Outcome}
use Rattle.station_machine.specs.StationDecision.{Decided, Sizes, RowsOf, obeyed_outcome, obeyed_at, obeyed_on, station_decided}

-- no row holds, and so none does where row 3 counts other process records, enough of them
more_lent : (a b c x y y' : Bool) (rest : ℕ) → cond a 1 (cond b 2 (cond c 23 (cond (x || y) 3 rest))) ≡ 0 → (a ≡ false → y' ≡ false)
    → cond a 1 (cond b 2 (cond c 23 (cond (x || y') 3 rest))) ≡ 0
more_lent true b c x y y' rest e h = e
more_lent false true c x y y' rest e h = e
more_lent false false true x y y' rest e h = e
more_lent false false false true y y' rest e h = e
more_lent false false false false true y' rest e h = let z : ⊥ = omega (arith, e) in absurd z
more_lent false false false false false y' rest e h = rw (h refl) e

module _ (s : Station) (list : List StationProcess) (len p : ℕ) (o : Order) (named : ℕ) (value words : List ℕ) where
  abbrev q : StationProcess
  q = get_or list p no_station_process

  abbrev j : RecordNumber
  j = record_about o named q

  abbrev c : StationOrder
  c = record { process = p; order = o; called = named; value = value }

  abbrev number : ℕ
  number = station_number s list len p o named (length value) (length words)

  -- the gathered records are lent
  admitted : length list ≡ 16 → number ≡ 0 → station_refusal (station_memory s list words) c ≡ 0
  unfolding station_number station_refusal station_in_range
  admitted l e =
      more_lent (row1 s.n).holds (row2 s.w).holds (row23 s.r).holds (ltb (length words) (station_words s.n s.w s.r)) (ltb len s.n) (ltb (length list) s.n) _ e
      (λ h. le-ltb (length list) s.n (omega (arith, (n_in s.n h).1, l)))

  module _ (l : length list ≡ 16) (e : number ≡ 0) where
    abbrev a : Accepts (station_memory s list words) c
    a = accepts (station_memory s list words) c (admitted l e)

    pub process_small : p < 16
    process_small = omega (arith, a.below, a.n_high)

    pub record_small : j.0 < 8
    record_small = omega (arith, a.on, a.r_high)

    pub sizes_small : Sizes s
    sizes_small = record { n_most = a.n_high; w_most = a.w_high; r_most = a.r_high }

    ok : process_ok s.n s.w (process_of j q) ≡ true
    ok = every_number (λ i. process_ok s.n s.w (process_of (record { 0 = i }) q)) s.r j.0 (and_true (called_ok s.r q) _ a.ranges).1 a.on

    range : InRange s.n s.w (process_of j q)
    range = in_range_lem s.n s.w (process_of j q) a.w_high ok

    -- the rows of record j are among the (3R + 2)N that are lent
    placed : {f : FirstRows} → RowsOf s j f → Placed f s.n words
    placed f =
        let T : ℕ = (3 * s.r + 2) * s.n in
        let up : (k : ℕ) → k ≤ T → k * s.w ≤ length words = λ k h. omega (arith, mul-le-mul_right {m = k} {n = T} s.w h, a.words) in
        let below = below_record s.n j.0 s.r a.on in
        record {
          buffers_lent = rw (f.width, f.buffers_at) (up (j.0 * buffers s.n + buffers s.n) (omega (arith, below)));
          returns_lent = rw (f.width, f.returns_at) (up (s.r * buffers s.n + s.n) (omega arith));
          offers_lent = rw (f.width, f.offers_at) (up (s.r * buffers s.n + s.n + s.n) (omega arith));
        }

    pub obeyable : {f : FirstRows} → RowsOf s j f → ObeyableIn f o (record { 0 = p }) value (bench_in s j) (process_of j q) words
    obeyable f =
        let five : 5 * s.n * s.w ≤ station_words s.n s.w s.r = mul-le-mul_right s.w (let z : 1 * s.n ≤ s.r * s.n = mul-le-mul_right s.n a.r_low in omega arith) in
        let ready : Ready s.n s.w (process_of j q) (record { 0 = p }) words = record {
          lent = record { n_some = a.n_low; n_most = a.n_high; w_most = a.w_high; process = a.below; words = omega (arith, five, a.words) };
          mybuf = range.mybuf;
          x_buf = range.x_buf;
          x_seq = range.x_seq;
          b_buf = range.b_buf;
          word = range.word;
          count = range.count;
        } in
        record {
          ready_in = record { ready = rw f.width ready; placed = placed f };
          w_is = f.width;
          value = a.value;
        }

  -- the two answers of a decision
  pub refused_law : (k : ℕ) → k ≡ number → (k ≡ 0 → ⊥) → ◌≡◌ {A = Decided} (Err k, words) (station_decided s list len p o named value words)
  unfolding station_decided
  refused_law k e h = rw e (simp (ne_eqb number 0 (λ z. h (e ∙ z))))

  pub obeyed_law : (out : Moved × List ℕ) → number ≡ 0 → out ≡ obeyed_on s j q p o value words → obeyed_at s j q p out ≡ station_decided s list len p o named value words
  unfolding station_decided
  obeyed_law out e h = ap (obeyed_at s j q p) h ∙ simp (eq-eqb number 0 e)

  -- what the code took out: the process's record, the number of the record that the order is about, its bench, the
  -- process as that has it, and where its words begin
  pub record TakenOut (q' : StationProcess) (i : ℕ) (b : Bench) (u : Process) (f : FirstRows) : Type 0 where
    pub process_is : q' ≡ q
    pub number_is : i ≡ (record_about o named q').0
    pub bench_is : b ≡ bench_in s (record { 0 = i })
    pub seen_is : u ≡ process_of (record { 0 = i }) q'
    pub rows_is : RowsOf s (record { 0 = i }) f

  module _ {q' : StationProcess} {i : ℕ} {b : Bench} {u : Process} {f : FirstRows} (t : TakenOut q' i b u f) where
    record_is : i ≡ j.0
    record_is = t.number_is ∙ ap (λ (x : StationProcess). (record_about o named x).0) t.process_is

    bench_at : b ≡ bench_in s j
    bench_at = t.bench_is ∙ ap (λ (k : ℕ). bench_in s (record { 0 = k })) record_is

    seen_at : u ≡ process_of j q
    seen_at = t.seen_is ∙ ap₂ (λ (k : ℕ) (x : StationProcess). process_of (record { 0 = k }) x) record_is t.process_is

    rows_at : RowsOf s j f
    rows_at = subst (λ (k : ℕ). RowsOf s (record { 0 = k }) f) record_is t.rows_is

    layout_at : layout_from f ≡ station_layout s.n s.r j
    layout_at = rw (rows_at.buffers_at, rows_at.returns_at, rows_at.offers_at) refl

    pub taken_obeyable : length list ≡ 16 → number ≡ 0 → ObeyableIn f o (record { 0 = p }) value b u words
    taken_obeyable l e = rw (bench_at, seen_at) (obeyable l e rows_at)

    pub whole : {m : Moved} {ws : List ℕ} {r : Outcome} → number ≡ 0
        → (m, ws) ≡ obey_in (layout_from f) o (record { 0 = p }) value b u words
        → r ≡ obeyed_outcome s (record { 0 = i }) q' m p
        → ◌≡◌ {A = Decided} (Ok r, ws) (station_decided s list len p o named value words)
    whole {m} {ws} e h g =
        ap (λ (x : Outcome). (Ok x, ws)) g
        ∙ ap₂ (λ (k : ℕ) (x : StationProcess). (Ok (obeyed_outcome s (record { 0 = k }) x m p), ws)) record_is t.process_is
        ∙ obeyed_law (m, ws) e (h ∙ ap (λ (x : Layout). obey_in x o (record { 0 = p }) value b u words) layout_at
        ∙ ap₂ (λ (x : Bench) (y : Process). obey_in (station_layout s.n s.r j) o (record { 0 = p }) value x y words) bench_at seen_at)

-- what follows of an order that no row refuses, told at the rows' number
pub order_small : (s : Station) (list : List StationProcess) (len p : ℕ) (o : Order) (named : ℕ) (value words : List ℕ)
    → length list ≡ 16 → station_number s list len p o named (length value) (length words) ≡ 0
    → (station_number s list len p o named (length value) (length words) ≡ station_number s list len p o named (length value) (length words))
    × ((p < 16) × (((record_about o named (get_or list p no_station_process)).0 < 8) × Sizes s))
order_small s list len p o named value words l e =
    (refl, (process_small s list len p o named value words l e, (record_small s list len p o named value words l e, sizes_small s list len p o named value words l e)))
