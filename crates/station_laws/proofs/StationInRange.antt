-- Row 9 never holds after a set-up, nor do rows 1, 2, 23 and 3.
use mathlib.Core.Path.{◌≡◌, sym, ap, ap₂, subst, ◌∙◌}
use mathlib.Core.Bool.{Bool, true, false, not, ◌&&◌, ◌||◌, cond}
use mathlib.Core.List.{List}
use Prim.Native.Nat.{ℕ, ◌+◌, ◌<◌}
use native.Mathlib.Omega.{arith}
use lib.Dec.{T, eqb, ltb, leb}
use borrow.Author.Tests.{lt-ltb, le-leb, le-ltb}
use lib.ListN.{length, take}
use lib.Seq.{get_or-take, length-take-le}
use Rattle.model.specs.Places.{XPlace, BankPlace, HelpPlace}
use Rattle.model.specs.declared.Process.{Process}
use Rattle.model.specs.Sizes.{halves}
use Rattle.model.specs.Machine.{Memory}
use Rattle.model.specs.Records.{record_at, no_process}
use Rattle.llsc.specs.Rows.{every, is_start, needs_ll, brings_value}
use Rattle.model.specs.Refusals.{bench_ok, process_ok, buffer_ok, x_ok, line_ok, count_ok, in_range}
use Rattle.model.specs.SetUp.{numbers}
use Rattle.laws.proofs.Updates.{by_test}
use Rattle.serving.proofs.RefusalFacts.{and_true}
use Rattle.laws.proofs.ListFacts.{every_true}
use Rattle.linearization.proofs.ListFacts.{numbers_length, numbers_at}
use Rattle.linearization.proofs.Relation.{record_of}
use Rattle.linearization.proofs.InRange.{counts_in}
use Rattle.linearization.proofs.InRange
use Rattle.station.specs.declared.RecordNumber.{RecordNumber}
use Rattle.station.specs.Station.{StationMemory, station_words, no_station_process, tables_at, process_at, holding_at}
use Rattle.station.specs.Projection.{bench_of, process_of, at_rest}
use Rattle.station.specs.StationRefusals.{StationOrder, record_for, station_in_range, station_process_ok}
use Rattle.station.specs.StationCommand.{station_refusal}
use Rattle.station_laws.specs.StationOwnDoing.{NotLentStation}
use Rattle.station_laws.proofs.Live.{LiveProcess}
use Rattle.station_facts.proofs.Accepts.{every_at}
use Rattle.station_laws.proofs.Agrees.{shape}
use Rattle.station_laws.proofs.StationRuns.{Inv}

every_numbers : (f : ℕ → Bool) (r : ℕ) → ((j : ℕ) → j < r → f j ≡ true) → every f (numbers 0 r) ≡ true
every_numbers f r h =
    every_true f 0 (numbers 0 r) (λ i hi.
    let l = numbers_length 0 r in let k : i < r = omega arith in
    subst (λ n. f n ≡ true) (sym (numbers_at 0 r i k ∙ (let z : 0 + i ≡ i = omega arith in z))) (h i k))

-- a conjunction with four other parts
exchange : (a x b c d e r b' c' d' e' : Bool) → a && (x && (b && (c && (d && (e && r))))) ≡ true → b' ≡ true → c' ≡ true
    → d' ≡ true → e' ≡ true → a && (x && (b' && (c' && (d' && (e' && r))))) ≡ true
exchange a x b c d e r b' c' d' e' h hb hc hd he =
    let h1 = and_true a _ h in let h2 = and_true x _ h1.1 in let h3 = and_true b _ h2.1 in let h4 = and_true c _ h3.1 in let h5 = and_true d _ h4.1 in let h6 = and_true e _ h5.1 in
    ap₂ ◌&&◌ h1.0 (ap₂ ◌&&◌ h2.0 (ap₂ ◌&&◌ hb (ap₂ ◌&&◌ hc (ap₂ ◌&&◌ hd (ap₂ ◌&&◌ he h6.1)))))

skip : (b : Bool) (k l : ℕ) → b ≡ false → cond b k l ≡ l
skip b k l e = ap (λ c. cond c k l) e

-- rows 4, 24, 8, 5, 6 and 7, from their tests
late_sound : (a b c d e f : Bool) → NotLentStation (cond a 4 (cond b 24 (cond c 8 (cond d 5 (cond e 6 (cond f 7 0))))))
late_sound a b c d e f =
    by_test NotLentStation a (λ _. is 4 tt) (λ _. by_test NotLentStation b (λ _. is 24 tt) (λ _.
    by_test NotLentStation c (λ _. is 8 tt) (λ _. by_test NotLentStation d (λ _. is 5 tt) (λ _.
    by_test NotLentStation e (λ _. is 6 tt) (λ _. by_test NotLentStation f (λ _. is 7 tt) (λ _. is 0 tt))))))
  where
    is : (k : ℕ) → T (not (eqb k 1 || (eqb k 2 || (eqb k 3 || (eqb k 9 || eqb k 23))))) → NotLentStation k
    is k h = record { not_1 = λ e. no 1 e h; not_2 = λ e. no 2 e h; not_23 = λ e. no 23 e h; not_3 = λ e. no 3 e h; not_9 = λ e. no 9 e h }
      where
        no : (j : ℕ) → k ≡ j → T (not (eqb k 1 || (eqb k 2 || (eqb k 3 || (eqb k 9 || eqb k 23))))) → T (not (eqb j 1 || (eqb j 2 || (eqb j 3 || (eqb j 9 || eqb j 23)))))
        no j e h = rw e at h

module _ (N W R : ℕ) (h_w : 0 < halves W) (k : ℕ) (s : StationMemory) (ms : RecordNumber → Memory) (v : Inv N W R h_w k s ms) where
  -- the bench of its own is in range
  alone : (j : RecordNumber) → j.0 < R → in_range (ms j) ≡ true
  alone j hj = let a = v.each j hj in InRange.in_range_lem N W (ms j) a.state a.holds.related a.holds.range (counts_in N W h_w k a.state a.holds.inv a.holds.count)

  alone_bench : (j : RecordNumber) → j.0 < R → bench_ok (ms j).bench ≡ true
  unfolding in_range
  alone_bench j hj = (and_true (bench_ok (ms j).bench) _ (alone j hj)).0

  alone_process : (j : RecordNumber) (p : ℕ) → j.0 < R → p < N → process_ok N W (record_at (ms j).records (record { 0 = p })) ≡ true
  unfolding in_range
  alone_process j p hj hp =
      let r = (v.each j hj).holds.related in
      let t : every (process_ok N W) (take N (ms j).records) ≡ true = rw (r.n, r.w) at (and_true (bench_ok (ms j).bench) _ (alone j hj)).1 in
      let l = length-take-le N (ms j).records r.records_length in
      subst (λ (q : Process). process_ok N W q ≡ true) (get_or-take N (ms j).records p no_process hp) (every_at (process_ok N W) no_process (take N (ms j).records) p t (omega arith))

  -- so are its tables in the station, and its view of each process
  bench_ok_is : (j : RecordNumber) → j.0 < R → bench_ok (bench_of s j) ≡ true
  bench_ok_is j hj =
      let g = v.agrees j hj in let r = (v.each j hj).holds.related in
      let e : bench_of s j ≡ (ms j).bench =
      ap₂ (λ (a b : ℕ). record { n = a; w = b; x = (tables_at s j).x; bank = (tables_at s j).bank; help = (tables_at s j).help }) (v.n ∙ sym r.n) (v.w ∙ sym r.w)
      ∙ ap₂ (λ (a : XPlace) (b : List BankPlace). record { n = (ms j).bench.n; w = (ms j).bench.w; x = a; bank = b; help = (tables_at s j).help }) g.x g.bank
      ∙ ap (λ (a : List HelpPlace). record { n = (ms j).bench.n; w = (ms j).bench.w; x = (ms j).bench.x; bank = (ms j).bench.bank; help = a }) g.help in
      ap bench_ok e ∙ alone_bench j hj

  process_ok_is : (j : RecordNumber) (p : ℕ) → j.0 < R → p < N → process_ok N W (process_of j (process_at s p)) ≡ true
  process_ok_is j p hj hp =
      let r = (v.each j hj).holds.related in let z = (v.each j hj).state in let f = z.loc p in let b = v.bounds p hp in let q = process_at s p in
      let l : LiveProcess (process_of j (process_at s p)) (record_of (z.loc p)) = subst (LiveProcess (process_of j (process_at s p))) (r.process p hp) ((v.agrees j hj).process p hp) in
      let u : process_ok N W (record_of (z.loc p)) ≡ true = subst (λ (q : Process). process_ok N W q ≡ true) (r.process p hp) (alone_process j p hj hp) in
      ap (process_ok N W) (shape (process_of j (process_at s p)) (z.loc p) l)
      ∙ exchange (buffer_ok N (record_of (z.loc p)).mybuf) (x_ok N (record_of (z.loc p)).x) (buffer_ok N (record_of (z.loc p)).b) (buffer_ok N (record_of (z.loc p)).c)
      (buffer_ok N (record_of (z.loc p)).d) (buffer_ok N (record_of (z.loc p)).e)
      (line_ok (record_of (z.loc p)) && (ltb (z.loc p).word (halves W) && count_ok W (record_of (z.loc p))))
      (buffer_ok N (process_at s p).b) (buffer_ok N (process_at s p).c) (buffer_ok N (process_at s p).d) (buffer_ok N (process_at s p).e) u (lt-ltb _ _ b.b) (lt-ltb _ _ b.c)
      (lt-ltb _ _ b.d) (lt-ltb _ _ b.e)

  pub station_in_range_is : station_in_range s ≡ true
  unfolding station_in_range
  station_in_range_is = ap₂ ◌&&◌ benches (rw (v.n, v.w, v.r) processes)
    where
      benches : every (λ j. bench_ok (bench_of s (record { 0 = j }))) (numbers 0 s.r) ≡ true
      benches = every_numbers (λ j. bench_ok (bench_of s (record { 0 = j }))) s.r
          (λ j hj. bench_ok_is (record { 0 = j }) (let x = v.r in omega arith))

      processes : every (station_process_ok N W R) (take N s.processes) ≡ true
      processes = every_true (station_process_ok N W R) no_station_process (take N s.processes) (λ p hp.
          let l = length-take-le N s.processes v.processes in let h : p < N = omega arith in
          let on : ℕ → Bool = λ j. process_ok N W (process_of (record { 0 = j }) (process_at s p)) in
          rw (get_or-take N s.processes p no_station_process h) (ap₂ ◌&&◌ (v.called p h) (every_numbers on R (λ j hj. process_ok_is (record { 0 = j }) p hj h))))

  pub station_sound : (c : StationOrder) → NotLentStation (station_refusal s c)
  unfolding station_refusal
  station_sound c =
      let sz = (v.each (record { 0 = 0 }) v.r_low).holds.related.sizes in
      subst NotLentStation (sym
      (skip _ _ _ (ap not (ap₂ ◌&&◌ (le-leb 1 s.n (let x = v.n in let y = sz.n_low in omega arith)) (le-leb s.n 16 (let x = v.n in let y = sz.n_high in omega arith))))
      ∙ skip _ _ _ (ap not (ap₂ ◌&&◌ (le-leb 1 s.w (let x = v.w in let y = sz.w_low in omega arith)) (le-leb s.w 64 (let x = v.w in let y = sz.w_high in omega arith))))
      ∙ skip _ _ _ (ap not (ap₂ ◌&&◌ (le-leb 1 s.r (let x = v.r in let y = v.r_low in omega arith)) (le-leb s.r 8 (let x = v.r in let y = v.r_high in omega arith))))
      ∙ skip _ _ _ (ap₂ ◌||◌ (le-ltb (length s.words) (station_words s.n s.w s.r) (rw (v.n, v.w, v.r) v.words))
      (le-ltb (length s.processes) s.n (let x = v.n in let y = v.processes in omega arith)))
      ∙ skip _ _ _ (ap not station_in_range_is)))
      (late_sound (leb s.n c.process) (is_start c.order && leb s.r c.called) (brings_value c.order && not (eqb (length c.value) s.w))
      (is_start c.order && not (at_rest (process_at s c.process))) (not (is_start c.order) && at_rest (process_at s c.process))
      (needs_ll c.order && not (holding_at (process_at s c.process) (record_for s c)).answered))
