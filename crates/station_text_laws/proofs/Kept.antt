-- A station on whose record 0 a text runs: what differs from the memory that was lent is record 0's, and the bench of record
-- 0, put back, is the station.
use mathlib.Core.Path.{◌≡◌, refl, sym, ap, ap₂, subst, ◌∙◌}
use mathlib.Core.Bool.{Bool, true, false, cond}
use mathlib.Core.List.{List}
use Prim.Native.Nat.{ℕ, ◌+◌, ◌≤◌, ◌<◌}
use native.Mathlib.Decide.{ℕ_discrete, dec_lt}
use native.Mathlib.Omega.{arith}
use lib.ListN.{length, get_or, set, length-set}
use lib.Seq.{get_or-set_same, set-set, ext_get_or}
use Rattle.llsc.specs.Rows.{is_start}
use Rattle.laws.proofs.Updates.{Split, same, other, split}
use Rattle.model.specs.declared.Process.{Process}
use Rattle.model.specs.declared.Reply.{Reply}
use Rattle.model.specs.declared.Moved.{Moved}
use Rattle.model.specs.Machine.{Memory}
use Rattle.model.specs.Refusals.{is_idle}
use Rattle.station.specs.declared.RecordNumber.{RecordNumber}
use Rattle.station.specs.declared.Tables.{Tables}
use Rattle.station.specs.declared.Holding.{Holding}
use Rattle.station.specs.declared.StationProcess.{StationProcess}
use Rattle.station.specs.Station.{StationMemory, no_tables, no_station_process, tables_at, process_at}
use Rattle.station.specs.Projection.{process_of, put_tables, put_process, embed}
use Rattle.station.specs.StationRefusals.{StationOrder, StationShaped}
use Rattle.station.specs.StationCommand.{station_refusal, station_command, obeyed_on}
use Rattle.station.specs.StationSetUp.{firsts}
use Rattle.station_facts.proofs.Firsts.{firsts_at, firsts_later, firsts_length}
use Rattle.station_laws.specs.OneRecord.{as_bench}
use Rattle.station_facts.proofs.Accepts.{accepts, obeys, refuses}
use Rattle.station_laws.proofs.PutBack.{process_back, tables_back, process_put, process_other}
use Rattle.station_laws.proofs.OneRecordLaws.{shown, Says, one_record_lem}
use Rattle.station_text_machine.specs.StationText.{record0, put_record, after_run}

-- t is s but for record 0 and the open calls of its processes
pub record Kept (s t : StationMemory) : Type 0 where
  pub some : 1 ≤ t.n
  pub few : t.n ≤ length s.processes
  pub one : t.r ≡ 1
  pub tables : t.tables ≡ set s.tables 0 (tables_at t record0)
  pub many : length t.processes ≡ length s.processes
  pub own : (p : ℕ) → p < t.n → process_at t p ≡ put_process record0 (process_at s p) (process_of record0 (process_at t p))
  pub others : (p : ℕ) → t.n ≤ p → process_at t p ≡ process_at s p

-- either way no record but 0 is called
none_called : (b : Bool) → ◌≡◌ {A = ℕ} (cond b 0 0) 0
none_called true = refl
none_called false = refl

module _ (s t : StationMemory) (k : Kept s t) where
  pub called : (p : ℕ) → p < t.n → (process_at t p).called.0 ≡ 0
  called p h = ap (λ (q : StationProcess). q.called.0) (k.own p h) ∙ none_called (is_idle (process_of record0 (process_at t p)))

  -- record 0's bench, put back
  put_at : (i : ℕ) (q : StationProcess) → put_record (as_bench t) (0 + i) q ≡ put_process record0 q (process_of record0 (process_at t i))
  put_at i q =
      ap (put_process record0 q) (shown t.processes (0 + i))
      ∙ ap (λ (j : ℕ). put_process record0 q (process_of record0 (process_at t j))) (let z : 0 + i ≡ i = omega arith in z)

  processes_are : t.processes ≡ firsts (put_record (as_bench t)) 0 t.n s.processes
  processes_are =
      ext_get_or no_station_process t.processes (firsts (put_record (as_bench t)) 0 t.n s.processes)
      (k.many ∙ sym (firsts_length (put_record (as_bench t)) 0 t.n s.processes)) (λ i h. each i (dec_lt i t.n))
    where
      each : (i : ℕ) → Dec (i < t.n) → process_at t i ≡ get_or (firsts (put_record (as_bench t)) 0 t.n s.processes) i no_station_process
      each i (yes h) =
          k.own i h ∙ sym (put_at i (process_at s i))
          ∙ sym (firsts_at (put_record (as_bench t)) 0 t.n s.processes i no_station_process h (let x = k.few in omega arith))
      each i (no h) = k.others i (omega arith) ∙ sym (firsts_later (put_record (as_bench t)) 0 t.n s.processes i no_station_process (omega arith))

  pub put_back : after_run s (as_bench t) ≡ t
  put_back =
      sym (ap₂ (λ (ts : List Tables) (ps : List StationProcess). record { n = t.n; w = t.w; r = t.r; tables = ts; processes = ps; words = t.words }) k.tables processes_are
      ∙ ap (λ (r : ℕ). record {
        n = t.n;
        w = t.w;
        r = r;
        tables = set s.tables 0 (tables_at t record0);
        processes = firsts (put_record (as_bench t)) 0 t.n s.processes;
        words = t.words;
      }) k.one)

-- put twice, the last stays
put_put : (q : StationProcess) (v u : Process) → put_process record0 (put_process record0 q v) u ≡ put_process record0 q u
put_put q v u =
    ap (λ (hs : List Holding). record {
      holdings = hs;
      called = record { 0 = cond (is_idle u) 0 0 };
      line = u.line;
      word = u.word;
      count = u.count;
      b = u.b;
      c = u.c;
      d = u.d;
      e = u.e;
    }) (set-set q.holdings 0 _ _)

module _ (s : StationMemory) (shaped : StationShaped s) where
  holds : (p : ℕ) → p < length s.processes → 0 < length (process_at s p).holdings
  holds p h = let x = shaped.holdings p h in omega arith

  -- what is put back shows itself
  kept_put : (q : StationProcess) (p : ℕ) (u : Process) → p < length s.processes → q ≡ put_process record0 (process_at s p) u
      → q ≡ put_process record0 (process_at s p) (process_of record0 q)
  kept_put q p u h e =
      e ∙ ap (put_process record0 (process_at s p)) (sym (ap (process_of record0) e ∙ process_back record0 (process_at s p) u (holds p h)))

  -- a bench put back on record 0
  pub kept_after : (m : Memory) → 1 ≤ m.bench.n → m.bench.n ≤ length s.processes → Kept s (after_run s m)
  kept_after m low few = record {
    some = low;
    few = few;
    one = refl;
    tables = ap (set s.tables 0) (sym (get_or-set_same s.tables 0 (put_tables m.bench) no_tables (let x = shaped.tables in omega arith)));
    many = firsts_length (put_record m) 0 m.bench.n s.processes;
    own = λ p h. let l : p < length s.processes = omega arith in
        kept_put _ p _ l (firsts_at (put_record m) 0 m.bench.n s.processes p no_station_process h l);
    others = λ p h. firsts_later (put_record m) 0 m.bench.n s.processes p no_station_process h;
  }

  module _ (t : StationMemory) (k : Kept s t) where
    tables_lent : 0 < length t.tables
    tables_lent = let x = shaped.tables in let y = ap (λ (ts : List Tables). length ts) k.tables in
        let z = length-set s.tables 0 (tables_at t record0) in omega arith

    -- what an accepted command on record 0 leaves
    kept_embed : (p : ℕ) → p < t.n → (out : Moved × List ℕ) → Kept s (embed t record0 p out).1
    kept_embed p hp out = record {
      some = k.some;
      few = k.few;
      one = k.one;
      tables =
          ap (λ (ts : List Tables). set ts 0 (put_tables out.0.bench)) k.tables ∙ set-set s.tables 0 _ _
          ∙ ap (set s.tables 0) (sym (tables_back t record0 p out tables_lent));
      many = length-set t.processes p _ ∙ k.many;
      own = λ q h. own_at q h (split q p);
      others = λ q h. process_other t record0 p out q (λ e. omega arith) ∙ k.others q h;
    }
      where
        t' : StationMemory
        t' = (embed t record0 p out).1

        own_at : (q : ℕ) → q < t.n → Split q p → process_at t' q ≡ put_process record0 (process_at s q) (process_of record0 (process_at t' q))
        own_at q h (same e) =
            subst (λ (i : ℕ). process_at t' i ≡ put_process record0 (process_at s i) (process_of record0 (process_at t' i))) (sym e)
            (let few = k.few in let many = k.many in
            kept_put _ p out.0.process (omega arith)
            (process_put t record0 p out (omega arith) ∙ ap (λ (z : StationProcess). put_process record0 z out.0.process) (k.own p hp)
            ∙ put_put (process_at s p) (process_of record0 (process_at t p)) out.0.process))
        own_at q h (other n) =
            let e = process_other t record0 p out q n in
            e ∙ k.own q h ∙ ap (λ (z : StationProcess). put_process record0 (process_at s q) (process_of record0 z)) (sym e)

    module _ (c : StationOrder) (zero_called : c.called ≡ 0) where
      -- a start names record 0, and the open call is on it
      about : (b : Bool) (i j : ℕ) → i ≡ 0 → j ≡ 0 → ◌≡◌ {A = RecordNumber} (record { 0 = cond b i j }) record0
      about true i j e f = ap (λ (x : ℕ). record { 0 = x }) e
      about false i j e f = ap (λ (x : ℕ). record { 0 = x }) f

      pub kept_command : Kept s (station_command t c).1
      kept_command = go (ℕ_discrete (station_refusal t c) 0)
        where
          go : Dec (station_refusal t c ≡ 0) → Kept s (station_command t c).1
          go (no n) = subst (λ (o : Reply × StationMemory). Kept s o.1) (sym (refuses t c n)) k
          go (yes e) =
              let hp = (accepts t c e).below in
              let j = about (is_start c.order) c.called (process_at t c.process).called.0 zero_called (called s t k c.process hp) in
              subst (λ (o : Reply × StationMemory). Kept s o.1)
              (sym (obeys t c e ∙ ap (λ (i : RecordNumber). embed t i c.process (obeyed_on t i c)) j))
              (kept_embed c.process hp (obeyed_on t record0 c))

      -- it is the command of record 0's bench
      pub says : Says t c
      says = one_record_lem t k.one (called s t k) tables_lent c zero_called
          (λ hp _. let few = k.few in
          let e : length (process_at t c.process).holdings ≡ length (process_at s c.process).holdings
          = ap (λ (q : StationProcess). length q.holdings) (k.own c.process hp) ∙ length-set (process_at s c.process).holdings 0 _ in
          let h = holds c.process (omega arith) in omega (arith, e, h))
