-- A station of one record is the bench as it was.
use mathlib.Core.Path.{◌≡◌, refl, sym, ap, ap₂, subst, fun_ext, ◌∙◌}
use mathlib.Core.Bool.{Bool, true, false, not, ◌&&◌, ◌||◌, cond}
use mathlib.Core.List.{List, [], ◌∷◌, map}
use Prim.Native.Nat.{ℕ, zero, suc, ◌+◌, ◌*◌, ◌<◌}
use native.Mathlib.Decide.{ℕ_discrete}
use native.Mathlib.Omega.{arith}
use lib.Dec.{eqb, ltb, leb}
use borrow.Author.Tests.{eq-eqb, ne_eqb, leb-false}
use lib.ListN.{length, get_or, set, take, length-map}
use Rattle.llsc.specs.declared.ProcessNumber.{ProcessNumber}
use Rattle.model.specs.declared.Bench.{Bench}
use Rattle.model.specs.declared.Process.{Process}
use Rattle.llsc.specs.declared.Order.{Order}
use Rattle.llsc.specs.declared.Order.TheVariants.{StartLl, StartSc, StartVl, Step}
use Rattle.model.specs.declared.Reply.{Reply}
use Rattle.model.specs.declared.Reply.TheVariants.{Refused}
use Rattle.model.specs.declared.Moved.{Moved}
use Rattle.model.specs.Sizes.{buffers}
use Rattle.model.specs.Words.{Layout, one_record}
use Rattle.model.specs.Points.{Point, point_of, idle, line1, line2, line3, line4, line5, line6, line7, line7copy, line8, line9}
use Rattle.model.specs.Points.{line10, line11, line12, line12valid, line13, line14, line14valid, line15, line17, line18, line19, line23}
use Rattle.model.specs.Records.{record_at, no_process}
use Rattle.model.specs.Machine.{Memory, stepped_in, obey_in, obey}
use Rattle.llsc.specs.Rows.{every, row1, row2, row8, is_start, needs_ll}
use Rattle.model.specs.Refusals.{is_idle, bench_ok, process_ok, in_range}
use Rattle.model.specs.Command.{command, refusal, stored_back, obeyed}
use Rattle.station.specs.declared.RecordNumber.{RecordNumber}
use Rattle.station.specs.declared.StationProcess.{StationProcess}
use Rattle.station.specs.declared.Tables.{Tables}
use Rattle.station.specs.Station.{StationMemory, no_station_process, process_at, holding_at, station_layout}
use Rattle.station.specs.Projection.{bench_of, process_of, at_rest, elsewhere, embed, put_process}
use Rattle.station.specs.StationRefusals.{StationOrder, record_for, station_in_range, station_process_ok, called_ok}
use Rattle.station.specs.StationCommand.{station_refusal, station_command, obeyed_on}
use Rattle.station_laws.specs.OneRecord.{as_bench, OneRecordCommand}
use Rattle.station_facts.proofs.Accepts.{accepts, obeys, refuses}
use Rattle.station_laws.proofs.PutBack.{process_back, tables_back}

abbrev pub only : RecordNumber
only = record { 0 = 0 }

-- the one record's words lie as a bench's
pub one_layout : (n : ℕ) → station_layout n 1 only ≡ one_record n
one_layout n =
    let b : ◌≡◌ {A = ℕ → ℕ} (λ i. 0 * buffers n + i) (λ i. i) = fun_ext (λ i. omega arith) in
    let r : 1 * buffers n ≡ buffers n = omega arith in
    let o : 1 * buffers n + n ≡ 4 * n = omega arith in
    ap (λ (f : ℕ → ℕ). record { buffer = f; returns = 1 * buffers n; offers = 1 * buffers n + n }) b
    ∙ ap₂ (λ (i j : ℕ). record { buffer = λ b. b; returns = i; offers = j }) r o

-- an order keeps N and W
module _ (l : Layout) (p : ProcessNumber) (b : Bench) (q : Process) (ws : List ℕ) where
  step_sizes : (y : Point) → ((stepped_in l y p b q ws).0.bench.n ≡ b.n) × ((stepped_in l y p b q ws).0.bench.w ≡ b.w)
  step_sizes idle = (refl, refl)
  step_sizes line1 = (refl, refl)
  step_sizes line2 = (refl, refl)
  step_sizes line3 = (refl, refl)
  step_sizes line4 = (refl, refl)
  step_sizes line5 = (refl, refl)
  step_sizes line6 = (refl, refl)
  step_sizes line7 = (refl, refl)
  step_sizes line7copy = (refl, refl)
  step_sizes line8 = (refl, refl)
  step_sizes line9 = (refl, refl)
  step_sizes line10 = (refl, refl)
  step_sizes line11 = (refl, refl)
  step_sizes line12 = (refl, refl)
  step_sizes line12valid = (refl, refl)
  step_sizes line13 = (refl, refl)
  step_sizes line14 = (refl, refl)
  step_sizes line14valid = (refl, refl)
  step_sizes line15 = (refl, refl)
  step_sizes line17 = (refl, refl)
  step_sizes line18 = (refl, refl)
  step_sizes line19 = (refl, refl)
  step_sizes line23 = (refl, refl)

  obey_sizes : (o : Order) (v : List ℕ) → ((obey_in l o p v b q ws).0.bench.n ≡ b.n) × ((obey_in l o p v b q ws).0.bench.w ≡ b.w)
  obey_sizes StartLl v = (refl, refl)
  obey_sizes StartSc v = (refl, refl)
  obey_sizes StartVl v = (refl, refl)
  obey_sizes Step v = step_sizes (point_of q.line)

-- lists seen through a function
map_set : {A B : Type 0} (f : A → B) (xs : List A) (i : ℕ) (a : A) → map f (set xs i a) ≡ set (map f xs) i (f a)
map_set f [] i a = refl
map_set f (x ∷ xs) zero a = refl
map_set f (x ∷ xs) (suc i) a = ap (f x ∷◌) (map_set f xs i a)

every_map : {A B : Type 0} (f : A → B) (g : B → Bool) (h : A → Bool) (d : A) (n : ℕ) (xs : List A) → ((i : ℕ) → i < n → i < length xs → h (get_or xs i d) ≡ g (f (get_or xs i d)))
    → every h (take n xs) ≡ every g (take n (map f xs))
every_map f g h d zero xs e = refl
every_map f g h d (suc n) [] e = refl
every_map f g h d (suc n) (x ∷ xs) e = ap₂ ◌&&◌ (e 0 (omega arith) (omega arith)) (every_map f g h d n xs (λ i a b. e (suc i) (omega arith) (omega arith)))

-- a process whose record number is 0 is on no other record
on_this : (q : StationProcess) → q.called.0 ≡ 0 → elsewhere only q ≡ false
on_this q e = ap (λ b. not (at_rest q) && not b) (eq-eqb _ 0 e) ∙ go (at_rest q)
  where
    go : (b : Bool) → not b && false ≡ false
    go true = refl
    go false = refl

line_shown : (q : StationProcess) → q.called.0 ≡ 0 → (process_of only q).line ≡ q.line
line_shown q e = ap (λ b. cond b 0 q.line) (on_this q e)

called_ok_lem : (q : StationProcess) → q.called.0 ≡ 0 → called_ok 1 q ≡ true
called_ok_lem q e = rw e (go (at_rest q))
  where
    go : (b : Bool) → ltb 0 1 && (not b || eqb 0 0) ≡ true
    go true = refl
    go false = refl

and_end : (b : Bool) → b && true ≡ b
and_end true = refl
and_end false = refl

-- the process that the bench has is the one that record 0 shows
pub shown : (ps : List StationProcess) (p : ℕ) → get_or (map (process_of only) ps) p no_process ≡ process_of only (get_or ps p no_station_process)
shown [] p = refl
shown (q ∷ ps) zero = refl
shown (q ∷ ps) (suc p) = shown ps p

record_shown : (s : StationMemory) (p : ℕ) → record_at (as_bench s).records (record { 0 = p }) ≡ process_of only (process_at s p)
record_shown s p = shown s.processes p

-- what a command says and leaves, seen in the bench of record 0
abbrev seen : Reply × StationMemory → Reply × Memory
seen t = (t.0, as_bench t.1)

abbrev pub Says : StationMemory → StationOrder → Type 0
Says s c = seen (station_command s c) ≡ command (as_bench s) c.process c.order c.value

module _ (N W : ℕ) (ts : List Tables) (ps : List StationProcess) (ws : List ℕ) where
  abbrev s : StationMemory
  s = record { n = N; w = W; r = 1; tables = ts; processes = ps; words = ws }

  module _ (idle_called : (p : ℕ) → p < N → (process_at s p).called.0 ≡ 0) (p : ℕ) (o : Order) (v : List ℕ) where
    abbrev c : StationOrder
    c = record { process = p; order = o; called = 0; value = v }

    abbrev q : StationProcess
    q = process_at s p

    same_ranges : station_in_range s ≡ in_range (as_bench s)
    unfolding station_in_range in_range
    same_ranges = ap₂ ◌&&◌ (and_end (bench_ok (bench_of s only))) (every_map (process_of only) (process_ok N W) (station_process_ok N W 1) no_station_process N ps
        (λ i hi hl. ap (λ b. b && (process_ok N W (process_of only (get_or ps i no_station_process)) && true)) (called_ok_lem (get_or ps i no_station_process) (idle_called i hi)) ∙ and_end _))

    -- a start names record 0, and the open call is on it
    about : (b : Bool) (k : ℕ) → k ≡ 0 → cond b 0 k ≡ 0
    about true k e = refl
    about false k e = e

    no_24 : (b : Bool) → b && leb 1 0 ≡ false
    no_24 true = refl
    no_24 false = refl

    -- rows 8, 5, 6 and 7 of a process that is idle or not, with an LL answered or not
    abbrev call_rows : Bool → Bool → ℕ
    call_rows i a = cond (row8 o W (length v)).holds 8 (cond (is_start o && not i) 5 (cond (not (is_start o) && i) 6 (cond (needs_ll o && not a) 7 0)))

    calls_same : q.called.0 ≡ 0
        → cond (is_start o && leb 1 0) 24 (call_rows (at_rest q) (holding_at q (record_for s c)).answered)
        ≡ call_rows (is_idle (record_at (as_bench s).records (record { 0 = p }))) (record_at (as_bench s).records (record { 0 = p })).answered
    calls_same e =
        ap (λ b. cond b 24 (call_rows (at_rest q) (holding_at q (record_for s c)).answered)) (no_24 (is_start o))
        ∙ ap₂ (λ (i j : ℕ). call_rows (eqb i 0) (holding_at q (record { 0 = j })).answered) (sym (line_shown q e)) (about (is_start o) q.called.0 e)
        ∙ sym (ap (λ (u : Process). call_rows (is_idle u) u.answered) (record_shown s p))

    late_same :
        cond (leb N p) 4 (cond (is_start o && leb 1 0) 24 (call_rows (at_rest q) (holding_at q (record_for s c)).answered))
        ≡ cond (leb N p) 4 (call_rows (is_idle (record_at (as_bench s).records (record { 0 = p }))) (record_at (as_bench s).records (record { 0 = p })).answered)
    late_same = go (leb N p) refl
      where
        go : (b : Bool) → leb N p ≡ b → cond b 4 (cond (is_start o && leb 1 0) 24 (call_rows (at_rest q) (holding_at q (record_for s c)).answered))
            ≡ cond b 4 (call_rows (is_idle (record_at (as_bench s).records (record { 0 = p }))) (record_at (as_bench s).records (record { 0 = p })).answered)
        go true t = refl
        go false t = calls_same (idle_called p (leb-false N p t))

    -- the rows before them, for so many process records and with the truth of row 9's ranges
    abbrev early : ℕ → Bool → ℕ → ℕ
    early records ranges late = cond (row1 N).holds 1 (cond (row2 W).holds 2 (cond (ltb (length ws) (5 * N * W) || ltb records N) 3 (cond (not ranges) 9 late)))

    refusal_same : station_refusal s c ≡ refusal (as_bench s) p o v
    unfolding station_refusal refusal
    refusal_same =
        ap₂ (λ (k : ℕ) (b : Bool). early k b (cond (leb N p) 4 (cond (is_start o && leb 1 0) 24 (call_rows (at_rest q) (holding_at q (record_for s c)).answered))))
        (sym (length-map ps (process_of only))) same_ranges
        ∙ ap (early (length (map (process_of only) ps)) (in_range (as_bench s))) late_same

    module _ (ht : 0 < length ts) (hh : p < N → p < length ps → 0 < length q.holdings) where
      abbrev me : ProcessNumber
      me = record { 0 = p }

      abbrev out : Moved × List ℕ
      out = obey o me v (as_bench s).bench (record_at (as_bench s).records me) ws

      obeyed_same : obeyed_on s only c ≡ out
      unfolding obey
      obeyed_same = ap₂ (λ (l : Layout) (u : Process). obey_in l o me v (bench_of s only) u ws) (one_layout N) (sym (record_shown s p))

      bench_kept : (out.0.bench.n ≡ N) × (out.0.bench.w ≡ W)
      unfolding obey
      bench_kept = obey_sizes (one_record N) me (as_bench s).bench (record_at (as_bench s).records me) ws o v

      -- the bench that the order made, with other sizes
      abbrev resized : ℕ → ℕ → Bench
      resized i j = let b = out.0.bench in record { n = i; w = j; x = b.x; bank = b.bank; help = b.help }

      put_same : p < N → p < length ps → ◌≡◌ {A = Reply × Memory} (out.0.reply, as_bench (embed s only p out).1) (stored_back (as_bench s) me out)
      put_same below hp =
          let k = bench_kept in
          ap₂ (λ (t : Tables) (rs : List Process). (out.0.reply, record { bench = record { n = N; w = W; x = t.x; bank = t.bank; help = t.help }; records = rs; words = out.1 }))
          (tables_back s only p out ht)
          (map_set (process_of only) ps p (put_process only q out.0.process) ∙ ap (set (map (process_of only) ps) p) (process_back only q out.0.process (hh below hp)))
          ∙ ap₂ (λ (i j : ℕ). (out.0.reply, record { bench = resized i j; records = set (map (process_of only) ps) p out.0.process; words = out.1 }))
          (sym k.0) (sym k.1)

      one_command : Says s c
      unfolding command
      one_command = go (ℕ_discrete (station_refusal s c) 0)
        where
          go : Dec (station_refusal s c ≡ 0) → Says s c
          go (no n) =
              ap seen (refuses s c n) ∙ ap (λ k. (Refused k, as_bench s)) refusal_same
              ∙ sym (ap (λ b. cond b (obeyed (as_bench s) me o v) (Refused (refusal (as_bench s) p o v), as_bench s)) (ne_eqb _ 0 (λ e. n (refusal_same ∙ e))))
          go (yes e) =
              let a = accepts s c e in let hp = a.below in
              ap seen (obeys s c e) ∙ ap (λ k. seen (embed s (record { 0 = k }) p (obeyed_on s (record { 0 = k }) c))) (about (is_start o) q.called.0 (idle_called p hp))
              ∙ ap (λ t. seen (embed s only p t)) obeyed_same ∙ put_same hp (let x = a.processes in omega arith)
              ∙ sym (ap (λ b. cond b (obeyed (as_bench s) me o v) (Refused (refusal (as_bench s) p o v), as_bench s)) (eq-eqb _ 0 (sym refusal_same ∙ e)))

-- a station of one record, with tables for it and something that the command's process holds of it
pub one_record_lem : (s : StationMemory) → s.r ≡ 1 → ((p : ℕ) → p < s.n → (process_at s p).called.0 ≡ 0) → 0 < length s.tables
    → (c : StationOrder) → c.called ≡ 0 → (c.process < s.n → c.process < length s.processes → 0 < length (process_at s c.process).holdings) → Says s c
one_record_lem s e idle_called ht c f hh =
    let On : ℕ → StationOrder = λ k. record { process = c.process; order = c.order; called = k; value = c.value } in
    let With : ℕ → StationMemory = λ r. record { n = s.n; w = s.w; r = r; tables = s.tables; processes = s.processes; words = s.words } in
    subst (λ (k : ℕ). Says s (On k)) (sym f)
    (subst (λ (r : ℕ). Says (With r) (On 0)) (sym e)
    (one_command s.n s.w s.tables s.processes s.words idle_called c.process c.order c.value ht hh))

pub one_record_command : OneRecordCommand
one_record_command s shaped e idle_called c f =
    one_record_lem s e idle_called (let x = shaped.tables in omega arith) c f (λ _ hp. let x = shaped.holdings c.process hp in omega arith)

-- and it is refused by the same row
pub one_record_refusal : (s : StationMemory) → s.r ≡ 1 → ((p : ℕ) → p < s.n → (process_at s p).called.0 ≡ 0)
    → (c : StationOrder) → c.called ≡ 0 → station_refusal s c ≡ refusal (as_bench s) c.process c.order c.value
one_record_refusal s e idle_called c f =
    let On : ℕ → StationOrder = λ k. record { process = c.process; order = c.order; called = k; value = c.value } in
    let With : ℕ → StationMemory = λ r. record { n = s.n; w = s.w; r = r; tables = s.tables; processes = s.processes; words = s.words } in
    let Same : StationMemory → StationOrder → Type 0 = λ m d. station_refusal m d ≡ refusal (as_bench m) d.process d.order d.value in
    subst (λ (k : ℕ). Same s (On k)) (sym f)
    (subst (λ (r : ℕ). Same (With r) (On 0)) (sym e) (refusal_same s.n s.w s.tables s.processes s.words idle_called c.process c.order c.value))
