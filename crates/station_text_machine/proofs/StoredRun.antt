-- What the run by value leaves, put back and stored, is the text run on the station.
use mathlib.Core.Path.{◌≡◌, refl, sym, ap, ap₂, subst, ◌∙◌}
use mathlib.Core.Bool.{Bool, true, false, cond}
use Rattle.std.specs.Prelude.{Option}
use mathlib.Core.List.{List, ◌++◌, map}
use Prim.Native.Nat.{ℕ, ◌+◌, ◌≤◌, ◌<◌}
use native.Mathlib.Omega.{arith}
use lib.Dec.{eqb}
use lib.ListN.{length, get_or, take, drop, length-map, length-take, get_or-append}
use lib.Seq.{get_or-take}
use borrow.Author.Tests.{eqb-true, le-ltb}
use Rattle.model.specs.declared.Bench.{Bench}
use Rattle.model.specs.declared.Process.{Process}
use Rattle.model.specs.Records.{no_process}
use Rattle.model.specs.Machine.{Memory}
use Rattle.lent.proofs.GatheredLaws.{gathered_length}
use Rattle.llsc.specs.Refusals.{number_told}
use Rattle.text_entry.specs.declared.state.Held.{Held}
use Rattle.text_runs.specs.declared.runs.Finished.{Finished}
use Rattle.text_runs.specs.Returned.{holding}
use Rattle.text_machine.specs.Finished.{at_most_sixteen, end_of, TextRan}
use Rattle.text_model.specs.TextRun.{Ended, run_text}
use Rattle.text_laws.proofs.TextFrame.{ended_longer, first_sixteen}
use Rattle.station.specs.declared.Station.{Station}
use Rattle.station.specs.declared.StationProcess.{StationProcess}
use Rattle.station.specs.Station.{StationMemory, station_memory}
use Rattle.station.specs.Projection.{process_of, put_process}
use Rattle.station.specs.StationSetUp.{empty_process, firsts}
use Rattle.station_facts.proofs.Firsts.{firsts_same}
use Rattle.lent.specs.Gathered.{gathered}
use Rattle.station_records.specs.Gathered.{LentProcesses, processes_stored}
use Rattle.station_records.proofs.StoredLaws.{stored_firsts}
use Rattle.station_records.specs.declared.left.Left.{Left}
use Rattle.station_text_machine.specs.StationText.{record0, before_run, put_record, left_by, on_station, StationEnded, station_run_text}
use Rattle.station_text_machine.specs.TextByValue.{bench_before, records_before, station_ran, put_at, put_back, ended_with, StationRan}
use Rattle.station_text_machine.proofs.RunSizes.{Sized, sized_run}
use Rattle.station_text_machine.proofs.SeenLaws.{gathered_few, gathered_again, seen_gathered}

module _ (s : Station) (ps : List StationProcess) (ws text list : List ℕ) (out : Finished Held) (ws' list' : List ℕ) where
  abbrev rs : List Process
  rs = map (process_of record0) ps

  abbrev lent : StationMemory
  lent = station_memory s ps ws

  -- the process records that the run leaves, of however many are lent
  abbrev left : List Process
  left = take (length rs) out.held.all ++ drop 16 rs

  abbrev ran : Memory
  ran = record { bench = out.held.bench; records = left; words = ws' }

  abbrev answer : Memory → StationEnded
  answer m = record { number = number_told out.outcome; entries = out.entries; written = out.written; memory = left_by lent m; listing = list' }

  module _ (r : TextRan false (record { bench = bench_before s; all = gathered rs no_process 16 }) (length rs) ws text list out ws' list') where
    whole : run_text (before_run lent) text list ≡ ended_longer (drop 16 rs) (end_of (length rs) out ws' list')
    whole =
        first_sixteen (before_run lent) text list
        ∙ ap (λ (l : List Process). ended_longer (drop 16 rs) (run_text (record { bench = bench_before s; records = l; words = ws }) text list)) (sym (gathered_few rs))
        ∙ ap (ended_longer (drop 16 rs)) (sym r.same)

    said : station_run_text lent text list ≡ answer ran
    unfolding station_run_text
    said = ap (on_station lent) whole

    sizes : Sized (before_run lent) ran
    sizes = subst (λ (e : Ended). Sized (before_run lent) e.memory) whole (sized_run (before_run lent) refl false text list)

    sixteen : length out.held.all ≡ 16
    sixteen = ap length r.again ∙ gathered_length (take (length rs) out.held.all) no_process 16

    abbrev n : ℕ
    n = out.held.bench.n

    lent_enough : n ≤ length ps
    lent_enough = omega (arith, sizes.lent, length-map ps (process_of record0))

    -- a process record of the run, among all that are lent
    record_at_is : (p : ℕ) → p < n → get_or out.held.all p no_process ≡ get_or left p no_process
    record_at_is p h =
        let l = length-map ps (process_of record0) in
        let few = length-take (length rs) out.held.all in
        sym (get_or-take (length rs) out.held.all p no_process (omega (arith, h, lent_enough, l)))
        ∙ sym (get_or-append (take (length rs) out.held.all) (drop 16 rs) no_process p
        (omega (arith, h, lent_enough, l, few, sixteen, sizes.most)))

    -- the process records put back and stored
    processes_stored_is : processes_stored ps (firsts (put_at out.held.all) 0 n (gathered ps empty_process 16)) n ≡ firsts (put_record ran) 0 n ps
    processes_stored_is =
        stored_firsts (put_at out.held.all) ps n sizes.most lent_enough
        ∙ firsts_same (put_at out.held.all) (put_record ran) 0 n ps
        (λ i q h. ap (put_process record0 q) (record_at_is (0 + i) (omega arith)))

    abbrev stored : Finished (Option Left) → StationEnded
    stored x = ended_with s ps x ws' list'

    -- refused before the set-up: nothing is stored, and the words are as they were
    words_stay : n ≡ 0 → ws' ≡ ws
    words_stay e = ap (λ (m : Memory). m.words) (sizes.before e)

    back : (t : Bool) → eqb n 0 ≡ t → stored (holding out (put_back s (gathered ps empty_process 16) out.held)) ≡ answer ran
    unfolding put_back
    back true e =
        simp e
        (ap (λ (l : List ℕ). record { number = number_told out.outcome; entries = out.entries; written = out.written; memory = station_memory s ps l; listing = list' })
        (words_stay (eqb-true n 0 e)))
    back false e =
        let k : at_most_sixteen n ≡ n = ap (λ (b : Bool). cond b 16 n) (le-ltb 16 n sizes.most) in
        simp (e, k)
        (ap (λ (l : List StationProcess). record {
          number = number_told out.outcome;
          entries = out.entries;
          written = out.written;
          memory = station_memory (station_ran s out.held.bench) l ws';
          listing = list';
        }) processes_stored_is)

    pub stored_run_is : stored (holding out (put_back s (gathered ps empty_process 16) out.held)) ≡ station_run_text (station_memory s ps ws) text list
    stored_run_is = back (eqb n 0) refl ∙ sym said

-- so for whatever process records were lent, with what the code took out for the run, and what it put back
module _ (s : Station) (all : List StationProcess) (len : ℕ) (ws text list : List ℕ) (out : Finished Held) (ws' list' : List ℕ) where
  of_lent : TextRan false (record { bench = bench_before s; all = records_before all }) len ws text list out ws' list'
      → StationRan s all len ws text list (holding out (put_back s all out.held)) ws' list'
  of_lent r = record { stored = of }
    where
      of : (ps : List StationProcess) → all ≡ gathered ps empty_process 16 → len ≡ length ps
          → ended_with s ps (holding out (put_back s all out.held)) ws' list' ≡ station_run_text (station_memory s ps ws) text list
      of ps e h =
          ap (λ (a : List StationProcess). ended_with s ps (holding out (put_back s a out.held)) ws' list') e
          ∙ stored_run_is s ps ws text list out ws' list'
          (subst (λ (k : ℕ). TextRan false (record { bench = bench_before s; all = gathered (map (process_of record0) ps) no_process 16 }) k ws text list out ws' list')
          (h ∙ sym (length-map ps (process_of record0)))
          (subst (λ (a : List Process). TextRan false (record { bench = bench_before s; all = a }) len ws text list out ws' list') (ap records_before e ∙ seen_gathered ps) r))

  pub run_put_back : {b : Bench} {rs : List Process} {r : Finished (Option Left)} → b ≡ bench_before s → rs ≡ records_before all → r ≡ holding out (put_back s all out.held)
      → TextRan false (record { bench = b; all = rs }) len ws text list out ws' list' → StationRan s all len ws text list r ws' list'
  run_put_back {b} {rs} {r} eb ers er x =
      subst (λ (y : Finished (Option Left)). StationRan s all len ws text list y ws' list') (sym er)
      (of_lent (subst (λ (a : List Process). TextRan false (record { bench = bench_before s; all = a }) len ws text list out ws' list') ers
      (subst (λ (a : Bench). TextRan false (record { bench = a; all = rs }) len ws text list out ws' list') eb x)))

-- what the run by value asks of its records
pub records_again : (all : List StationProcess) (len : ℕ) → LentProcesses all len → (rs : List Process) → rs ≡ records_before all → rs ≡ gathered (take len rs) no_process 16
records_again all len l rs e =
    let seen : List Process = map (process_of record0) l.lent in
    let is : rs ≡ gathered seen no_process 16 = e ∙ ap records_before l.is ∙ seen_gathered l.lent in
    let many : length seen ≡ len = length-map l.lent (process_of record0) ∙ sym l.many in
    is ∙ gathered_again seen ∙ ap₂ (λ (k : ℕ) (a : List Process). gathered (take k a) no_process 16) many (sym is)
