-- The run by value, its process records stored back, is the run of the file.
use mathlib.Core.Path.{◌≡◌, refl, sym, ap, ap₂, ◌∙◌}
use mathlib.Core.List.{List, [], ◌∷◌}
use mathlib.Core.Bool.{Bool, true, false, cond}
use Prim.Native.Nat.{ℕ, zero, suc, ◌<◌, ◌≤◌}
use native.Mathlib.Decide.{dec_lt}
use native.Mathlib.Nat.{not-suc-le-zero}
use native.Mathlib.Omega.{arith}
use lib.Dec.{eqb, ltb}
use Rattle.std.specs.Prelude.{None, Some, Ok, Err}
use lib.ListN.{length, get_or, set, replicate, length-set}
use lib.Seq.{get_or-set_same, get_or-set_other, ext_get_or}
use borrow.Author.Tests.{eqb-true, eqb-false, eq-eqb, ne_eqb, ltb-true, ltb-false}
use Rattle.model.specs.declared.Reply.{Reply}
use Rattle.model.specs.Replies.{number_of}
use Rattle.boards.specs.Files.{BoardRecord, decode, file_number}
use Rattle.station.specs.declared.Station.{Station}
use Rattle.station.specs.declared.StationProcess.{StationProcess}
use Rattle.station.specs.Station.{StationMemory, station_memory}
use Rattle.station.specs.StationCommand.{station_command}
use Rattle.station.specs.StationSetUp.{empty_process}
use Rattle.lent.specs.Gathered.{gathered, stored}
use Rattle.station_records.specs.Gathered.{processes_stored, left_stored}
use Rattle.lent.proofs.GatheredLaws.{gathered_length, gathered_here}
use Rattle.station_machine.specs.declared.Outcome.{Outcome}
use Rattle.station_machine.specs.StationDecision.{Decided, stored_back}
use Rattle.station_machine.proofs.StationDecisionLaws.{decision_law}
use Rattle.board_commands.specs.declared.FileRun.{FileRun}
use Rattle.board_commands.specs.declared.RunLeft.{RunLeft}
use Rattle.board_commands.specs.BoardRun.{order_of, command_of, run_records, run_file}
use Rattle.board_commands.specs.ByValue.{decided, left_with, processes_after, after_one, records_run, file_run, stored_run}
use Rattle.board_commands.proofs.CommandLaws.{Accepted, accepted_place}
use Rattle.board_commands.proofs.ReplyLaws.{obeyed_number, refused_number}

abbrev e : StationProcess
e = empty_process

-- process records stored one by one
stored_length : (l a : List StationProcess) (k : ℕ) → length (processes_stored l a k) ≡ length l
unfolding stored
stored_length l a zero = refl
stored_length l a (suc k) = length-set (processes_stored l a k) k (get_or a k e) ∙ stored_length l a k

stored_below : (l a : List StationProcess) (k j : ℕ) → j < k → j < length l → get_or (processes_stored l a k) j e ≡ get_or a j e
unfolding stored
stored_below l a zero j h i = absurd (not-suc-le-zero h)
stored_below l a (suc k) j h i = go (λ lt. stored_below l a k j lt i) (eqb j k) refl
  where
    go : (j < k → get_or (processes_stored l a k) j e ≡ get_or a j e) → (t : Bool) → eqb j k ≡ t
        → get_or (set (processes_stored l a k) k (get_or a k e)) j e ≡ get_or a j e
    go f true q = let s : j ≡ k = eqb-true j k q in rw s
        (get_or-set_same (processes_stored l a k) k (get_or a k e) e (let x = stored_length l a k in omega arith))
    go f false q = let ne = eqb-false j k q in get_or-set_other (processes_stored l a k) k j (get_or a k e) e ne ∙ f (omega (arith, ne))

stored_above : (l a : List StationProcess) (k j : ℕ) → k ≤ j → get_or (processes_stored l a k) j e ≡ get_or l j e
unfolding stored
stored_above l a zero j h = refl
stored_above l a (suc k) j h =
    get_or-set_other (processes_stored l a k) k j (get_or a k e) e (λ z. omega arith) ∙ stored_above l a k j (omega arith)

-- a process record replaced and then gathered, or gathered and then replaced
set_gathered : (l : List StationProcess) (i : ℕ) (q : StationProcess) → i < 16 → i < length l
    → set (gathered l e 16) i q ≡ gathered (set l i q) e 16
set_gathered l i q h k =
    ext_get_or e (set (gathered l e 16) i q) (gathered (set l i q) e 16)
    (length-set (gathered l e 16) i q ∙ gathered_length l e 16 ∙ sym (gathered_length (set l i q) e 16))
    (λ j b. at j (let x = length-set (gathered l e 16) i q in let y = gathered_length l e 16 in omega arith) (eqb j i) refl)
  where
    at : (j : ℕ) → j < 16 → (t : Bool) → eqb j i ≡ t → get_or (set (gathered l e 16) i q) j e ≡ get_or (gathered (set l i q) e 16) j e
    at j b true z =
        let same : j ≡ i = eqb-true j i z in
        rw same (get_or-set_same (gathered l e 16) i q e (let y = gathered_length l e 16 in omega arith)
        ∙ sym (gathered_here (set l i q) e 16 i (omega arith) h ∙ get_or-set_same l i q e k))
    at j b false z =
        let ne = eqb-false j i z in
        get_or-set_other (gathered l e 16) i j q e ne ∙ gathered_here l e 16 j (omega arith) b
        ∙ sym (gathered_here (set l i q) e 16 j (omega arith) b ∙ get_or-set_other l i j q e ne)

-- The process records now, after so many commands done, and those that were lent: the first N may have changed.
record Kept (before : Station) (s : Station) (done : ℕ) (lent ps : List StationProcess) : Type 0 where
  long : length ps ≡ length lent
  others : (j : ℕ) → s.n ≤ j → get_or ps j e ≡ get_or lent j e
  none_done : done ≡ 0 → (ps ≡ lent) × (s ≡ before)
  some_done : 0 < done → s.n ≤ 16

stored_as_kept : (n : ℕ) (lent ps : List StationProcess) → length ps ≡ length lent → ((j : ℕ) → n ≤ j → get_or ps j e ≡ get_or lent j e) → n ≤ 16
    → processes_stored lent (gathered ps e 16) n ≡ ps
stored_as_kept n lent ps long others few =
    ext_get_or e (processes_stored lent (gathered ps e 16) n) ps
    (stored_length lent (gathered ps e 16) n ∙ sym long)
    (λ j h. at j (let x = stored_length lent (gathered ps e 16) n in omega arith) (dec_lt j n))
  where
    at : (j : ℕ) → j < length lent → Dec (j < n) → get_or (processes_stored lent (gathered ps e 16) n) j e ≡ get_or ps j e
    at j h (yes b) = stored_below lent (gathered ps e 16) n j b h ∙ gathered_here ps e 16 j (omega arith) (omega (arith, b, few))
    at j h (no b) = stored_above lent (gathered ps e 16) n j (omega arith) ∙ sym (others j (omega arith))

-- one record: its command by value, stored back, is the command
module _ (lent : List StationProcess) (r : BoardRecord) (s : Station) (ps : List StationProcess) (ws : List ℕ) where
  abbrev all : List StationProcess
  all = gathered ps e 16

  abbrev out : Decided
  out = decided s all (length ps) r ws

  abbrev made : Reply × StationMemory
  made = station_command (station_memory s ps ws) (command_of s.w r)

  as_command : (d : Decided) → d ≡ out → stored_back s ps d ≡ made
  unfolding decided
  as_command d h = ap (stored_back s ps) h ∙ decision_law s ps ws r.process (order_of r.order) 0 (replicate s.w r.value)

  replied : (o : Outcome) (ws' : List ℕ) → ◌≡◌ {A = Decided} (Ok o, ws') out → number_of o.reply ≡ 0
  unfolding decided
  replied o ws' h = obeyed_number s all (length ps) r.process (order_of r.order) 0 (replicate s.w r.value) ws o ws' h

  numbered_row : (k : ℕ) (ws' : List ℕ) → ◌≡◌ {A = Decided} (Err k, ws') out → k ≡ 0 → ⊥
  unfolding decided
  numbered_row k ws' h = refused_number s all (length ps) r.process (order_of r.order) 0 (replicate s.w r.value) ws k ws' h

  module _ (o : Outcome) (ws' : List ℕ) (h : ◌≡◌ {A = Decided} (Ok o, ws') out) where
    abbrev after : List StationProcess
    after = set ps o.at o.process

    ok : Accepted s (length ps) o
    ok = accepted_place s all (length ps) r ws o ws' h

    gathered_after : processes_after all o ≡ gathered after e 16
    gathered_after = let a = ok in set_gathered ps o.at o.process (omega (arith, a.place, a.most)) (omega (arith, a.place, a.lent))

    kept_after : {before : Station} (done : ℕ) → Kept before s done lent ps → Kept before o.station (suc done) lent after
    kept_after done k = let a = ok in record {
      long = length-set ps o.at o.process ∙ k.long;
      others = λ j h. get_or-set_other ps o.at j o.process e (λ i. omega (arith, i, h, a.place, a.n_stays)) ∙ k.others j (omega (arith, h, a.n_stays));
      none_done = λ i. absurd (omega (arith, i));
      some_done = λ i. omega (arith, a.most, a.n_stays);
    }

-- a run that ends here
end_stored : (before : Station) (lent : List StationProcess) (number done : ℕ) (s : Station) (ps : List StationProcess) (ws : List ℕ) → Kept before s done lent ps
    → stored_run before lent (left_with s (gathered ps e 16) number done, ws) ≡ (record { number = number; done = done }, station_memory s ps ws)
end_stored before lent number done s ps ws k = go (ltb 0 done) refl
  where
    told : StationMemory → FileRun × StationMemory
    told m = (record { number = number; done = done }, m)

    go : (t : Bool) → ltb 0 done ≡ t
        → told (left_stored before lent ws (cond t (Some (record { station = s; all = gathered ps e 16 })) None)) ≡ told (station_memory s ps ws)
    go true z = ap (λ (l : List StationProcess). told (station_memory s l ws)) (stored_as_kept s.n lent ps k.long k.others (k.some_done (ltb-true 0 done z)))
    go false z =
        let none = k.none_done (let y = ltb-false 0 done z in omega arith) in
        ap₂ (λ (l : List StationProcess) (r : Station). told (station_memory r l ws)) (sym none.0) (sym none.1)

-- a record, and the rest after it
module _ (before : Station) (lent : List StationProcess) (r : BoardRecord) (rs : List BoardRecord) (done : ℕ) (s : Station) (ps : List StationProcess) (ws : List ℕ) where
  abbrev m : Reply × StationMemory
  m = made lent r s ps ws

  abbrev by_value : Decided → RunLeft × List ℕ
  by_value d =
      after_one d (λ o ws'. records_run (suc done) rs o.station (processes_after (gathered ps e 16) o) (length ps) ws')
      (λ k ws'. (left_with s (gathered ps e 16) k done, ws'))

  abbrev said : Reply × StationMemory → FileRun × StationMemory
  said x = cond (eqb (number_of x.0) 0) (run_records (suc done) rs x.1) (record { number = number_of x.0; done = done }, x.1)

  -- that the rest is run as it should be
  abbrev Rest : Outcome → List ℕ → Type 0
  Rest o ws' =
      let here = set ps o.at o.process in
      Kept before o.station (suc done) lent here
      → stored_run before lent (records_run (suc done) rs o.station (gathered here e 16) (length here) ws') ≡ run_records (suc done) rs (station_memory o.station here ws')

  one_record_lem : Kept before s done lent ps → ((o : Outcome) (ws' : List ℕ) → Rest o ws') → (d : Decided) → d ≡ out lent r s ps ws → stored_run before lent (by_value d) ≡ said m
  one_record_lem k rest (Ok o, ws') h =
      let as_long : length (set ps o.at o.process) ≡ length ps = length-set ps o.at o.process in
      let x : Reply × StationMemory = stored_back s ps (Ok o, ws') in
      ap₂ (λ (l : List StationProcess) (i : ℕ). stored_run before lent (records_run (suc done) rs o.station l i ws')) (gathered_after lent r s ps ws o ws' h) (sym as_long)
      ∙ rest o ws' (kept_after lent r s ps ws o ws' h done k)
      ∙ ap (λ (t : Bool). cond t (run_records (suc done) rs x.1) (record { number = number_of x.0; done = done }, x.1)) (sym (eq-eqb (number_of o.reply) 0 (replied lent r s ps ws o ws' h)))
      ∙ ap said (as_command lent r s ps ws (Ok o, ws') h)
  one_record_lem k rest (Err number, ws') h =
      let x : Reply × StationMemory = stored_back s ps (Err number, ws') in
      end_stored before lent number done s ps ws' k
      ∙ ap (λ (t : Bool). cond t (run_records (suc done) rs x.1) (record { number = number; done = done }, x.1)) (sym (ne_eqb number 0 (numbered_row lent r s ps ws number ws' h)))
      ∙ ap said (as_command lent r s ps ws (Err number, ws') h)

stored_records : (before : Station) (lent : List StationProcess) (rs : List BoardRecord) (done : ℕ) (s : Station) (ps : List StationProcess) (ws : List ℕ) → Kept before s done lent ps
    → stored_run before lent (records_run done rs s (gathered ps e 16) (length ps) ws) ≡ run_records done rs (station_memory s ps ws)
unfolding records_run run_records
stored_records before lent [] done s ps ws k = end_stored before lent 0 done s ps ws k
stored_records before lent (r ∷ rs) done s ps ws k =
    one_record_lem before lent r rs done s ps ws k
    (λ o ws'. stored_records before lent rs (suc done) o.station (set ps o.at o.process) ws')
    (out lent r s ps ws) refl

pub stored_file : (file : List ℕ) (s : Station) (ps : List StationProcess) (ws : List ℕ)
    → stored_run s ps (file_run file s (gathered ps empty_process 16) (length ps) ws) ≡ run_file file (station_memory s ps ws)
unfolding file_run run_file
stored_file file s ps ws = go (eqb (file_number file) 0)
  where
    begun : Kept s s 0 ps ps
    begun = record { long = refl; others = λ j h. refl; none_done = λ z. (refl, refl); some_done = λ h. absurd (omega (arith, h)) }

    go : (t : Bool) → stored_run s ps (cond t (records_run 0 (decode file) s (gathered ps e 16) (length ps) ws) (left_with s (gathered ps e 16) (file_number file) 0, ws))
        ≡ cond t (run_records 0 (decode file) (station_memory s ps ws)) (record { number = file_number file; done = 0 }, station_memory s ps ws)
    go true = stored_records s ps (decode file) 0 s ps ws begun
    go false = end_stored s ps (file_number file) 0 s ps ws begun
