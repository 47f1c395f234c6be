-- The entries of a text, on the bench of record 0 and on the station: what the bench's run is, the station's run shows.
use mathlib.Core.Path.{◌≡◌, refl, sym, ap, ap₂, ◌∙◌}
use mathlib.Core.Bool.{Bool, true, false, not, ◌&&◌, cond}
use mathlib.Core.List.{List, [], ◌∷◌, ◌++◌}
use Prim.Native.Nat.{ℕ, zero, suc, ◌+◌, ◌-◌, ◌*◌, ◌<◌}
use native.Mathlib.Decide.{ℕ_discrete}
use native.Mathlib.Omega.{arith}
use lib.Dec.{eqb, ltb, leb}
use lib.ListN.{length, take, drop}
use borrow.Author.Tests.{eqb-true, eq-eqb}
use Rattle.model.specs.declared.Reply.{Reply}
use Rattle.model.specs.declared.Reply.TheVariants.{Refused, Accepted, LlAnswered, ScAnswered, VlAnswered}
use Rattle.model.specs.Sizes.{buffers}
use Rattle.model.specs.Records.{record_at}
use Rattle.model.specs.Refusals.{is_idle}
use Rattle.model.specs.Replies.{number_of}
use Rattle.notation.specs.declared.Entry.{Entry}
use Rattle.notation.specs.declared.Entry.TheVariants.{StartLl, StartVl, StartSc, Step, Finish}
use Rattle.listing.specs.Lines.{ll_line}
use Rattle.access.specs.declared.Access.{Access}
use Rattle.text_runs.specs.Machines.{Machine}
use Rattle.text_runs.specs.TextRun as T
use Rattle.text_runs.specs.TextRun.{most_entries, room_needed, process_of, order_of, value_of}
use Rattle.text_model.specs.TextRun as bench
use Rattle.text_model.specs.TextRun.{figure2, access_now}
use Rattle.station.specs.declared.StationProcess.{StationProcess}
use Rattle.station.specs.Station.{StationMemory, process_at}
use Rattle.station.specs.Projection.{at_rest}
use Rattle.station.specs.Projection as P
use Rattle.station.specs.StationRefusals.{StationOrder, StationShaped}
use Rattle.station.specs.StationCommand.{station_refusal, station_command}
use Rattle.station_laws.specs.OneRecord.{as_bench}
use Rattle.station_facts.proofs.Accepts.{accepts, obeys, refuses}
use Rattle.station_laws.proofs.OneRecordLaws.{shown}
use Rattle.station_text_machine.specs.StationText.{record0}
use Rattle.station_text_laws.specs.EntryByEntry.{line_of, on_record0, station_machine}
use Rattle.station_text_laws.proofs.Kept.{Kept, called, kept_command, says}

abbrev M : Machine
M = station_machine

-- a run on the station, and as the bench of record 0 has it
abbrev pub Run : Type 0
Run = T.Progress M

abbrev pub Seen : Type 0
Seen = T.Progress figure2

abbrev pub seen_in : Run → Seen
seen_in s = record { memory = as_bench s.memory; listing = s.listing; written = s.written; entries = s.entries; stop = s.stop; traced = s.traced }

-- the line of an answer: the return areas of one record lie where the bench has them
area_row : (r n w p : ℕ) (ws : List ℕ) → r ≡ 1 → take w (drop ((r * buffers n + p) * w + 0) ws) ≡ take w (drop ((buffers n + p) * w + 0) ws)
area_row r n w p ws e = ap (λ (k : ℕ). take w (drop ((k + p) * w + 0) ws)) (ap (λ (i : ℕ). i * buffers n) e ∙ (let z : 1 * buffers n ≡ buffers n = omega arith in z))

line_same : (t : StationMemory) (p : ℕ) (r : Reply) → t.r ≡ 1 → bench.line_of (as_bench t) p r ≡ line_of t p r
line_same t p (Refused k) e = refl
line_same t p Accepted e = refl
line_same t p (LlAnswered k) e = ap (ll_line p k) (sym (area_row t.r t.n t.w p t.words e))
line_same t p (ScAnswered b k) e = refl
line_same t p (VlAnswered b k) e = refl

-- the line of a trace
trace_same : (k : ℕ) (a : Access) (e : Entry) (r : Reply) → T.entry_line figure2 k a e r ≡ T.entry_line M k a e r
trace_same k a (StartLl p) r = refl
trace_same k a (StartVl p) r = refl
trace_same k a (StartSc p v) r = refl
trace_same k a (Step p) r = refl
trace_same k a (Finish p) r = refl

-- a process whose open call is on record 0 is at rest where record 0 has it idle
rest_same : (q : StationProcess) → q.called.0 ≡ 0 → is_idle (P.process_of record0 q) ≡ at_rest q
rest_same q e = ap (λ (b : Bool). eqb (cond (not (at_rest q) && not b) 0 q.line) 0) (eq-eqb _ 0 e) ∙ go (at_rest q)
  where
    go : (b : Bool) → eqb (cond (not b && false) 0 q.line) 0 ≡ at_rest q
    go true = refl
    go false = refl

module _ (s : StationMemory) (shaped : StationShaped s) where
  abbrev KeptIn : Run → Type 0
  KeptIn u = Kept s u.memory

  module _ (e : Entry) (u : Run) (k : KeptIn u) where
    abbrev c : StationOrder
    c = on_record0 (process_of e) (order_of e) (value_of u.memory.w e)

    abbrev out : Reply × StationMemory
    out = station_command u.memory c

    abbrev number : ℕ
    number = number_of out.0

    out_kept : Kept s out.1
    out_kept = kept_command s shaped u.memory k c refl

    abbrev lines : List ℕ
    lines = T.lines_of M u e out

    lines_same : bench.lines_of (seen_in u) e (out.0, as_bench out.1) ≡ lines
    lines_same =
        ap₂ (λ (a b : List ℕ). cond u.traced a [] ++ b)
        (trace_same (u.entries + 1) (access_now (as_bench u.memory) (process_of e)) e out.0)
        (line_same out.1 (process_of e) out.0 out_kept.one)

    commanded_same : bench.commanded e (seen_in u) ≡ seen_in (T.commanded M e u)
    commanded_same =
        ap (bench.replied (seen_in u) e) (sym (says s shaped u.memory k c refl))
        ∙ ap (λ (l : List ℕ). cond (eqb number 0) (bench.counted (seen_in u) (as_bench out.1) l) (bench.stopped number (seen_in u)))
        lines_same
        ∙ go (eqb number 0)
      where
        go : (b : Bool) → cond b (bench.counted (seen_in u) (as_bench out.1) lines) (bench.stopped number (seen_in u))
            ≡ seen_in (cond b (T.counted M u out.1 lines) (T.stopped M number u))
        go true = refl
        go false = refl

    -- an entry that is one command
    pub single_same : bench.single e (seen_in u) ≡ seen_in (T.single M e u)
    unfolding T.single
    single_same =
        ap (λ (x : Seen). cond (eqb u.stop 0) (cond (leb most_entries u.entries) (bench.stopped 12 (seen_in u))
        (cond (ltb (length u.listing - u.written) (room_needed u.traced)) (bench.stopped 14 (seen_in u)) x)) (seen_in u)) commanded_same
        ∙ go (eqb u.stop 0) (leb most_entries u.entries) (ltb (length u.listing - u.written) (room_needed u.traced))
      where
        go : (a b d : Bool) → cond a (cond b (bench.stopped 12 (seen_in u)) (cond d (bench.stopped 14 (seen_in u)) (seen_in (T.commanded M e u)))) (seen_in u)
            ≡ seen_in (cond a (cond b (T.stopped M 12 u) (cond d (T.stopped M 14 u) (T.commanded M e u))) u)
        go false b d = refl
        go true true d = refl
        go true false true = refl
        go true false false = refl

    pub single_kept : KeptIn (T.single M e u)
    unfolding T.single
    single_kept = go (eqb u.stop 0) (leb most_entries u.entries) (ltb (length u.listing - u.written) (room_needed u.traced)) (eqb number 0)
      where
        go : (a b d f : Bool)
            → KeptIn (cond a (cond b (T.stopped M 12 u) (cond d (T.stopped M 14 u) (cond f (T.counted M u out.1 lines) (T.stopped M number u)))) u)
        go false b d f = k
        go true true d f = k
        go true false true f = k
        go true false false true = out_kept
        go true false false false = k

    -- where the run goes on, row 4 has left the process alone
    accepted_below : number ≡ 0 → process_of e < out.1.n
    accepted_below z = go (ℕ_discrete (station_refusal u.memory c) 0)
      where
        go : Dec (station_refusal u.memory c ≡ 0) → process_of e < out.1.n
        go (yes a) = let h = (accepts u.memory c a).below in omega (arith, h, ap (λ (o : Reply × StationMemory). o.1.n) (obeys u.memory c a))
        go (no n) = absurd (n (sym (ap (λ (o : Reply × StationMemory). number_of o.0) (refuses u.memory c n)) ∙ z))

    single_below : (T.single M e u).stop ≡ 0 → process_of e < (T.single M e u).memory.n
    unfolding T.single
    single_below = go (eqb u.stop 0) refl (leb most_entries u.entries) (ltb (length u.listing - u.written) (room_needed u.traced)) (eqb number 0) refl
      where
        go : (a : Bool) → eqb u.stop 0 ≡ a → (b d f : Bool) → eqb number 0 ≡ f
            → let x = cond a (cond b (T.stopped M 12 u) (cond d (T.stopped M 14 u) (cond f (T.counted M u out.1 lines) (T.stopped M number u)))) u in
            x.stop ≡ 0 → process_of e < x.memory.n
        go false p b d f q z = absurd (let y : eqb u.stop 0 ≡ true = eq-eqb _ 0 z in false_true (sym p ∙ y))
          where
            false_true : ◌≡◌ {A = Bool} false true → ⊥
            false_true e = absurd (omega (arith, ap (λ (b : Bool). cond {A = ℕ} b 1 0) e))
        go true p true d f q z = absurd (omega (arith, z))
        go true p false true f q z = absurd (omega (arith, z))
        go true p false false true q z = accepted_below (eqb-true number 0 q)
        go true p false false false q z = absurd (let y : eqb number 0 ≡ true = eq-eqb _ 0 z in
            omega (arith, ap (λ (b : Bool). cond {A = ℕ} b 1 0) (sym q ∙ y)))

  -- whether a further step follows
  unanswered_same : (p : ℕ) (u : Run) → KeptIn u → (u.stop ≡ 0 → p < u.memory.n) → bench.unanswered p (seen_in u) ≡ T.unanswered M p u
  unanswered_same p u k below = go (eqb u.stop 0) refl
    where
      go : (b : Bool) → eqb u.stop 0 ≡ b → b && not (is_idle (record_at (as_bench u.memory).records (record { 0 = p }))) ≡ b && not (at_rest (process_at u.memory p))
      go false e = refl
      go true e =
          ap not (ap is_idle (shown u.memory.processes p)
          ∙ rest_same (process_at u.memory p) (called s u.memory k p (below (eqb-true _ 0 e))))

  steps_same : (left p : ℕ) (u : Run) → KeptIn u → bench.steps left p (seen_in u) ≡ seen_in (T.steps M left p u)
  unfolding T.steps
  steps_same zero p u k = refl
  steps_same (suc left) p u k =
      let next : Run = T.single M (Step p) u in
      ap (λ (x : Seen). cond (bench.unanswered p x) (bench.steps left p x) x) (single_same (Step p) u k)
      ∙ ap₂ (λ (b : Bool) (x : Seen). cond b x (seen_in next))
      (unanswered_same p next (single_kept (Step p) u k) (single_below (Step p) u k)) (steps_same left p next (single_kept (Step p) u k))
      ∙ go (T.unanswered M p next)
    where
      go : (b : Bool) → cond b (seen_in (T.steps M left p (T.single M (Step p) u))) (seen_in (T.single M (Step p) u))
          ≡ seen_in (cond b (T.steps M left p (T.single M (Step p) u)) (T.single M (Step p) u))
      go true = refl
      go false = refl

  steps_kept : (left p : ℕ) (u : Run) → KeptIn u → KeptIn (T.steps M left p u)
  unfolding T.steps
  steps_kept zero p u k = k
  steps_kept (suc left) p u k = go (T.unanswered M p (T.single M (Step p) u)) (steps_kept left p (T.single M (Step p) u) (single_kept (Step p) u k))
    where
      go : (b : Bool) → KeptIn (T.steps M left p (T.single M (Step p) u)) → KeptIn (cond b (T.steps M left p (T.single M (Step p) u)) (T.single M (Step p) u))
      go true x = x
      go false x = single_kept (Step p) u k

  carry_same : (e : Entry) (u : Run) → KeptIn u → bench.carry e (seen_in u) ≡ seen_in (T.carry M e u)
  unfolding T.carry
  carry_same (StartLl p) u k = single_same (StartLl p) u k
  carry_same (StartVl p) u k = single_same (StartVl p) u k
  carry_same (StartSc p v) u k = single_same (StartSc p v) u k
  carry_same (Step p) u k = single_same (Step p) u k
  carry_same (Finish p) u k = ap (λ (x : Seen). cond (eqb u.stop 0) x (seen_in u)) (steps_same (suc (most_entries - u.entries)) p u k) ∙ go (eqb u.stop 0)
    where
      go : (b : Bool) → cond b (seen_in (T.steps M (suc (most_entries - u.entries)) p u)) (seen_in u) ≡ seen_in (cond b (T.steps M (suc (most_entries - u.entries)) p u) u)
      go true = refl
      go false = refl

  carry_kept : (e : Entry) (u : Run) → KeptIn u → KeptIn (T.carry M e u)
  unfolding T.carry
  carry_kept (StartLl p) u k = single_kept (StartLl p) u k
  carry_kept (StartVl p) u k = single_kept (StartVl p) u k
  carry_kept (StartSc p v) u k = single_kept (StartSc p v) u k
  carry_kept (Step p) u k = single_kept (Step p) u k
  carry_kept (Finish p) u k = go (eqb u.stop 0)
    where
      go : (b : Bool) → KeptIn (cond b (T.steps M (suc (most_entries - u.entries)) p u) u)
      go true = steps_kept (suc (most_entries - u.entries)) p u k
      go false = k

  pub carry_all_same : (es : List Entry) (u : Run) → KeptIn u → bench.carry_all es (seen_in u) ≡ seen_in (T.carry_all M es u)
  unfolding T.carry_all
  carry_all_same [] u k = refl
  carry_all_same (e ∷ es) u k = ap (bench.carry_all es) (carry_same e u k) ∙ carry_all_same es (T.carry M e u) (carry_kept e u k)

  pub carry_all_kept : (es : List Entry) (u : Run) → KeptIn u → KeptIn (T.carry_all M es u)
  unfolding T.carry_all
  carry_all_kept [] u k = k
  carry_all_kept (e ∷ es) u k = carry_all_kept es (T.carry M e u) (carry_kept e u k)
