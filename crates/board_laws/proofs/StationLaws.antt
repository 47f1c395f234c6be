-- The records one by one, on the bench and on a station of one record: the same numbers, the same commands done.
use mathlib.Core.Path.{◌≡◌, refl, sym, ap, ap₂, subst, ◌∙◌}
use mathlib.Core.Bool.{Bool, true, false, cond}
use mathlib.Core.List.{List, [], ◌∷◌, map}
use Prim.Native.Nat.{ℕ, suc, ◌+◌, ◌-◌}
use native.Mathlib.Omega.{arith}
use lib.Dec.{eqb, ltb}
use lib.ListN.{length, replicate}
use Rattle.llsc.specs.declared.Order.TheVariants as orders
use Rattle.llsc.specs.History.{Command}
use Rattle.model.specs.declared.Reply.{Reply}
use Rattle.model.specs.Machine.{Memory, obey}
use Rattle.model.specs.Command.{refusal, command}
use Rattle.model.specs.Replies.{number_of}
use Rattle.after_commands.specs.After.{after}
use Rattle.notation.specs.declared.Entry.TheVariants.{StartLl, StartVl, StartSc, Step}
use Rattle.station.specs.Station.{StationMemory}
use Rattle.station.specs.StationCommand.{station_command}
use Rattle.station.specs.StationHistory.{station_after}
use Rattle.station_laws.specs.OneRecord.{as_bench, on_the_one}
use Rattle.boards.specs.Files.{BoardRecord}
use Rattle.board_commands.specs.declared.FileRun.{FileRun}
use Rattle.board_commands.specs.BoardRun.{order_of, run_records}
use Rattle.text_runs.specs.TextRun as TR
use Rattle.text_runs.specs.TextRun.{room_needed, process_of, value_of}
use Rattle.text_model.specs.TextRun.{figure2, Progress, stopped, lines_of, counted}
use Rattle.text_runs.specs.TrueTraces.{outcome}
use Rattle.board_listing.specs.BoardListing.{entry_of, obey_all}

-- The entry of a record is its command: only an SC's value is looked at.
same_command : (m : Memory) (r : BoardRecord)
    → command m (process_of (entry_of r)) (TR.order_of (entry_of r)) (value_of m.bench.w (entry_of r)) ≡ command m r.process (order_of r.order) (replicate m.bench.w r.value)
unfolding command refusal obey
same_command m r = go (eqb r.order 0) (eqb r.order 1) (eqb r.order 2)
  where
    go : (a b c : Bool) → let e = cond a (Step r.process) (cond b (StartLl r.process) (cond c (StartSc r.process r.value) (StartVl r.process))) in
        let o = cond a orders.Step (cond b orders.StartLl (cond c orders.StartSc orders.StartVl)) in
        command m (process_of e) (TR.order_of e) (value_of m.bench.w e) ≡ command m r.process o (replicate m.bench.w r.value)
    go true b c = refl
    go false true c = refl
    go false false true = refl
    go false false false = refl

-- a station of one record, and its bench: whatever commands come, they are answered alike
pub record One (s : StationMemory) (m : Memory) : Type 0 where
  pub same : as_bench s ≡ m
  pub says : (cs : List Command) (c : Command) → let here = station_after s (map on_the_one cs) in
      ◌≡◌ {A = Reply × Memory} ((station_command here (on_the_one c)).0, as_bench (station_command here (on_the_one c)).1) (command (after m cs) c.process c.order c.value)

one_next : (s : StationMemory) (m : Memory) → One s m → (c : Command) → One (station_command s (on_the_one c)).1 (command m c.process c.order c.value).1
unfolding station_after after
one_next s m x c = record { same = ap (λ (o : Reply × Memory). o.1) (x.says [] c); says = λ cs d. x.says (c ∷ cs) d }

abbrev pub told : Progress → FileRun
told s = record { number = s.stop; done = s.entries }

module _ (r : BoardRecord) (rs : List BoardRecord) (s : StationMemory) (m : Memory) (x : One s m) (p : Progress) (pm : p.memory ≡ m) (z : p.stop ≡ 0) (done : ℕ) (pd : p.entries ≡ done) where
  abbrev c : Command
  c = record { process = r.process; order = order_of r.order; value = replicate s.w r.value }

  abbrev out : Reply × StationMemory
  out = station_command s (on_the_one c)

  abbrev mine : Reply × Memory
  mine = outcome figure2 (entry_of r) p

  alike : mine ≡ command m r.process (order_of r.order) (replicate s.w r.value)
  alike =
      same_command p.memory r
      ∙ ap (λ (y : Memory). command y r.process (order_of r.order) (replicate y.bench.w r.value)) pm
      ∙ ap (λ (y : Memory). command m r.process (order_of r.order) (replicate y.bench.w r.value)) (sym x.same)

  answers : ◌≡◌ {A = Reply × Memory} (out.0, as_bench out.1) mine
  unfolding station_after after
  answers = x.says [] c ∙ sym alike

  numbers : number_of mine.0 ≡ number_of out.0
  numbers = sym (ap (λ (y : Reply × Memory). number_of y.0) answers)

  abbrev next : Bool → Bool → Progress
  next t u = cond t (stopped 14 p) (cond u (counted p mine.1 (lines_of p (entry_of r) mine)) (stopped (number_of mine.0) p))

  abbrev ran : Bool → Bool → Progress
  ran t u = cond (eqb (next t u).stop 0) (obey_all rs (next t u)) (next t u)

  -- that the rest comes to the same
  abbrev Rest : Type 0
  Rest =
      One out.1 mine.1 → (q : Progress) → q.memory ≡ mine.1 → q.stop ≡ 0 → q.entries ≡ suc done → ((obey_all rs q).stop ≡ 14 → ⊥)
      → told (obey_all rs q) ≡ (run_records (suc done) rs out.1).0

  either_way : Rest → (t u : Bool) → eqb (number_of mine.0) 0 ≡ u → ((ran t u).stop ≡ 14 → ⊥)
      → told (ran t u) ≡ (cond u (run_records (suc done) rs out.1) (record { number = number_of out.0; done = done }, out.1)).0
  either_way rest true u e h = absurd (h refl)
  either_way rest false true e h =
      let here : One out.1 mine.1 = subst (λ (y : Reply × Memory). One out.1 y.1) (sym alike) (one_next s m x c) in
      rest here _ refl refl (let y : p.entries + 1 ≡ suc done = omega (arith, pd) in y) h
  either_way rest false false e h =
      ap (λ (t : Bool). told (cond t (obey_all rs (next false false)) (next false false))) e
      ∙ ap₂ (λ (i j : ℕ). record { number = i; done = j }) numbers pd

  pub one_record_lem : Rest → ((obey_all (r ∷ rs) p).stop ≡ 14 → ⊥) → told (obey_all (r ∷ rs) p) ≡ (run_records done (r ∷ rs) s).0
  unfolding obey_all run_records
  one_record_lem rest h =
      let tight = ltb (length p.listing - p.written) (room_needed false) in
      either_way rest tight (eqb (number_of mine.0) 0) refl h
      ∙ ap (λ (k : ℕ). (cond (eqb k 0) (run_records (suc done) rs out.1) (record { number = number_of out.0; done = done }, out.1)).0) numbers

pub all_records : (rs : List BoardRecord) (s : StationMemory) (m : Memory) → One s m → (p : Progress) → p.memory ≡ m → p.stop ≡ 0 → (done : ℕ) → p.entries ≡ done
    → ((obey_all rs p).stop ≡ 14 → ⊥) → told (obey_all rs p) ≡ (run_records done rs s).0
unfolding obey_all run_records
all_records [] s m x p pm z done pd h = ap₂ (λ (i j : ℕ). record { number = i; done = j }) z pd
all_records (r ∷ rs) s m x p pm z done pd h =
    one_record_lem r rs s m x p pm z done pd (λ y q qm qz qd k. all_records rs _ _ y q qm qz (suc done) qd k) h
