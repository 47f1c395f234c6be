-- The by-value command is the command: what `station_decided` makes of the gathered records, stored back, is what
-- `station`'s command says.
use mathlib.Core.Path.{◌≡◌, refl, sym, ap, ◌∙◌}
use mathlib.Core.List.{List, []}
use mathlib.Core.Bool.{Bool, cond, not, ◌&&◌}
use Prim.Native.Nat.{ℕ, zero, suc, ◌≤◌, ◌<◌}
use native.Mathlib.Omega.{arith}
use lib.ListN.{length, get_or}
use borrow.Author.Tests.{eq-eqb, ne_eqb, leb-false}
use Rattle.llsc.specs.declared.Order.{Order}
use Rattle.llsc.specs.Rows.{every, row4, row8}
use Rattle.model.specs.Refusals.{bench_ok}
use Rattle.model.specs.SetUp.{numbers}
use Rattle.station.specs.declared.Station.{Station}
use Rattle.station.specs.declared.StationProcess.{StationProcess}
use Rattle.station.specs.Station.{StationMemory, station_memory, no_station_process, holding_at}
use Rattle.station.specs.StationRefusals.{StationOrder, record_about, row24, row5of, row6of, row7of, station_in_range, station_process_ok}
use Rattle.station.specs.StationCommand.{station_refusal, station_command}
use Rattle.station.specs.StationSetUp.{empty_process}
use Rattle.station_records.specs.TakenOut.{bench_in}
use Rattle.lent.specs.Gathered.{gathered}
use Rattle.lent.proofs.GatheredLaws.{gathered_at, gathered_take}
use Rattle.station_rows.specs.StationCommandRows.{station_number}
use Rattle.station_rows.proofs.StationRowLaws.{same_row, same_then}
use Rattle.station_machine.specs.StationDecision.{obeyed_at, obeyed_on, station_decided, stored_back}
use Rattle.station_facts.proofs.Accepts.{accepts}
use Rattle.station_machine.proofs.StationObeyLaws.{refused_law, obeyed_law}

module _ (s : Station) (ps : List StationProcess) (ws : List ℕ) where
  abbrev all : List StationProcess
  all = gathered ps empty_process 16

  abbrev lent : StationMemory
  lent = station_memory s ps ws

  pub same_range : s.n ≤ 16 → s.n ≤ length ps → station_in_range (station_memory s all []) ≡ station_in_range lent
  unfolding station_in_range
  same_range h k =
      ap (λ (l : List StationProcess). every (λ j. bench_ok (bench_in s (record { 0 = j }))) (numbers 0 s.r) && every (station_process_ok s.n s.w s.r) l)
      (gathered_take ps no_station_process empty_process s.n h k)

  pub same_process : (p : ℕ) → p < s.n → s.n ≤ 16 → s.n ≤ length ps
      → get_or all p no_station_process ≡ get_or ps p no_station_process
  same_process p l h k = gathered_at ps no_station_process empty_process 16 p (omega arith) (omega arith) (omega arith)

  module _ (p : ℕ) (o : Order) (named : ℕ) (v : List ℕ) where
    abbrev c : StationOrder
    c = record { process = p; order = o; called = named; value = v }

    abbrev number : ℕ
    number = station_number s all (length ps) p o named (length v) (length ws)

    -- rows 24, 8, 5, 6, 7 of a process record
    abbrev calls : StationProcess → ℕ
    calls q =
        cond (row24 o s.r named).holds 24 (cond (row8 o s.w (length v)).holds 8
        (cond (row5of o q).holds 5 (cond (row6of o q).holds 6 (cond (row7of o (holding_at q (record_about o named q))).holds 7 0))))

    abbrev from_9 : Bool → StationProcess → ℕ
    from_9 t q = cond (not t) 9 (cond (row4 s.n p).holds 4 (calls q))

    same_number : number ≡ station_refusal lent c
    unfolding station_number station_refusal
    same_number =
        same_then s.n s.w s.r (length ps) (length ws)
        (from_9 (station_in_range (station_memory s all [])) (get_or all p no_station_process))
        (from_9 (station_in_range lent) (get_or ps p no_station_process))
        (λ h.
        ap (λ (t : Bool). from_9 t (get_or all p no_station_process)) (same_range h.n_most h.processes_lent) ∙
        same_row (not (station_in_range lent)) 9 _ _ (λ r. same_row (row4 s.n p).holds 4 _ _ (λ t.
        ap calls (same_process p (leb-false s.n p t) h.n_most h.processes_lent))))

    by_number : (k : ℕ) → number ≡ k → stored_back s ps (station_decided s all (length ps) p o named v ws) ≡ station_command lent c
    unfolding station_command
    by_number zero e =
        let h = accepts lent c (sym same_number ∙ e) in
        let q = same_process p h.below h.n_high h.processes in
        ap (stored_back s ps) (sym (obeyed_law s all (length ps) p o named v ws _ e refl)) ∙
        ap (λ (r : StationProcess). stored_back s ps (obeyed_at s (record_about o named r) r p (obeyed_on s (record_about o named r) r p o v ws))) q ∙
        simp (eq-eqb (station_refusal lent c) 0 (sym same_number ∙ e))
    by_number (suc k) e =
        let n : number ≡ 0 → ⊥ = λ z. omega (arith, e, z) in
        ap (stored_back s ps) (sym (refused_law s all (length ps) p o named v ws number refl n)) ∙
        simp (same_number, ne_eqb (station_refusal lent c) 0 (λ z. n (same_number ∙ z)))

    pub decision_law : stored_back s ps (station_decided s (gathered ps empty_process 16) (length ps) p o named v ws) ≡ station_command (station_memory s ps ws) c
    decision_law = by_number number refl
