-- What the set-up makes of gathered process records, stored back, is `station`'s set-up.
use mathlib.Core.Path.{◌≡◌, refl, sym, ap, ◌∙◌}
use mathlib.Core.List.{List}
use mathlib.Core.Bool.{Bool, true, false, cond}
use Prim.Native.Nat.{ℕ, ◌+◌, ◌≤◌}
use native.Mathlib.Omega.{arith}
use lib.Dec.{eqb, ltb}
use lib.ListN.{length}
use borrow.Author.Tests.{le-ltb, ltb-false, eqb-true, eq-eqb, ne_eqb}
use Rattle.llsc.specs.Rows.{row1, row2, row8always}
use Rattle.rows.proofs.RowLaws.{cleared, neither}
use Rattle.station.specs.declared.Station.{Station}
use Rattle.station.specs.declared.StationProcess.{StationProcess}
use Rattle.station.specs.Station.{station_memory, station_words}
use Rattle.station.specs.StationRefusals.{row23, row3of}
use Rattle.station.specs.StationSetUp.{firsts, empty_process, station_process_at_set_up, station_set_up}
use Rattle.station_facts.proofs.Firsts.{firsts_same}
use Rattle.lent.specs.Gathered.{gathered}
use Rattle.station_records.specs.Gathered.{processes_stored}
use Rattle.station_records.proofs.StoredLaws.{stored_firsts}
use Rattle.station_setup.specs.StationSetUpByValue.{process_for, station_set_up_number, station_prepared}
use Rattle.station_setup.proofs.StationSetUpLaws.{set_up_fits, set_up_law, prepared_number}
use Rattle.station_setup.specs.SetUpGathered.{with_processes, set_up_gathered, stored_up}
use Rattle.llsc.proofs.RefusalNumbers.{number_some}

-- for a process of a set-up, the record is the set-up's
for_process : (n r i : ℕ) (q : StationProcess) → n ≤ 16 → r ≤ 8 → i ≤ 16 → process_for n r i q ≡ station_process_at_set_up n r i q
unfolding process_for
for_process n r i q hn hr hi = simp (le-ltb 16 n hn, le-ltb 8 r hr, le-ltb 16 i hi)

-- records that are set up by value and stored back one by one
stored_set_up : (n r : ℕ) (ps : List StationProcess) → n ≤ 16 → r ≤ 8 → n ≤ length ps
    → processes_stored ps (firsts (process_for n r) 0 n (gathered ps empty_process 16)) n ≡ firsts (station_process_at_set_up n r) 0 n ps
stored_set_up n r ps hn hr hl =
    stored_firsts (process_for n r) ps n hn hl
    ∙ firsts_same (process_for n r) (station_process_at_set_up n r) 0 n ps (λ i q h. for_process n r (0 + i) q hn hr (omega arith))

-- where the number is 0, enough process records are lent
enough : (n w r len words value : ℕ) → station_set_up_number n w r len words value ≡ 0 → n ≤ len
unfolding station_set_up_number
enough n w r len words value e =
    let r8 : ℕ = cond (row8always w value).holds 8 0 in
    let r3 : ℕ = cond (row3of n w r len words).holds 3 r8 in
    let r23 : ℕ = cond (row23 r).holds 23 r3 in
    let r2 : ℕ = cond (row2 w).holds 2 r23 in
    let c1 = cleared (row1 n).holds 0 r2 e in
    let c2 = cleared (row2 w).holds 1 r23 c1.1 in
    let c23 = cleared (row23 r).holds 22 r3 c2.1 in
    let c3 = cleared (row3of n w r len words).holds 2 r8 c23.1 in
    ltb-false len n (neither (ltb words (station_words n w r)) (ltb len n) c3.0).1

-- a set-up is done only where no row holds
done : (s : Station) (len n w r : ℕ) (v ws : List ℕ) → (station_prepared s len n w r v ws).0.0 ≡ 0
    → station_set_up_number n w r len (length ws) (length v) ≡ 0
done s len n w r v ws e = sym (prepared_number s len n w r v ws) ∙ e

pub few : {x : (ℕ × Station) × List ℕ} (s : Station) (len n w r : ℕ) (v ws : List ℕ) → x ≡ station_prepared s len n w r v ws → x.0.0 ≡ 0 → n ≤ 16
few s len n w r v ws e z =
    (set_up_fits n w r len (length ws) (length v) (done s len n w r v ws (ap (λ (y : (ℕ × Station) × List ℕ). y.0.0) (sym e) ∙ z))).n_most

-- one that is done has this N
pub prepared_n : {x : (ℕ × Station) × List ℕ} (s : Station) (len n w r : ℕ) (v ws : List ℕ) → x ≡ station_prepared s len n w r v ws → x.0.0 ≡ 0 → x.0.1.n ≡ n
unfolding station_prepared
prepared_n s len n w r v ws e z =
    ap (λ (y : (ℕ × Station) × List ℕ). y.0.1.n) e
    ∙ simp (eq-eqb (station_set_up_number n w r len (length ws) (length v)) 0 (done s len n w r v ws (ap (λ (y : (ℕ × Station) × List ℕ). y.0.0) (sym e) ∙ z)))

-- a refused one leaves the process records
pub all_stay : {x out : (ℕ × Station) × List ℕ} (all : List StationProcess) (n r : ℕ) → x ≡ out → (x.0.0 ≡ 0 → ⊥)
    → ((x.0, all), x.1) ≡ with_processes all n r out
all_stay {x} all n r e h =
    ap (λ (t : Bool). ((x.0, cond t (firsts (process_for n r) 0 n all) all), x.1)) (sym (ne_eqb x.0.0 0 h))
    ∙ ap (with_processes all n r) e

written : (n r : ℕ) (ps : List StationProcess) (t : Bool) → (t ≡ true → (n ≤ 16) × ((r ≤ 8) × (n ≤ length ps)))
    → cond t (processes_stored ps (cond t (firsts (process_for n r) 0 n (gathered ps empty_process 16)) (gathered ps empty_process 16)) n) ps
    ≡ cond t (firsts (station_process_at_set_up n r) 0 n ps) ps
written n r ps true h = let g = h refl in stored_set_up n r ps g.0 g.1.0 g.1.1
written n r ps false h = refl

pub set_up_same : (s : Station) (ps : List StationProcess) (ws : List ℕ) (n w r : ℕ) (v : List ℕ)
    → stored_up ps n (set_up_gathered s (gathered ps empty_process 16) (length ps) n w r v ws) ≡ station_set_up (station_memory s ps ws) n w r v
set_up_same s ps ws n w r v =
    let out : (ℕ × Station) × List ℕ = station_prepared s (length ps) n w r v ws in
    ap (λ (l : List StationProcess). (out.0.0, station_memory out.0.1 l out.1))
    (written n r ps (eqb (station_prepared s (length ps) n w r v ws).0.0 0) (λ h.
    let e = done s (length ps) n w r v ws (eqb-true _ 0 h) in
    let a = set_up_fits n w r (length ps) (length ws) (length v) e in
    (a.n_most, (a.r_most, enough n w r (length ps) (length ws) (length v) e))))
    ∙ set_up_law s ps ws n w r v

-- what `set_up_gathered` rests on
pub ruleset gathered_laws = (number_some, few, all_stay, prepared_n)
