-- The loop over a file's records, by value.
use mathlib.Core.Path.{◌≡◌, refl, sym, ap, ◌∙◌}
use mathlib.Core.List.{List, [], ◌∷◌}
use Rattle.std.specs.Prelude.{Ok, Err}
use Prim.Native.Nat.{ℕ, suc, ◌+◌, ◌<◌, ◌≤◌}
use native.Mathlib.Omega.{arith}
use native.Mathlib.Numerals.{add-one}
use lib.ListN.{length, get_or, drop}
use lib.Seq.{drop-cons}
use Rattle.std.proofs.lemmas.List.{drop_all}
use Rattle.boards.specs.Files.{BoardRecord, record_of}
use Rattle.boards.specs.Places.{read}
use Rattle.station.specs.declared.Station.{Station}
use Rattle.station.specs.declared.StationProcess.{StationProcess}
use Rattle.station_machine.specs.declared.Outcome.{Outcome}
use Rattle.station_machine.specs.StationDecision.{Decided}
use Rattle.board_commands.specs.declared.RunLeft.{RunLeft}
use Rattle.board_commands.specs.ByValue.{decided, left_with, processes_after, after_one, records_run}

-- what is left, and what is still to be done, is the whole
pub record Running (rs : List (List ℕ)) (s₀ : Station) (all₀ : List StationProcess) (len : ℕ) (ws₀ : List ℕ)
    (s : Station) (all : List StationProcess) (ws : List ℕ) (done : ℕ) : Type 0 where
  pub long : length ws ≡ length ws₀
  pub same : records_run 0 (read rs) s₀ all₀ len ws₀ ≡ records_run done (read (drop done rs)) s all len ws

-- a command and the records after it: on, or to an end
abbrev gone_on : ℕ → List BoardRecord → Station → List StationProcess → ℕ → Decided → RunLeft × List ℕ
gone_on done rs s all len d =
    after_one d (λ out ws'. records_run (suc done) rs out.station (processes_after all out) len ws') (λ number ws'. (left_with s all number done, ws'))

one_more : (done : ℕ) (r : BoardRecord) (rs : List BoardRecord) (s : Station) (all : List StationProcess) (len : ℕ) (ws : List ℕ) (d : Decided) → d ≡ decided s all len r ws
    → records_run done (r ∷ rs) s all len ws ≡ gone_on done rs s all len d
unfolding records_run
one_more done r rs s all len ws d e = ap (gone_on done rs s all len) (sym e)

module _ {rs : List (List ℕ)} {s₀ : Station} {all₀ : List StationProcess} {len : ℕ} {ws₀ : List ℕ} {s : Station} {all : List StationProcess} {ws : List ℕ} {done : ℕ}
    (m : Running rs s₀ all₀ len ws₀ s all ws done) where
  abbrev whole : RunLeft × List ℕ
  whole = records_run 0 (read rs) s₀ all₀ len ws₀

  abbrev r : BoardRecord
  r = record_of (get_or rs done [])

  abbrev rest : List BoardRecord
  rest = read (drop (done + 1) rs)

  module _ (some : done < length rs) (ws' : List ℕ) where
    opened : (d : Decided) → d ≡ decided s all len r ws → whole ≡ gone_on done rest s all len d
    opened d e = m.same ∙ rw (drop-cons rs done [] some, add-one done) (one_more done r (read (drop (suc done) rs)) s all len ws d e)

    pub refused : (k : ℕ) → ◌≡◌ {A = Decided} (Err k, ws') (decided s all len r ws) → (n : ℕ) → n ≡ k → (x : RunLeft) → x ≡ left_with s all n done → (x, ws') ≡ whole
    refused k e n h x q =
        ap (λ (x : RunLeft). (x, ws')) (q ∙ ap (λ (i : ℕ). left_with s all i done) h) ∙ sym (opened (Err k, ws') e)

    pub goes_on : (out : Outcome) → ◌≡◌ {A = Decided} (Ok out, ws') (decided s all len r ws) → length ws' ≡ length ws
        → Running rs s₀ all₀ len ws₀ out.station (processes_after all out) ws' (done + 1)
    goes_on out e l = record {
      long = l ∙ m.long;
      same =
          opened (Ok out, ws') e
          ∙ ap (λ (i : ℕ). records_run i rest out.station (processes_after all out) len ws') (let z : suc done ≡ done + 1 = omega arith in z);
    }

  pub ended : length rs ≤ done → (x : RunLeft) → x ≡ left_with s all 0 done → (x, ws) ≡ whole
  unfolding records_run
  ended z x q = ap (λ (x : RunLeft). (x, ws)) q ∙ sym (m.same ∙ rw (drop_all done rs z) refl)
