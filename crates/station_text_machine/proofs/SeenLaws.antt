-- The processes as record 0 has them: gathered and then seen, or seen and then gathered.
use mathlib.Core.Path.{◌≡◌, refl, sym, ap, ap₂, ◌∙◌}
use mathlib.Core.List.{List, [], ◌∷◌, map}
use Prim.Native.Nat.{ℕ, zero, suc, ◌<◌}
use native.Mathlib.Omega.{arith}
use lib.ListN.{length, get_or, set, take, length-take}
use lib.Seq.{get_or-take, ext_get_or}
use Rattle.std.proofs.lemmas.List.{map-set}
use Rattle.model.specs.declared.Process.{Process}
use Rattle.model.specs.Records.{no_process}
use Rattle.lent.specs.Gathered.{gathered}
use Rattle.lent.proofs.GatheredLaws.{gathered_length, gathered_here}
use Rattle.station.specs.declared.StationProcess.{StationProcess}
use Rattle.station.specs.Projection.{process_of}
use Rattle.station.specs.StationSetUp.{empty_process}
use Rattle.station_text_machine.specs.StationText.{record0}

-- the gathered records, as many as are lent, are the first sixteen lent ones
pub gathered_few : (l : List Process) → take (length l) (gathered l no_process 16) ≡ take 16 l
gathered_few l =
    ext_get_or no_process (take (length l) g) (take 16 l)
    (simp (length-take, gathered_length) (omega arith))
    (λ i s. let a = length-take (length l) g in let b = gathered_length l no_process 16 in let t : i < 16 = omega arith in let u : i < length l = omega arith in
    get_or-take (length l) g i no_process u ∙ gathered_here l no_process 16 i (omega arith) t ∙ sym (get_or-take 16 l i no_process t))
  where
    g : List Process
    g = gathered l no_process 16

-- lists that agree below i are gathered alike
gathered_alike : (l m : List Process) (d : Process) (i : ℕ) → ((j : ℕ) → j < i → get_or l j d ≡ get_or m j d) → gathered l d i ≡ gathered m d i
unfolding gathered
gathered_alike l m d zero h = refl
gathered_alike l m d (suc i) h =
    ap (λ (r : List Process). set r i (get_or l i d)) (gathered_alike l m d i (λ j lt. h j (omega arith))) ∙
    ap (set (gathered m d i) i) (h i (omega arith))

-- gathered again, they are the same
pub gathered_again : (l : List Process) → gathered l no_process 16 ≡ gathered (take (length l) (gathered l no_process 16)) no_process 16
gathered_again l =
    gathered_alike l (take 16 l) no_process 16 (λ j lt. sym (get_or-take 16 l j no_process lt)) ∙
    ap (λ (m : List Process). gathered m no_process 16) (sym (gathered_few l))

-- a process as record 0 has it
abbrev seen : StationProcess → Process
seen q = process_of record0 q

pub map_at : (l : List StationProcess) (i : ℕ) → get_or (map seen l) i no_process ≡ seen (get_or l i empty_process)
map_at [] i = refl
map_at (q ∷ l) zero = refl
map_at (q ∷ l) (suc i) = map_at l i

gathered_seen : (ps : List StationProcess) (i : ℕ) → map seen (gathered ps empty_process i) ≡ gathered (map seen ps) no_process i
unfolding gathered
gathered_seen ps zero = refl
gathered_seen ps (suc i) =
    map-set seen (gathered ps empty_process i) i (get_or ps i empty_process)
    ∙ ap₂ (λ (l : List Process) (q : Process). set l i q) (gathered_seen ps i) (sym (map_at ps i))

pub seen_gathered : (ps : List StationProcess) → map seen (gathered ps empty_process 16) ≡ gathered (map seen ps) no_process 16
seen_gathered ps = gathered_seen ps 16
