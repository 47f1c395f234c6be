-- The set-up of a text run: refused by its number, or done, with a sound run before its first entry.
use mathlib.Core.Path.{◌≡◌, refl, sym, ap, subst, ◌∙◌}
use mathlib.Core.Bool.{Bool, cond}
use mathlib.Core.List.{List, [], ◌∷◌, ◌++◌, map}
use Prim.Native.Nat.{ℕ, zero, suc, ◌+◌, ◌-◌, ◌*◌, ◌≤◌, ◌<◌}
use native.Mathlib.Omega.{arith}
use lib.ListN.{length, get_or, set, take, drop, replicate, length-append, length-replicate, get_or-append}
use lib.Seq.{sets, sets-eq, take-set-lt}
use Rattle.model.specs.declared.Bench.{Bench}
use Rattle.model.specs.declared.Process.{Process}
use Rattle.llsc.specs.Rows.{row1, row2}
use Rattle.model.specs.SetUp.{numbers, process_at_set_up, records_at_set_up, words_at_set_up, bench_at_set_up, at_set_up, set_up_refusal, set_up}
use Rattle.model.specs.Machine.{Memory, Shaped}
use Rattle.llsc.specs.Rows.{row8always}
use Rattle.model.specs.Refusals.{row3}
use Rattle.setup.specs.SetUpByValue.{set_up_number, set_up_number_lem, Accepted}
use Rattle.rows.proofs.RowLaws.{begins_in_order}
use Rattle.setup.proofs.SetUpLaws.{first_row_lem, set_up_fits, mapped_length}
use Rattle.notation.specs.Grammar.{largest}
use Rattle.text_entry.specs.RunState.{RunState, state_with, progress, Filled, Sound}
use Rattle.text_model.specs.Reached.{Reached}
use Rattle.text_model.specs.TextRun.{Progress, begun}
use Rattle.text_runs.specs.Runs.{fresh_run}
use Rattle.text_machine.specs.Finished.{memory_of, Lending}
use Rattle.text_entry.specs.declared.state.Held.{Held}
use Rattle.text_runs.specs.declared.runs.Run.{Run}
use Rattle.text_entry.proofs.WordLaws.{Every, every_replicate, take_replicate}
use Rattle.text_entry.proofs.FilledLaws.{filled_set, lent_length}
use Rattle.text_model.proofs.ReachedLaws.{reached_set_up}
use Rattle.text_entry.proofs.CommandLaws.{first_small}

pub number_small : (n w len words value : ℕ) → set_up_number n w len words value ≤ 9
unfolding set_up_number
number_small n w len words value = first_small (row1 n ∷ row2 w ∷ row3 n w len words ∷ row8always w value ∷ []) refl

-- row 3 leaves enough records
records_lent : (n w len words value : ℕ) → set_up_number n w len words value ≡ 0 → n ≤ len
unfolding set_up_number
records_lent n w len words value e = (begins_in_order n w len words (cond (row8always w value).holds 8 0) e).0.records_lent

-- the number that the code finds is the set-up's
pub set_up_same : (held : Held) (len : ℕ) (ws : List ℕ) (n w k : ℕ) → len ≤ 16 → Filled len held.all
    → set_up_number n w len (length ws) w ≡ set_up_refusal (memory_of held len ws) n w (replicate w k)
set_up_same held len ws n w k h f =
    ap (λ (j : ℕ). set_up_number n w j (length ws) w) (sym (lent_length h f)) ∙
    ap (set_up_number n w (length (take len held.all)) (length ws)) (sym (length-replicate w k)) ∙
    set_up_number_lem (memory_of held len ws) n w (replicate w k)

-- records stored in lent places
filled_sets : {len : ℕ} (list : List Process) (i : ℕ) (vs : List Process) → i + length vs ≤ len → Filled len list → Filled len (sets list i vs)
filled_sets list i [] h f = f
filled_sets list i (q ∷ vs) h f = filled_sets (set list i q) (suc i) vs (omega arith) (filled_set i q (omega arith) f)

take_sets : (len : ℕ) (list : List Process) (i : ℕ) (vs : List Process) → i + length vs ≤ len → take len (sets list i vs) ≡ sets (take len list) i vs
take_sets len list i [] h = refl
take_sets len list i (q ∷ vs) h = take_sets len (set list i q) (suc i) vs (omega arith) ∙ ap (λ (l : List Process). sets l (suc i) vs) (take-set-lt len list i q (omega arith))

every_append : (a b : List ℕ) → Every a → Every b → Every (a ++ b)
every_append a b p q = record { at = all a p.at }
  where
    all : (a : List ℕ) → ((i : ℕ) → get_or a i 0 ≤ largest) → (i : ℕ) → get_or (a ++ b) i 0 ≤ largest
    all [] h i = q.at i
    all (x ∷ a) h zero = h 0
    all (x ∷ a) h (suc i) = all a (λ j. h (suc j)) i

-- every word of the 5N rows is the value's or 0
words_small : (ws : List ℕ) (n w k : ℕ) → Accepted n w (length ws) w → k ≤ largest → (i : ℕ) → i < 5 * n * w → get_or (words_at_set_up ws n w (replicate w k)) i 0 ≤ largest
words_small ws n w k a h i l =
    let rest : List ℕ = replicate (5 * n * w - w) 0 in
    let u : List ℕ = replicate w k ++ rest in
    let f = first_row_lem n w a.n_some in
    let m : length u ≡ 5 * n * w = length-append (replicate w k) rest ∙ omega (arith, length-replicate w k, length-replicate {A = ℕ} (5 * n * w - w) 0) in
    rw (sets-eq u ws 0 (omega (arith, a.words_lent)), get_or-append u (drop (0 + length u) ws) 0 i (omega arith))
    ((every_append (replicate w k) rest (every_replicate w k h) (every_replicate (5 * n * w - w) 0 (omega arith))).at i)

module _ {len : ℕ} {list : List ℕ} (t : Bool) (held : Held) (ws : List ℕ) (x : Lending len held.all list) where
  module _ (n w k : ℕ) (small : k ≤ largest) (z : set_up_number n w len (length ws) w ≡ 0) where
    pub accepted : Accepted n w (length ws) w
    accepted = set_up_fits n w len (length ws) w z

    abbrev new_records : List Process
    new_records = map process_at_set_up (numbers (2 * n) n)

    in_lent : 0 + length new_records ≤ len
    in_lent = omega (arith, mapped_length process_at_set_up (2 * n) n, records_lent n w len (length ws) w z)

    abbrev pub first : RunState
    first = state_with (fresh_run (record { bench = bench_at_set_up held.bench n w; all = records_at_set_up held.all n }) t) 0 (words_at_set_up ws n w (replicate w k)) list 0

    pub begun_same : progress len first ≡ begun t (at_set_up (memory_of held len ws) n w (replicate w k)) list 0
    begun_same =
        ap (λ (l : List Process).
        begun t (record { bench = bench_at_set_up held.bench n w; records = l; words = words_at_set_up ws n w (replicate w k) }) list 0)
        (take_sets len held.all 0 new_records in_lent)

    pub set_up_done : set_up (memory_of held len ws) n w (replicate w k) ≡ (0, at_set_up (memory_of held len ws) n w (replicate w k))
    unfolding set_up
    set_up_done = let e : set_up_refusal (memory_of held len ws) n w (replicate w k) ≡ 0 = sym (set_up_same held len ws n w k x.few x.filled) ∙ z in rw e

    begun_reached : Shaped (memory_of held len ws) → Reached (progress len first).memory
    begun_reached shaped =
        let m = memory_of held len ws in
        let r : Reached (set_up m n w (replicate w k)).1 = reached_set_up m shaped n w (replicate w k) (ap (λ (o : ℕ × Memory). o.0) set_up_done) in
        subst Reached (ap (λ (o : ℕ × Memory). o.1) set_up_done ∙ sym (ap (λ (s : Progress). s.memory) begun_same)) r

    -- and so is one after its set-up
    pub begun_sound : Shaped (memory_of held len ws) → Sound len first
    begun_sound shaped = record {
      few = x.few;
      filled = filled_sets held.all 0 new_records in_lent x.filled;
      entries = omega arith;
      stop = omega arith;
      room = omega (arith, x.room);
      going = λ y. record { reached = begun_reached shaped; width = accepted.w_most; small = words_small ws n w k accepted small };
    }

    -- what the code holds after its set-up
    pub first_state_is : {r : Run Held} {b' : Bench} {all' : List Process} {ws' value : List ℕ}
        → r ≡ fresh_run (record { bench = b'; all = all' }) t → b' ≡ bench_at_set_up held.bench n w
        → all' ≡ records_at_set_up held.all n
        → ws' ≡ words_at_set_up ws n w (take w value) → value ≡ replicate 64 k → state_with r 0 ws' list 0 ≡ first
    first_state_is {value = value} er eb ea ew ev =
        let v : take w value ≡ replicate w k = ap (take w) ev ∙ take_replicate w 64 k accepted.w_most in
        rw (er, eb, ea, ew, v)
