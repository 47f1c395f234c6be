-- A turn over a held list is `turn_of` of the memory that it stands for.
use mathlib.Core.Path.{◌≡◌, refl, sym, ap, ap₂, subst, ◌∙◌}
use mathlib.Core.List.{List}
use mathlib.Core.Bool.{Bool, true, false, cond, not, ◌||◌}
use Prim.Native.Nat.{ℕ, zero, suc, ◌-◌, ◌<◌, ◌≤◌}
use native.Mathlib.Omega.{arith}
use lib.Dec.{eqb, leb}
use lib.ListN.{length, replicate, length-drop}
use borrow.Author.Tests.{eq-eqb, ne_eqb, le-ltb, lt-ltb}
use Rattle.std.proofs.lemmas.List.{length-replicate}
use Rattle.llsc.specs.Rows.{row1, row2}
use Rattle.laws.proofs.Updates.{contra}
use Rattle.station.specs.declared.StationProcess.{StationProcess}
use Rattle.station.specs.Station.{StationMemory}
use Rattle.station.specs.Projection.{at_rest}
use Rattle.station.specs.StationRefusals.{StationOrder, row23, row3of, record_for, station_in_range}
use Rattle.station.specs.StationCommand.{station_refusal}
use Rattle.station_rows.specs.StationCommandRows.{station_lent_number}
use Rattle.turns_model.specs.declared.NextCall.{NextCall}
use Rattle.turns_model.specs.Turns.{ListedCall, AfterTurn, start_by, step_by, turn_refused, turn_passed, turn_commands, idle_turn, counts_as_idle, lent_refusal, turn, counted, listed_as, turn_of}
use Rattle.turns_model.proofs.Theorems.{another_turn, refused_turn_is, busy_turn, idle_turn_is}
use Rattle.held_model.specs.declared.Told.{Told}
use Rattle.held_model.specs.Layout.{call_place, words_place}
use Rattle.held_model.specs.Memory.{number_at, process_in, memory_of}
use Rattle.held_model.specs.Told.{told_with}
use Rattle.held_model.specs.HeldCommand.{MarksAfter, Commanded}
use Rattle.held_model.proofs.TabLaws.{tab_length}
use Rattle.held_model.proofs.MemoryLaws.{process_there}
use Rattle.held_rows.specs.ListRows.{lent_number}
use Rattle.held_rows.specs.WholeRows.{memory_number}
use Rattle.held_rows.proofs.ListLaws.{lent_list}
use Rattle.held_rows.proofs.NearRowLaws.{four, four_answer, four_passed}
use Rattle.held_turns.specs.declared.HeldTurn.{HeldTurn}
use Rattle.held_turns.specs.TurnTold.{turned_told, order_given, turn_refusal, TurnDone}

pub idle_there : (l : List ℕ) (p : ℕ) → p ≤ 1 → {x : ℕ} → x ≡ number_at l 0 → leb x p || eqb (number_at l (call_place p)) 0 ≡ counts_as_idle (memory_of l) p
idle_there l p h e =
    ap (λ (y : ℕ). leb y p || eqb (number_at l (call_place p)) 0) e
    ∙ ap (λ (q : StationProcess). leb (number_at l 0) p || at_rest q) (sym (process_there (number_at l 2) l p (omega arith)))

module _ (l : List ℕ) where
  abbrev s : StationMemory
  s = memory_of l

  abbrev n : ℕ
  n = number_at l 0

  abbrev w : ℕ
  w = number_at l 1

  abbrev r : ℕ
  r = number_at l 2

  abbrev room : ℕ
  room = length l - words_place r

  abbrev nine : ℕ
  nine = cond (not (station_in_range s)) 9 0

  refusal_is : lent_refusal s ≡ four (row1 n).holds (row2 w).holds (row23 r).holds (row3of n w r 16 room).holds nine
  unfolding lent_refusal
  refusal_is =
      ap₂ (λ (i k : ℕ). four (row1 n).holds (row2 w).holds (row23 r).holds (row3of n w r i k).holds nine) (tab_length (process_in r l) 0 16) (length-drop (words_place r) l)

  by_lent : (k : ℕ) → k ≡ lent_number l → memory_number l ≡ lent_refusal s
  unfolding station_lent_number
  by_lent zero e =
      ap (λ (t : Bool). cond t nine (lent_number l)) (eq-eqb (lent_number l) 0 (sym e))
      ∙ four_passed (row1 n).holds (row2 w).holds (row23 r).holds (row3of n w r 16 room).holds nine (sym e) ∙ sym refusal_is
  by_lent (suc k) e =
      let no : lent_number l ≡ 0 → ⊥ = λ x. omega (arith, e, x) in
      ap (λ (t : Bool). cond t nine (lent_number l)) (ne_eqb (lent_number l) 0 no)
      ∙ four_answer (row1 n).holds (row2 w).holds (row23 r).holds (row3of n w r 16 room).holds nine no ∙ sym refusal_is

  pub memory_is : memory_number l ≡ lent_refusal s
  memory_is = by_lent (lent_number l) refl

  long_by : (k : ℕ) → k ≡ lent_number l → memory_number l ≡ 0 → 131 ≤ length l
  long_by zero e z = let a = lent_list l (sym e) in omega (arith, a.long)
  long_by (suc k) e z = absurd (let no : lent_number l ≡ 0 → ⊥ = λ x. omega (arith, e, x) in
      no (sym (ap (λ (t : Bool). cond t nine (lent_number l)) (ne_eqb (lent_number l) 0 no)) ∙ z))

  -- a list that is in order has the processes
  pub in_order_long : memory_number l ≡ 0 → 131 ≤ length l
  in_order_long z = long_by (lent_number l) refl z

  module _ (p : ℕ) (next : NextCall) (v : List ℕ) (left : ℕ) where
    abbrev call : ListedCall
    call = listed_as next v

    abbrev calls : List ListedCall
    calls = replicate left call

    abbrev tells : AfterTurn → HeldTurn
    tells a = turned_told s p (counted a).0

    abbrev Done : HeldTurn → List ℕ → Type 0
    Done t l' = TurnDone l p next v left t l'

    abbrev Marks : HeldTurn → List ℕ → Type 0
    Marks t l' = turn_refusal s p call ≡ 0 → t.passed ≡ false → MarksAfter l l' p (record_for s (order_given s p call)).0

    done : {t : HeldTurn} {l' : List ℕ} (a : AfterTurn) → turn s p calls ≡ a → t ≡ tells a → memory_of l' ≡ a.memory → Marks t l' → ((turn_refusal s p call ≡ 0 → ⊥) → l' ≡ l)
        → (t.passed ≡ true → l' ≡ l) → Done t l'
    unfolding turn_of
    done a e x y k z u = record {
      marks = k;
      answer = x ∙ ap tells (sym e);
      memory = y ∙ ap (λ (b : AfterTurn). b.memory) (sym e);
      refused = z;
      passed = u;
    }

    left_is : length calls ≡ left
    left_is = length-replicate left call

    abbrev mk : Told → Bool → ℕ → HeldTurn
    mk t b k = record { told = t; passed = b; left = k }

    -- a turn of another process
    refused_other : 1 < p → turn_refusal s p call ≡ 22
    refused_other h = ap (λ (t : Bool). cond t 22 (cond (eqb (lent_refusal s) 0) (station_refusal s (order_given s p call)) (lent_refusal s))) (lt-ltb 1 p h)

    pub other_done : {x : Told} → 1 < p → x ≡ told_with 22 0 false 0 → Done (mk x false left) l
    other_done {x} h e =
        done (turn_refused 22 s calls) (another_turn s p calls h) (ap₂ (λ (t : Told) (k : ℕ). mk t false k) e (sym left_is)) refl
        (λ z. absurd (let y : ⊥ = omega (arith, z, refused_other h) in y)) (λ z. refl) (λ z. refl)

    module _ (low : p ≤ 1) where
      refused_lent : (lent_refusal s ≡ 0 → ⊥) → turn_refusal s p call ≡ lent_refusal s
      refused_lent n =
          ap (λ (t : Bool). cond t 22 (cond (eqb (lent_refusal s) 0) (station_refusal s (order_given s p call)) (lent_refusal s))) (le-ltb 1 p low)
          ∙ ap (λ (t : Bool). cond t (station_refusal s (order_given s p call)) (lent_refusal s)) (ne_eqb (lent_refusal s) 0 n)

      pub lent_done : {x : Told} (k : ℕ) → k ≡ memory_number l → (k ≡ 0 → ⊥) → x ≡ told_with k 0 false 0 → Done (mk x false left) l
      lent_done {x} k e some h =
          let is : k ≡ lent_refusal s = e ∙ memory_is in
          done (turn_refused (lent_refusal s) s calls) (refused_turn_is s p calls low (λ z. some (is ∙ z)))
          (ap₂ (λ (t : Told) (j : ℕ). mk t false j) (h ∙ ap (λ (j : ℕ). told_with j 0 false 0) is) (sym left_is)) refl
          (λ z. absurd (some (is ∙ sym (refused_lent (λ y. some (is ∙ y))) ∙ z))) (λ z. refl) (λ z. refl)

      module _ (ok : memory_number l ≡ 0) where
        none : lent_refusal s ≡ 0
        none = sym memory_is ∙ ok

        refusal_by : (b : Bool) → counts_as_idle s p ≡ b → turn_refusal s p call ≡ station_refusal s (cond b (start_by p call) (step_by p))
        refusal_by b e =
            ap (λ (t : Bool). cond t 22 (cond (eqb (lent_refusal s) 0) (station_refusal s (order_given s p call)) (lent_refusal s))) (le-ltb 1 p low)
            ∙ ap (λ (t : Bool). cond t (station_refusal s (order_given s p call)) (lent_refusal s)) (eq-eqb (lent_refusal s) 0 none)
            ∙ ap (λ (t : Bool). station_refusal s (cond t (start_by p call) (step_by p))) e

        marks_by : {l' : List ℕ} (b : Bool) → counts_as_idle s p ≡ b
            → (station_refusal s (cond b (start_by p call) (step_by p)) ≡ 0 → MarksAfter l l' p (record_for s (cond b (start_by p call) (step_by p))).0)
            → turn_refusal s p call ≡ 0 → MarksAfter l l' p (record_for s (order_given s p call)).0
        marks_by {l'} b e h z =
            subst (λ (c : StationOrder). MarksAfter l l' p (record_for s c).0) (sym (ap (λ (t : Bool). cond t (start_by p call) (step_by p)) e)) (h (sym (refusal_by b e) ∙ z))

        pub step_turn : {x : Told} {l' : List ℕ} → counts_as_idle s p ≡ false → Commanded l (step_by p) x l' → Done (mk x false left) l'
        step_turn {x} {l'} e d =
            done (turn_commands s (step_by p) calls) (busy_turn s p calls low none e) (ap₂ (λ (t : Told) (k : ℕ). mk t false k) d.answer (sym left_is)) d.memory
            (λ z u. marks_by false e d.marks z) (λ z. d.refused (λ y. z (refusal_by false e ∙ y))) (λ z. absurd (contra z refl))

        pub pass_turn : {x : Told} → counts_as_idle s p ≡ true → left ≡ 0 → x ≡ told_with 0 0 false 0 → Done (mk x true 0) l
        pass_turn {x} e z h =
            done (turn_passed s) (idle_turn_is s p calls low none e ∙ ap (λ (k : ℕ). idle_turn s p (replicate k call)) z) (ap (λ (t : Told). mk t true 0) h) refl (λ y u. absurd (contra refl u))
            (λ y. refl) (λ y. refl)

        pub start_turn : {x : Told} {l' : List ℕ} → counts_as_idle s p ≡ true → (left ≡ 0 → ⊥) → Commanded l (start_by p call) x l' → Done (mk x false (left - 1)) l'
        start_turn {x} {l'} e z d =
            let more : left ≡ suc (left - 1) = omega (arith, z) in
            done (turn_commands s (start_by p call) (replicate (left - 1) call))
            (idle_turn_is s p calls low none e ∙ ap (λ (k : ℕ). idle_turn s p (replicate k call)) more)
            (ap₂ (λ (t : Told) (k : ℕ). mk t false k) d.answer (sym (length-replicate (left - 1) call))) d.memory
            (λ y u. marks_by true e d.marks y) (λ y. d.refused (λ u. y (refusal_by true e ∙ u))) (λ y. absurd (contra y refl))
