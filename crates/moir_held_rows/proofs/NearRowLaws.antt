-- The rows of a command by a look at what it reads alone are those of the memory that the list stands for.
use mathlib.Core.Path.{◌≡◌, refl, sym, ap, ap₂, ◌∙◌}
use mathlib.Core.List.{List, [], ◌∷◌}
use mathlib.Core.Bool.{Bool, true, false, cond, not, ◌&&◌}
use Prim.Native.Nat.{ℕ, zero, suc, ◌-◌, ◌<◌}
use native.Mathlib.Omega.{arith}
use lib.Dec.{eqb}
use lib.ListN.{length, get_or, length-drop}
use borrow.Author.Tests.{leb-false, eqb-true, eqb-false, eq-eqb, ne_eqb, not-false}
use Rattle.llsc.specs.declared.Order.{Order}
use Rattle.llsc.specs.Rows.{first, brings_value, row1, row2, row4, row8}
use Rattle.laws.proofs.Updates.{contra}
use Rattle.serving.proofs.RefusalFacts.{and_true}
use Rattle.rows.proofs.RowLaws.{over, cleared}
use Rattle.station_rows.proofs.StationRowLaws.{same_row}
use Rattle.held_model.specs.Memory.{number_at}
use Rattle.held_rows.proofs.NearRowLaws.{nine, row_9, and_same}
use Rattle.moir_model.specs.declared.Process.{Process}
use Rattle.moir_model.specs.Records.{record_at}
use Rattle.moir_model.specs.Machine.{Memory}
use Rattle.moir_model.specs.Refusals.{row3, row5, row6, row7, process_rows}
use Rattle.moir_rows.specs.CommandRows.{lent_number}
use Rattle.moir_held_model.specs.Layout.{header_place, words_place}
use Rattle.moir_held_model.specs.Memory.{header_from, process_from, memory_of}
use Rattle.moir_held_model.specs.Ranges.{tag_ok, header_whole, process_whole, held_in_range, held_refusal, touched_ok, near_rest, near_refusal}
use Rattle.moir_held_model.proofs.MemoryLaws.{record_there, tag_there, sixteen}
use Rattle.moir_held_rows.specs.ListRows.{list_lent, LentList, touched_from, own_number, Admits, memory_number}
use Rattle.moir_held_rows.proofs.ListLaws.{lent_list, whole_ranges}

-- three rows before others: the first that holds answers, whatever follows, and where none does the others decide
abbrev pub three : Bool → Bool → Bool → ℕ → ℕ
three a b c rest = cond a 1 (cond b 2 (cond c 3 rest))

three_answer : (a b c : Bool) (rest : ℕ) → (three a b c 0 ≡ 0 → ⊥) → three a b c 0 ≡ three a b c rest
three_answer true b c rest h = refl
three_answer false true c rest h = refl
three_answer false false true rest h = refl
three_answer false false false rest h = absurd (h refl)

three_passed : (a b c : Bool) (rest : ℕ) → three a b c 0 ≡ 0 → rest ≡ three a b c rest
three_passed a b c rest e =
    let ca = cleared a 0 (cond b 2 (cond c 3 0)) e in
    let cb = cleared b 1 (cond c 3 0) ca.1 in
    let cc = cleared c 2 0 cb.1 in
    over a 1 ca.0 (over b 2 cb.0 (over c 3 cc.0 refl))

module _ (l : List ℕ) where
  abbrev n : ℕ
  n = number_at l 0

  abbrev w : ℕ
  w = number_at l 1

  abbrev m : Memory
  m = memory_of l

  abbrev room : ℕ
  room = length l - words_place

  -- rows 1, 2 and 3 of the memory are those of the list
  lent_is : (rest : ℕ) → three (row1 n).holds (row2 w).holds (row3 n w (length m.records) (length m.words)).holds rest
      ≡ three (row1 n).holds (row2 w).holds (row3 n w 16 room).holds rest
  lent_is rest =
      ap₂ (λ (i k : ℕ). three (row1 n).holds (row2 w).holds (row3 n w i k).holds rest) (sixteen l) (length-drop words_place l)

  module _ (a : LentList l) (p : ℕ) (o : Order) (v : List ℕ) where
    abbrev touched_by : Process → Bool
    touched_by q = header_whole n (header_from l header_place) && (process_whole n w q && tag_ok (get_or m.bench.tags q.word 0))

    touched_there : p < n → touched_from l p ≡ touched_ok m p
    touched_there h =
        ap (λ (t : Bool). header_whole n (header_from l header_place) && t)
        (and_same (process_whole n w (process_from l p)) _ _ (λ e.
        let small : (process_from l p).word < 64 = let r = whole_ranges n w (process_from l p) a.w_high e in omega (arith, r.word, a.w_high) in
        ap tag_ok (sym (tag_there l (process_from l p).word small))))
        ∙ ap touched_by (sym (record_there l p (omega (arith, h, a.n_high))))

    abbrev call_rows : Process → ℕ
    call_rows q = first (row8 o w (length v) ∷ row5 o q ∷ row6 o q ∷ row7 o q ∷ [])

    own_there : own_number l p o (length v) ≡ first (near_rest m p o v)
    own_there =
        same_row (row4 n p).holds 4 _ _ (λ e4.
        let b : p < n = leb-false n p e4 in
        ap₂ (λ (t : Bool) (q : Process). cond (not t) 9 (call_rows q)) (touched_there b) (sym (record_there l p (omega (arith, b, a.n_high)))))

  module _ (p : ℕ) (o : Order) (v : List ℕ) where
    near_is : near_refusal m p o v ≡ three (row1 n).holds (row2 w).holds (row3 n w 16 room).holds (first (near_rest m p o v))
    unfolding near_refusal
    near_is = lent_is (first (near_rest m p o v))

    near_lent : (list_lent l ≡ 0 → ⊥) → list_lent l ≡ near_refusal m p o v
    unfolding lent_number
    near_lent h = three_answer (row1 n).holds (row2 w).holds (row3 n w 16 room).holds _ h ∙ sym near_is

    pub near_refused : (k : ℕ) → k ≡ list_lent l → (k ≡ 0 → ⊥) → k ≡ near_refusal m p o v
    near_refused k e h = e ∙ near_lent (λ z. h (e ∙ z))

    pub near_own : list_lent l ≡ 0 → own_number l p o (length v) ≡ near_refusal m p o v
    unfolding lent_number
    near_own e = own_there (lent_list l e) p o v ∙ three_passed (row1 n).holds (row2 w).holds (row3 n w 16 room).holds _ e ∙ sym near_is

    -- what it means that no row holds
    pub near_admits : near_refusal m p o v ≡ 0 → Admits l p o v
    near_admits e = by (list_lent l) refl
      where
        given : (brings same : Bool) → brings && not same ≡ false → brings ≡ true → same ≡ true
        given true true h t = refl
        given true false h t = sym h
        given false same h t = absurd (contra t refl)

        admits : list_lent l ≡ 0 → own_number l p o (length v) ≡ 0 → Admits l p o v
        admits z h =
            let q = process_from l p in
            let rest : ℕ = first (row8 o w (length v) ∷ row5 o q ∷ row6 o q ∷ row7 o q ∷ []) in
            let c4 = cleared (row4 n p).holds 3 (cond (not (touched_from l p)) 9 rest) h in
            let ct = cleared (not (touched_from l p)) 8 rest c4.1 in
            let t = and_true (header_whole n (header_from l header_place)) _ (not-false _ ct.0) in
            let u = and_true (process_whole n w q) _ t.1 in
            let c8 = cleared (row8 o w (length v)).holds 7 (first (row5 o q ∷ row6 o q ∷ row7 o q ∷ [])) ct.1 in
            record {
              list = lent_list l z;
              below = leb-false n p c4.0;
              header = t.0;
              process = u.0;
              tag = u.1;
              value_words = λ b. eqb-true (length v) w (given (brings_value o) (eqb (length v) w) c8.0 b);
            }

        by : (k : ℕ) → k ≡ list_lent l → Admits l p o v
        by zero z = admits (sym z) (near_own (sym z) ∙ e)
        by (suc k) z = let f : ⊥ = omega (arith, near_refused (suc k) z (λ x. omega (arith, x)), e) in absurd f

    -- the rows of the memory alone
    late : ℕ
    late = first (process_rows n w p o (length v) (record_at m.records (record { 0 = p })))

    refusal_is : held_refusal m p o v ≡ three (row1 n).holds (row2 w).holds (row3 n w 16 room).holds (nine (held_in_range m) late)
    unfolding held_refusal late
    refusal_is = lent_is (nine (held_in_range m) late)

    by_lent : (k : ℕ) → k ≡ list_lent l → (memory_number l ≡ 0 → ⊥) → memory_number l ≡ held_refusal m p o v
    unfolding lent_number
    by_lent zero e h =
        let z : eqb (list_lent l) 0 ≡ true = eq-eqb (list_lent l) 0 (sym e) in
        let x : memory_number l ≡ nine (held_in_range m) 0 = ap (λ (t : Bool). cond t (nine (held_in_range m) 0) (list_lent l)) z in
        x ∙ row_9 (held_in_range m) late (λ y. h (x ∙ y)) ∙ three_passed (row1 n).holds (row2 w).holds (row3 n w 16 room).holds _ (sym e) ∙ sym refusal_is
    by_lent (suc k) e h =
        let no : list_lent l ≡ 0 → ⊥ = λ x. omega (arith, e, x) in
        ap (λ (t : Bool). cond t (nine (held_in_range m) 0) (list_lent l)) (ne_eqb (list_lent l) 0 no)
        ∙ three_answer (row1 n).holds (row2 w).holds (row3 n w 16 room).holds _ no ∙ sym refusal_is

    pub memory_refuses : (k : ℕ) → k ≡ memory_number l → (k ≡ 0 → ⊥) → k ≡ held_refusal m p o v
    memory_refuses k e h = e ∙ by_lent (list_lent l) refl (λ z. h (e ∙ z))

  pub memory_passes : memory_number l ≡ 0 → held_in_range m ≡ true
  memory_passes e = go (eqb (list_lent l) 0) refl e
    where
      passes : (t : Bool) → nine t 0 ≡ 0 → t ≡ true
      passes true h = refl
      passes false h = absurd (let z : ⊥ = omega (arith, h) in z)

      go : (t : Bool) → eqb (list_lent l) 0 ≡ t → cond t (nine (held_in_range m) 0) (list_lent l) ≡ 0 → held_in_range m ≡ true
      go true h z = passes (held_in_range m) z
      go false h z = absurd (eqb-false (list_lent l) 0 h z)
