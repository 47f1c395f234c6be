-- The rows of a command by a look at what it reads alone are those of the memory that the list stands for.
use mathlib.Core.Path.{◌≡◌, refl, sym, ap, ap₂, ◌∙◌}
use mathlib.Core.List.{List, [], ◌∷◌}
use mathlib.Core.Bool.{Bool, true, false, cond, not, ◌&&◌}
use Prim.Native.Nat.{ℕ, zero, suc, ◌-◌, ◌<◌}
use native.Mathlib.Omega.{arith}
use lib.Dec.{eqb}
use borrow.Author.Tests.{leb-false, eqb-true, eqb-false, eq-eqb, ne_eqb, not-false}
use lib.ListN.{length, drop, length-drop}
use Rattle.llsc.specs.declared.Order.{Order}
use Rattle.llsc.specs.Rows.{first, brings_value, row1, row2, row4, row8}
use Rattle.model.specs.declared.Bench.{Bench}
use Rattle.model.specs.declared.Process.{Process}
use Rattle.model.specs.Places.{BankPlace, HelpPlace}
use Rattle.model.specs.Points.{point_of}
use Rattle.model.specs.Refusals.{x_place_ok, bank_place_ok, help_place_ok, process_ok}
use Rattle.taken.specs.Taken.{bank_index, help_index}
use Rattle.taken.specs.Ranges.{Ready}
use Rattle.taken.proofs.IndexLaws.{bank_index_small, help_index_small}
use Rattle.laws.proofs.Updates.{contra}
use Rattle.serving.proofs.RefusalFacts.{and_true}
use Rattle.rows.proofs.RowLaws.{over, cleared}
use Rattle.station.specs.declared.RecordNumber.{RecordNumber}
use Rattle.station.specs.declared.Tables.{Tables}
use Rattle.station.specs.declared.Holding.{Holding}
use Rattle.station.specs.declared.StationProcess.{StationProcess}
use Rattle.station.specs.Station.{StationMemory, process_at, holding_at}
use Rattle.station.specs.Projection.{bench_of, process_of, elsewhere}
use Rattle.station.specs.StationRefusals.{StationOrder, record_about, row23, row3of, row24, row5of, row6of, row7of, called_ok}
use Rattle.station.specs.StationRefusals.{station_in_range, station_process_rows}
use Rattle.station.specs.StationCommand.{station_refusal}
use Rattle.station_rows.specs.StationCommandRows.{station_lent_number}
use Rattle.station_rows.proofs.StationRowLaws.{same_row}
use Rattle.held_model.specs.Layout.{record_place, words_place}
use Rattle.held_model.specs.Memory.{number_at, x_from, tables_from, held_from, process_in, memory_of}
use Rattle.held_model.specs.Near.{places_ok, near_rest, near_refusal}
use Rattle.held_model.proofs.TabLaws.{tab_length}
use Rattle.held_model.proofs.MemoryLaws.{tables_there, process_there, holding_there, bank_there, help_there}
use Rattle.held_rows.specs.Reads.{seen_from}
use Rattle.held_rows.specs.ListRows.{lent_number, LentList, places_from, touched_from, own_number, about, Admits}
use Rattle.held_rows.specs.WholeRows.{memory_number}
use Rattle.held_rows.proofs.ListLaws.{lent_list, list_ready, about_below}

-- four rows before others: the first that holds answers, whatever follows, and where none does the others decide
abbrev pub four : Bool → Bool → Bool → Bool → ℕ → ℕ
four a b c d rest = cond a 1 (cond b 2 (cond c 23 (cond d 3 rest)))

pub four_answer : (a b c d : Bool) (rest : ℕ) → (four a b c d 0 ≡ 0 → ⊥) → four a b c d 0 ≡ four a b c d rest
four_answer true b c d rest h = refl
four_answer false true c d rest h = refl
four_answer false false true d rest h = refl
four_answer false false false true rest h = refl
four_answer false false false false rest h = absurd (h refl)

pub four_passed : (a b c d : Bool) (rest : ℕ) → four a b c d 0 ≡ 0 → rest ≡ four a b c d rest
four_passed a b c d rest e =
    let ca = cleared a 0 (cond b 2 (cond c 23 (cond d 3 0))) e in
    let cb = cleared b 1 (cond c 23 (cond d 3 0)) ca.1 in
    let cc = cleared c 22 (cond d 3 0) cb.1 in
    let cd = cleared d 2 0 cc.1 in
    over a 1 ca.0 (over b 2 cb.0 (over c 23 cc.0 (over d 3 cd.0 refl)))

-- row 9 refuses where it holds; where it does not, the list is in range
abbrev pub nine : Bool → ℕ → ℕ
nine t rest = cond (not t) 9 rest

pub row_9 : (t : Bool) (rest : ℕ) → (nine t 0 ≡ 0 → ⊥) → nine t 0 ≡ nine t rest
row_9 true rest h = absurd (h refl)
row_9 false rest h = refl

pub and_same : (a x y : Bool) → (a ≡ true → x ≡ y) → a && x ≡ a && y
and_same true x y f = f refl
and_same false x y f = refl

module _ (l : List ℕ) where
  abbrev n : ℕ
  n = number_at l 0

  abbrev w : ℕ
  w = number_at l 1

  abbrev r : ℕ
  r = number_at l 2

  abbrev s : StationMemory
  s = memory_of l

  -- a process as record j's bench has it, and that bench
  pub seen_there : (j p : ℕ) → j < r → j < 8 → process_of (record { 0 = j }) (process_in r l p) ≡ seen_from l j p
  seen_there j p h k =
      let q = process_in r l p in let i : RecordNumber = record { 0 = j } in
      ap (λ (x : Holding). record {
        mybuf = x.mybuf;
        x = x.x;
        line = cond (elsewhere i q) 0 q.line;
        word = cond (elsewhere i q) 0 q.word;
        count = cond (elsewhere i q) 0 q.count;
        answered = x.answered;
        b = q.b;
        c = q.c;
        d = q.d;
        e = q.e;
      }) (holding_there r l p j h k)

  abbrev pub bench_from : ℕ → Bench
  bench_from j = record { n = n; w = w; x = (tables_from l j).x; bank = (tables_from l j).bank; help = (tables_from l j).help }

  pub bench_there : (j : ℕ) → j < r → j < 8 → bench_of s (record { 0 = j }) ≡ bench_from j
  bench_there j h k = ap (λ (t : Tables). record { n = n; w = w; x = t.x; bank = t.bank; help = t.help }) (tables_there r l j h k)

  places_there : (j p : ℕ) (q : Process) → (bank_index (point_of q.line) n q).0 < 32 → (help_index (point_of q.line) n (record { 0 = p }) q).0 < 16
      → places_ok (bench_from j) p q ≡ places_from l n j p q
  places_there j p q hi hk =
      ap₂ (λ (b : BankPlace) (h : HelpPlace). x_place_ok n (x_from l (record_place j)) && (bank_place_ok n b && help_place_ok n h))
      (bank_there l j (bank_index (point_of q.line) n q).0 hi) (help_there l j (help_index (point_of q.line) n (record { 0 = p }) q).0 hk)

  module _ (a : LentList l) (p : ℕ) (o : Order) (named : ℕ) (v : List ℕ) where
    abbrev c : StationOrder
    c = record { process = p; order = o; called = named; value = v }

    -- row 9, of what could be touched
    touched_there : (j : ℕ) → j < r → p < n → process_ok n w (process_of (record { 0 = j }) (process_in r l p)) && places_ok (bench_of s (record { 0 = j })) p (process_of (record { 0 = j }) (process_in r l p))
        ≡ touched_from l j p
    touched_there j h b =
        let k : j < 8 = omega (arith, h, a.r_high) in
        ap₂ (λ (q : Process) (t : Bench). process_ok n w q && places_ok t p q) (seen_there j p h k) (bench_there j h k)
        ∙ and_same (process_ok n w (seen_from l j p)) _ _ (λ e.
        let z : Ready n w (seen_from l j p) (record { 0 = p }) (drop (words_place r) l) = list_ready l j p a b e in
        places_there j p (seen_from l j p) (bank_index_small z (point_of (seen_from l j p).line)) (help_index_small z (point_of (seen_from l j p).line)))

    -- rows 8, 5, 6, 7
    abbrev call_rows : StationProcess → Holding → ℕ
    call_rows q h = first (row8 o w (length v) ∷ row5of o q ∷ row6of o q ∷ row7of o h ∷ [])

    -- rows 9, 24, 9 and these, with the process's record
    abbrev after_4 : StationProcess → ℕ
    after_4 q =
        let j = record_about o named q in
        cond (not (called_ok r q)) 9 (cond (row24 o r named).holds 24
        (cond (not (process_ok n w (process_of j q) && places_ok (bench_of s j) p (process_of j q))) 9 (call_rows q (holding_at q j))))

    own_there : own_number l p o named (length v) ≡ first (near_rest s c)
    own_there =
        same_row (row4 n p).holds 4 _ _ (λ e4.
        let b : p < n = leb-false n p e4 in
        let q = process_in r l p in
        let j = (record_about o named q).0 in
        same_row (not (called_ok r q)) 9 _ _ (λ e9.
        same_row (row24 o r named).holds 24 _ _ (λ e24.
        let h : j < r = about_below o r named q (not-false (called_ok r q) e9) e24 in
        ap₂ (λ (t : Bool) (x : Holding). cond (not t) 9 (call_rows q x)) (sym (touched_there j h b)) (sym (holding_there r l p j h (omega (arith, h, a.r_high))))))
        ∙ ap after_4 (sym (process_there r l p (omega (arith, b, a.n_high)))))

  module _ (p : ℕ) (o : Order) (named : ℕ) (v : List ℕ) where
    abbrev asked : StationOrder
    asked = record { process = p; order = o; called = named; value = v }

    abbrev words : ℕ
    words = length l - words_place r

    near_is : near_refusal s asked ≡ four (row1 n).holds (row2 w).holds (row23 r).holds (row3of n w r 16 words).holds (first (near_rest s asked))
    unfolding near_refusal
    near_is =
        ap₂ (λ (i k : ℕ). four (row1 n).holds (row2 w).holds (row23 r).holds (row3of n w r i k).holds (first (near_rest s asked)))
        (tab_length (process_in r l) 0 16) (length-drop (words_place r) l)

    -- the first of rows 1, 2, 23, 3 that holds answers; where none does, the others decide
    near_lent : (lent_number l ≡ 0 → ⊥) → lent_number l ≡ near_refusal s asked
    unfolding station_lent_number
    near_lent h = four_answer (row1 n).holds (row2 w).holds (row23 r).holds (row3of n w r 16 words).holds _ h ∙ sym near_is

    pub near_refused : (k : ℕ) → k ≡ lent_number l → (k ≡ 0 → ⊥) → k ≡ near_refusal s asked
    near_refused k e h = e ∙ near_lent (λ z. h (e ∙ z))

    pub near_own : lent_number l ≡ 0 → own_number l p o named (length v) ≡ near_refusal s asked
    unfolding station_lent_number
    near_own e =
        own_there (lent_list l e) p o named v ∙ four_passed (row1 n).holds (row2 w).holds (row23 r).holds (row3of n w r 16 words).holds _ e ∙ sym near_is

    -- what it means that no row holds
    pub near_admits : near_refusal s asked ≡ 0 → Admits l p o named v
    near_admits e = by (lent_number l) refl
      where
        given : (brings same : Bool) → brings && not same ≡ false → brings ≡ true → same ≡ true
        given true true h t = refl
        given true false h t = sym h
        given false same h t = absurd (contra t refl)

        admits : lent_number l ≡ 0 → own_number l p o named (length v) ≡ 0 → Admits l p o named v
        admits z h =
            let a = lent_list l z in
            let q = process_in r l p in
            let j = about l p o named in
            let rest : ℕ = first (row8 o w (length v) ∷ row5of o q ∷ row6of o q ∷ row7of o (held_from l p j) ∷ []) in
            let c4 = cleared (row4 n p).holds 3 (cond (not (called_ok r q)) 9 (cond (row24 o r named).holds 24 (cond (not (touched_from l j p)) 9 rest))) h in
            let c9 = cleared (not (called_ok r q)) 8 (cond (row24 o r named).holds 24 (cond (not (touched_from l j p)) 9 rest)) c4.1 in
            let c24 = cleared (row24 o r named).holds 23 (cond (not (touched_from l j p)) 9 rest) c9.1 in
            let ct = cleared (not (touched_from l j p)) 8 rest c24.1 in
            let t = and_true (process_ok n w (seen_from l j p)) _ (not-false _ ct.0) in
            let c8 = cleared (row8 o w (length v)).holds 7 (first (row5of o q ∷ row6of o q ∷ row7of o (held_from l p j) ∷ [])) ct.1 in
            record {
              list = a;
              below = leb-false n p c4.0;
              on = about_below o r named q (not-false _ c9.0) c24.0;
              process = t.0;
              places = t.1;
              value_words = λ b. eqb-true (length v) w (given (brings_value o) (eqb (length v) w) c8.0 b);
            }

        by : (k : ℕ) → k ≡ lent_number l → Admits l p o named v
        by zero z = admits (sym z) (near_own (sym z) ∙ e)
        by (suc k) z = let f : ⊥ = omega (arith, near_refused (suc k) z (λ x. omega (arith, x)), e) in absurd f

  -- the rows of the memory alone
  module _ (c : StationOrder) where
    abbrev room : ℕ
    room = length l - words_place r

    late : ℕ
    late = first (station_process_rows n w r c.process c.order c.called (length c.value) (process_at s c.process))

    refusal_is : station_refusal s c ≡ four (row1 n).holds (row2 w).holds (row23 r).holds (row3of n w r 16 room).holds (cond (not (station_in_range s)) 9 late)
    unfolding station_refusal late
    refusal_is =
        ap₂ (λ (i k : ℕ). four (row1 n).holds (row2 w).holds (row23 r).holds (row3of n w r i k).holds (cond (not (station_in_range s)) 9 late))
        (tab_length (process_in r l) 0 16) (length-drop (words_place r) l)

    by_lent : (k : ℕ) → k ≡ lent_number l → (memory_number l ≡ 0 → ⊥) → memory_number l ≡ station_refusal s c
    unfolding station_lent_number
    by_lent zero e h =
        let z : eqb (lent_number l) 0 ≡ true = eq-eqb (lent_number l) 0 (sym e) in
        let m : memory_number l ≡ cond (not (station_in_range s)) 9 0 = ap (λ (t : Bool). cond t (cond (not (station_in_range s)) 9 0) (lent_number l)) z in
        m ∙ row_9 (station_in_range s) late (λ x. h (m ∙ x)) ∙ four_passed (row1 n).holds (row2 w).holds (row23 r).holds (row3of n w r 16 room).holds _ (sym e) ∙ sym refusal_is
    by_lent (suc k) e h =
        let no : lent_number l ≡ 0 → ⊥ = λ x. omega (arith, e, x) in
        ap (λ (t : Bool). cond t (cond (not (station_in_range s)) 9 0) (lent_number l)) (ne_eqb (lent_number l) 0 no)
        ∙ four_answer (row1 n).holds (row2 w).holds (row23 r).holds (row3of n w r 16 room).holds _ no ∙ sym refusal_is

    pub memory_refuses : (k : ℕ) → k ≡ memory_number l → (k ≡ 0 → ⊥) → k ≡ station_refusal s c
    memory_refuses k e h = e ∙ by_lent (lent_number l) refl (λ z. h (e ∙ z))

  pub memory_passes : memory_number l ≡ 0 → station_in_range s ≡ true
  memory_passes e = go (eqb (lent_number l) 0) refl e
    where
      passes : (t : Bool) → nine t 0 ≡ 0 → t ≡ true
      passes true h = refl
      passes false h = absurd (let z : ⊥ = omega (arith, h) in z)

      go : (t : Bool) → eqb (lent_number l) 0 ≡ t → cond t (nine (station_in_range s) 0) (lent_number l) ≡ 0 → station_in_range s ≡ true
      go true h z = passes (station_in_range s) z
      go false h z = absurd (eqb-false (lent_number l) 0 h z)
