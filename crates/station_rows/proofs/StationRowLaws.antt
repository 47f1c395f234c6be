-- Rows 1, 2, 23, 3 and 9 of a station: the first that holds answers, whatever follows; what it means that none does.
use mathlib.Core.Path.{◌≡◌, refl}
use mathlib.Core.Bool.{Bool, true, false, cond, ◌&&◌}
use mathlib.Core.List.{List}
use Prim.Native.Nat.{ℕ, suc, ◌<◌, ◌≤◌}
use lib.Dec.{leb, ltb}
use borrow.Author.Tests.{leb-true, ltb-false, not-false}
use Rattle.llsc.specs.declared.Order.{Order}
use Rattle.llsc.specs.Rows.{row1, row2, row9}
use Rattle.station.specs.declared.Station.{Station}
use Rattle.station.specs.declared.StationProcess.{StationProcess}
use Rattle.station.specs.Station.{station_words}
use Rattle.station.specs.StationRefusals.{row23, row3of}
use Rattle.laws.proofs.AndLaws.{left, right}
use Rattle.rows.proofs.RowLaws.{over, cleared, n_in, w_in, neither}
use Rattle.station_rows.specs.StationCommandRows.{station_ranges_ok, station_memory_number, station_number, station_late_number}
use Rattle.llsc.proofs.RefusalNumbers.{number_some}

-- what row 23 leaves
pub r_in : (r : ℕ) → (row23 r).holds ≡ false → (0 < r) × (r ≤ 8)
r_in r e = let h = not-false (leb 1 r && leb r 8) e in (leb-true 1 r (left (leb 1 r) (leb r 8) h), leb-true r 8 (right (leb 1 r) (leb r 8) h))

-- what rows 1, 2, 23 and 3 leave
pub record StationLent (n w r processes words : ℕ) : Type 0 where
  pub n_some : 0 < n
  pub n_most : n ≤ 16
  pub w_most : w ≤ 64
  pub r_most : r ≤ 8
  pub words_lent : station_words n w r ≤ words
  pub processes_lent : n ≤ processes

-- two tables with one row and then the same number where it does not hold
pub same_row : (a : Bool) (k x y : ℕ) → (a ≡ false → x ≡ y) → cond a k x ≡ cond a k y
same_row true k x y f = refl
same_row false k x y f = f refl

-- where rows x say a number other than 0, rows y that begin with them say the same; one row more before both
answers : (a : Bool) (k x y : ℕ) → ((x ≡ 0 → ⊥) → x ≡ y) → (cond a (suc k) x ≡ 0 → ⊥) → cond a (suc k) x ≡ cond a (suc k) y
answers true k x y f h = refl
answers false k x y f h = f h

module _ (n w r processes words : ℕ) where
  -- rows 1, 2, 23, 3 before rows that say `rest`
  abbrev lent_then : ℕ → ℕ
  lent_then rest =
      cond (row1 n).holds 1 (cond (row2 w).holds 2 (cond (row23 r).holds 23 (cond (row3of n w r processes words).holds 3 rest)))

  then_answers : (x y : ℕ) → ((x ≡ 0 → ⊥) → x ≡ y) → (lent_then x ≡ 0 → ⊥) → lent_then x ≡ lent_then y
  then_answers x y f =
      answers (row1 n).holds 0 _ _ (answers (row2 w).holds 1 _ _
      (answers (row23 r).holds 22 _ _ (answers (row3of n w r processes words).holds 2 x y f)))

  pub record LentPassed (rest : ℕ) : Type 0 where
    pub row_1 : (row1 n).holds ≡ false
    pub row_2 : (row2 w).holds ≡ false
    pub row_23 : (row23 r).holds ≡ false
    pub row_3 : (row3of n w r processes words).holds ≡ false
    pub others : rest ≡ 0

  none_of_four : (rest : ℕ) → lent_then rest ≡ 0 → LentPassed rest
  none_of_four rest e =
      let r3 : ℕ = cond (row3of n w r processes words).holds 3 rest in
      let r23 : ℕ = cond (row23 r).holds 23 r3 in
      let c1 = cleared (row1 n).holds 0 (cond (row2 w).holds 2 r23) e in
      let c2 = cleared (row2 w).holds 1 r23 c1.1 in
      let c23 = cleared (row23 r).holds 22 r3 c2.1 in
      let c3 = cleared (row3of n w r processes words).holds 2 rest c23.1 in
      record { row_1 = c1.0; row_2 = c2.0; row_23 = c23.0; row_3 = c3.0; others = c3.1 }

  then_passed : (x : ℕ) {k rest : ℕ} → lent_then x ≡ 0 → k ≡ rest → k ≡ lent_then rest
  then_passed x e h =
      let l = none_of_four x e in
      over _ 1 l.row_1 (over _ 2 l.row_2 (over _ 23 l.row_23 (over _ 3 l.row_3 h)))

  passed_lent : {rest : ℕ} → LentPassed rest → StationLent n w r processes words
  passed_lent l =
      let few = neither (ltb words (station_words n w r)) (ltb processes n) l.row_3 in
      record {
        n_some = (n_in n l.row_1).0;
        n_most = (n_in n l.row_1).1;
        w_most = (w_in w l.row_2).1;
        r_most = (r_in r l.row_23).1;
        words_lent = ltb-false words (station_words n w r) few.0;
        processes_lent = ltb-false processes n few.1;
      }

  -- where no row holds of a list that begins with them
  pub begins_lent : (rest : ℕ) → lent_then rest ≡ 0 → StationLent n w r processes words × (rest ≡ 0)
  begins_lent rest e = let l = none_of_four rest e in (passed_lent l, l.others)

  -- two lists that begin with them, and then say the same where none of them holds
  pub same_then : (x y : ℕ) → (StationLent n w r processes words → x ≡ y) → lent_then x ≡ lent_then y
  same_then x y f =
      same_row (row1 n).holds 1 _ _ (λ a. same_row (row2 w).holds 2 _ _ (λ b. same_row (row23 r).holds 23 _ _
      (λ c. same_row (row3of n w r processes words).holds 3 x y
      (λ d. f (passed_lent (record { row_1 = a; row_2 = b; row_23 = c; row_3 = d; others = refl }))))))

module _ (s : Station) (list : List StationProcess) (len words : ℕ) where
  abbrev number : ℕ
  number = station_memory_number s list len words

  abbrev bad : Bool
  bad = (row9 (station_ranges_ok s list)).holds

  pub memory_lent : number ≡ 0 → StationLent s.n s.w s.r len words
  unfolding station_memory_number
  memory_lent e = (begins_lent s.n s.w s.r len words (cond bad 9 0) e).0

  module _ (p : ℕ) (o : Order) (named value : ℕ) where
    abbrev late : ℕ
    late = station_late_number s list p o named value

    -- the first of rows 1, 2, 23, 3, 9 that holds refuses the command;
    pub memory_answers : (number ≡ 0 → ⊥) → number ≡ station_number s list len p o named value words
    unfolding station_memory_number station_number station_late_number
    memory_answers = then_answers s.n s.w s.r len words (cond bad 9 0) (cond bad 9 late) (answers bad 8 0 late (λ h. absurd (h refl)))

    -- where none does, the late rows decide
    pub late_decides : number ≡ 0 → late ≡ station_number s list len p o named value words
    unfolding station_memory_number station_number station_late_number
    late_decides e =
        let rest = (begins_lent s.n s.w s.r len words (cond bad 9 0) e).1 in
        then_passed s.n s.w s.r len words (cond bad 9 0) e (over bad 9 (cleared bad 8 0 rest).0 refl)

-- what `refusal` rests on
pub ruleset refusal_laws = (number_some, memory_lent, memory_answers, late_decides)
