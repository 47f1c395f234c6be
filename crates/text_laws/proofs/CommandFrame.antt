-- A command and a set-up look at and change only the first sixteen records: what stands behind them stays.
use mathlib.Core.Path.{◌≡◌, refl, sym, ap, ap₂, ◌∙◌}
use mathlib.Core.Bool.{Bool, true, false, not, ◌&&◌, ◌||◌, cond}
use mathlib.Core.List.{List, [], ◌∷◌, ◌++◌, map}
use Prim.Native.Nat.{ℕ, zero, suc, ◌+◌, ◌*◌, ◌≤◌, ◌<◌}
use native.Mathlib.Decide.{dec_le}
use native.Mathlib.Omega.{arith}
use lib.Dec.{eqb, ltb, leb}
use borrow.Author.Tests.{le-leb, lt-leb, leb-true, leb-false, le-ltb, eqb-true, eqb-false}
use lib.ListN.{length, set, length-append, length-set, length-map, get_or-append}
use lib.Seq.{take-append-le, set-append_left, sets, length-sets}
use Rattle.model.specs.Replies.{number_of}
use Rattle.model.specs.declared.Process.{Process}
use Rattle.llsc.specs.declared.Order.{Order}
use Rattle.model.specs.declared.Reply.{Reply}
use Rattle.model.specs.declared.Reply.TheVariants.{Refused}
use Rattle.model.specs.Records.{record_at, no_process}
use Rattle.model.specs.Machine.{Memory, obey}
use Rattle.llsc.specs.Rows.{Row, first, between, row1, row2, row4, row8, row9, row8always}
use Rattle.model.specs.Refusals.{in_range, row3, row5, row6, row7, command_rows, set_up_rows}
use Rattle.model.specs.SetUp.{numbers, process_at_set_up, at_set_up, set_up_refusal, set_up}
use Rattle.model.specs.Command.{refusal, command, obeyed}

-- memory with the records rs
abbrev pub with_records : Memory → List Process → Memory
with_records m rs = record { bench = m.bench; records = rs; words = m.words }

-- a reply and memory, with more records behind those of the memory
abbrev pub behind : List Process → Reply × Memory → Reply × Memory
behind t out = (out.0, with_records out.1 (out.1.records ++ t))

too_many : (n : ℕ) → 16 < n → between 1 16 n ≡ false
too_many n h = go (leb 1 n) (leb n 16) (lt-leb n 16 h)
  where
    go : (a b : Bool) → b ≡ false → a && b ≡ false
    go true b e = e
    go false b e = refl

-- the first row that holds is 0: this one does not, and neither does the first of the rest
first_none : (b : Bool) (k l : ℕ) → (k ≡ 0 → ⊥) → cond b k l ≡ 0 → (b ≡ false) × (l ≡ 0)
first_none true k l ne e = absurd (ne e)
first_none false k l ne e = (refl, e)

both_yes : (a b : Bool) → not (a && b) ≡ false → b ≡ true
both_yes true true e = refl
both_yes true false e = sym e
both_yes false true e = refl
both_yes false false e = sym e

module _ (m : Memory) (t : List Process) (sixteen : length m.records ≡ 16) (p : ℕ) (o : Order) (v : List ℕ) where
  abbrev more : Memory
  more = with_records m (m.records ++ t)

  abbrev n : ℕ
  n = m.bench.n

  -- below sixteen the records are the same
  pub same_record : p < 16 → record_at (m.records ++ t) (record { 0 = p }) ≡ record_at m.records (record { 0 = p })
  same_record h = get_or-append m.records t no_process p (omega arith)

  same_ranges : n ≤ 16 → in_range more ≡ in_range m
  unfolding in_range
  same_ranges h = rw (take-append-le n m.records t (omega arith))

  short : n ≤ 16 → ltb (length (m.records ++ t)) n ≡ ltb (length m.records) n
  short h = le-ltb _ n (let y = length-append m.records t in omega arith) ∙ sym (le-ltb _ n (omega arith))

  -- rows 8, 5, 6, 7 by the record of p
  abbrev late : Process → List Row
  late q = row8 o m.bench.w (length v) ∷ row5 o q ∷ row6 o q ∷ row7 o q ∷ []

  same_late : n ≤ 16 → first (row4 n p ∷ late (record_at (m.records ++ t) (record { 0 = p }))) ≡ first (row4 n p ∷ late (record_at m.records (record { 0 = p })))
  same_late h = go (dec_le n p)
    where
      go : Dec (n ≤ p) → first (row4 n p ∷ late (record_at (m.records ++ t) (record { 0 = p }))) ≡ first (row4 n p ∷ late (record_at m.records (record { 0 = p })))
      go (yes x) =
          ap (λ b. cond b 4 (first (late (record_at (m.records ++ t) (record { 0 = p }))))) (le-leb n p x)
          ∙ sym (ap (λ b. cond b 4 (first (late (record_at m.records (record { 0 = p }))))) (le-leb n p x))
      go (no x) = ap (λ q. first (row4 n p ∷ late q)) (same_record (omega arith))

  same_refusal : refusal more p o v ≡ refusal m p o v
  unfolding refusal
  same_refusal = go (dec_le n 16)
    where
      rest : Memory → List Row
      rest z =
          row2 z.bench.w ∷ row3 z.bench.n z.bench.w (length z.records) (length z.words)
          ∷ row9 (in_range z) ∷ row4 z.bench.n p ∷ late (record_at z.records (record { 0 = p }))

      go : Dec (n ≤ 16) → first (command_rows more p o v) ≡ first (command_rows m p o v)
      go (yes h) =
          ap₂ (λ a b. cond (row1 n).holds 1 (cond (row2 m.bench.w).holds 2
          (cond (ltb (length m.words) (5 * n * m.bench.w) || a) 3
          (cond (not b) 9 (first (row4 n p ∷ late (record_at (m.records ++ t) (record { 0 = p }))))))))
          (short h) (same_ranges h)
          ∙ ap (λ k. cond (row1 n).holds 1 (cond (row2 m.bench.w).holds 2
          (cond (ltb (length m.words) (5 * n * m.bench.w) || ltb (length m.records) n) 3
          (cond (not (in_range m)) 9 k)))) (same_late h)
      go (no h) = ap (λ b. cond (not b) 1 (first (rest more))) (too_many n (omega arith)) ∙ sym (ap (λ b. cond (not b) 1 (first (rest m))) (too_many n (omega arith)))

  -- an accepted command names a process below N, and N is at most sixteen
  accepted_below : refusal m p o v ≡ 0 → p < 16
  unfolding refusal
  accepted_below e =
      let a = first_none (row1 n).holds 1 _ (λ x. omega arith) e in
      let b = first_none (row2 m.bench.w).holds 2 _ (λ x. omega arith) a.1 in
      let c = first_none (row3 n m.bench.w (length m.records) (length m.words)).holds 3 _ (λ x. omega arith) b.1 in
      let d = first_none (row9 (in_range m)).holds 9 _ (λ x. omega arith) c.1 in
      let f = first_none (leb n p) 4 _ (λ x. omega arith) d.1 in
      let x : n ≤ 16 = leb-true n 16 (both_yes (leb 1 n) (leb n 16) a.0) in
      let y : p < n = leb-false n p f.0 in omega arith

  pub command_frame : command more p o v ≡ behind t (command m p o v)
  unfolding command
  command_frame = ap (λ k. cond (eqb k 0) (obeyed more (record { 0 = p }) o v) (Refused k, more)) same_refusal ∙ go (eqb (refusal m p o v) 0) refl
    where
      go : (b : Bool) → eqb (refusal m p o v) 0 ≡ b
          → cond b (obeyed more (record { 0 = p }) o v) (Refused (refusal m p o v), more) ≡ behind t (cond b (obeyed m (record { 0 = p }) o v) (Refused (refusal m p o v), m))
      go false e = refl
      go true e =
          let h = accepted_below (eqb-true _ 0 e) in
          rw (same_record h) (rw (set-append_left m.records t p (obey o (record { 0 = p }) v m.bench (record_at m.records (record { 0 = p })) m.words).0.process (omega arith)))

  -- a reply that refuses nothing is that of an accepted command
  pub unrefused_below : number_of (command m p o v).0 ≡ 0 → p < 16
  unfolding command
  unrefused_below e = go (eqb (refusal m p o v) 0) refl e
    where
      go : (b : Bool) → eqb (refusal m p o v) 0 ≡ b → number_of (cond b (obeyed m (record { 0 = p }) o v) (Refused (refusal m p o v), m)).0 ≡ 0 → p < 16
      go true x y = accepted_below (eqb-true _ 0 x)
      go false x y = absurd (eqb-false _ 0 x y)

  -- it keeps the number of records
  pub command_records : length (command m p o v).1.records ≡ 16
  unfolding command
  command_records = go (eqb (refusal m p o v) 0)
    where
      go : (b : Bool) → length (cond b (obeyed m (record { 0 = p }) o v) (Refused (refusal m p o v), m)).1.records ≡ 16
      go true = length-set m.records p _ ∙ sixteen
      go false = sixteen

-- the set-up
sets_left : (xs ys vs : List Process) (i : ℕ) → i + length vs ≤ length xs → sets (xs ++ ys) i vs ≡ sets xs i vs ++ ys
sets_left xs ys [] i h = refl
sets_left xs ys (v ∷ vs) i h =
    ap (λ zs. sets zs (suc i) vs) (set-append_left xs ys i v (omega arith)) ∙ sets_left (set xs i v) ys vs (suc i) (let y = length-set xs i v in omega arith)

numbers_length : (a n : ℕ) → length (numbers a n) ≡ n
numbers_length a zero = refl
numbers_length a (suc n) = ap suc (numbers_length (suc a) n)

module _ (m : Memory) (t : List Process) (sixteen : length m.records ≡ 16) (n w : ℕ) (v : List ℕ) where
  abbrev longer : Memory
  longer = with_records m (m.records ++ t)

  same_set_up : set_up_refusal longer n w v ≡ set_up_refusal m n w v
  unfolding set_up_refusal
  same_set_up = go (dec_le n 16)
    where
      later : Memory → List Row
      later z = row2 w ∷ row3 n w (length z.records) (length z.words) ∷ row8always w (length v) ∷ []

      go : Dec (n ≤ 16) → first (set_up_rows longer n w v) ≡ first (set_up_rows m n w v)
      go (yes h) =
          ap (λ a. cond (row1 n).holds 1 (cond (row2 w).holds 2 (cond (ltb (length m.words) (5 * n * w) || a) 3 (cond (not (eqb (length v) w)) 8 0))))
          (le-ltb _ n (let y = length-append m.records t in omega arith) ∙ sym (le-ltb _ n (omega arith)))
      go (no h) = ap (λ b. cond (not b) 1 (first (later longer))) (too_many n (omega arith)) ∙ sym (ap (λ b. cond (not b) 1 (first (later m))) (too_many n (omega arith)))

  few : set_up_refusal m n w v ≡ 0 → n ≤ 16
  unfolding set_up_refusal
  few e = let a = first_none (row1 n).holds 1 _ (λ x. omega arith) e in leb-true n 16 (both_yes (leb 1 n) (leb n 16) a.0)

  pub set_up_frame : set_up longer n w v ≡ ((set_up m n w v).0, with_records (set_up m n w v).1 ((set_up m n w v).1.records ++ t))
  unfolding set_up
  set_up_frame = ap (λ k. (k, cond (eqb k 0) (at_set_up longer n w v) longer)) same_set_up ∙ ap (λ z. (set_up_refusal m n w v, z)) (go (eqb (set_up_refusal m n w v) 0) refl)
    where
      go : (b : Bool) → eqb (set_up_refusal m n w v) 0 ≡ b → cond b (at_set_up longer n w v) longer ≡ with_records (cond b (at_set_up m n w v) m) ((cond b (at_set_up m n w v) m).records ++ t)
      go false e = refl
      go true e =
          let h = few (eqb-true _ 0 e) in let x = length-map (numbers (2 * n) n) process_at_set_up ∙ numbers_length (2 * n) n in
          ap (λ rs. with_records (at_set_up m n w v) rs) (sets_left m.records t (map process_at_set_up (numbers (2 * n) n)) 0 (omega arith))

  pub set_up_records : length (set_up m n w v).1.records ≡ 16
  unfolding set_up
  set_up_records = go (eqb (set_up_refusal m n w v) 0)
    where
      go : (b : Bool) → length (cond b (at_set_up m n w v) m).records ≡ 16
      go true = length-sets m.records 0 (map process_at_set_up (numbers (2 * n) n)) ∙ sixteen
      go false = sixteen
