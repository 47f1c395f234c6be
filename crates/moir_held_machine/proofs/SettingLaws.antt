-- The numbers of a set-up stand for `moir_model`'s memory after it; and the two answers of a set-up.
use mathlib.Core.Path.{◌≡◌, refl, sym, ap, ap₂, ◌∙◌}
use mathlib.Core.List.{List, [], ◌∷◌, map}
use mathlib.Core.Bool.{Bool, true, false, cond}
use Prim.Native.Nat.{ℕ, ◌+◌, ◌-◌, ◌*◌, ◌<◌, ◌≤◌}
use native.Mathlib.Nat.{mul-le-mul_right}
use native.Mathlib.Omega.{arith}
use lib.Dec.{ltb}
use lib.ListN.{length, get_or, drop, replicate, length-drop}
use lib.Seq.{sets, length-sets, get_or-take}
use borrow.Author.Tests.{eq-eqb, ne_eqb, ltb-true, ltb-false}
use Rattle.std.proofs.lemmas.List.{length-replicate, get_or-replicate}
use Rattle.serving.proofs.RefusalFacts.{none_holds, inside}
use Rattle.model.specs.SetUp.{numbers}
use Rattle.held_model.specs.Memory.{number_at}
use Rattle.held_model.proofs.BlockLaws.{outside, within, above, inside as in_run, after}
use Rattle.held_model.proofs.TabLaws.{tab_length, tab_at, tab_is}
use Rattle.moir_model.specs.Records.{no_process}
use Rattle.moir_model.specs.Machine.{Memory}
use Rattle.moir_model.specs.Refusals.{set_up_rows_of}
use Rattle.moir_model.specs.SetUp.{at_set_up, words_at_set_up, set_up, set_up_refusal}
use Rattle.moir_machine.specs.SetUpByValue.{set_up_number, set_up_number_lem}
use Rattle.moir_machine.proofs.SetUpLaws.{set_up_fits}
use Rattle.moir_held_model.specs.Layout.{header_place, tag_place, process_place, mark_place, words_place}
use Rattle.moir_held_model.specs.Memory.{process_from, tag_from, memory_of}
use Rattle.moir_held_model.specs.HeldCommand.{MarksSet, SetUpDone}
use Rattle.moir_held_model.proofs.MemoryLaws.{process_same, sixteen}
use Rattle.moir_held_machine.specs.Setting.{head_set, WordsSet, Room}
use Rattle.held_machine.proofs.WrittenLaws.{Off}
use Rattle.moir_held_machine.proofs.MemoryAfter.{parts}

-- the first k of them the same
tab_first : {A : Type 0} (f g : ℕ → A) (c k : ℕ) (v d : A) → k ≤ c → ((i : ℕ) → i < k → g i ≡ v) → ((i : ℕ) → k ≤ i → i < c → g i ≡ f i)
    → map g (numbers 0 c) ≡ sets (map f (numbers 0 c)) 0 (replicate k v)
tab_first {A} f g c k v d h first rest =
    tab_is g c d (sets (map f (numbers 0 c)) 0 (replicate k v)) (length-sets (map f (numbers 0 c)) 0 (replicate k v) ∙ tab_length f 0 c) (λ i m. at i m (ltb i k) refl)
  where
    run : length (replicate k v) ≡ k
    run = length-replicate k v

    at : (i : ℕ) → i < c → (t : Bool) → ltb i k ≡ t → g i ≡ get_or (sets (map f (numbers 0 c)) 0 (replicate k v)) i d
    at i m true e =
        let b : i < k = ltb-true i k e in
        first i b ∙ sym (in_run d (map f (numbers 0 c)) (replicate k v) 0 i {k = i} (omega arith) (omega (arith, b, run)) (omega (arith, h, run, tab_length f 0 c))
        ∙ get_or-replicate k i v d b)
    at i m false e =
        let b : k ≤ i = ltb-false i k e in
        rest i b m ∙ sym (above d (map f (numbers 0 c)) (replicate k v) 0 i (omega (arith, b, run)) ∙ tab_at f c i d m)

module _ (l : List ℕ) (n w : ℕ) (n_in : n ≤ 16) (w_in : w ≤ 64) (long : words_place ≤ length l) where
  abbrev head : List ℕ
  head = n ∷ w ∷ 0 ∷ 0 ∷ []

  abbrev ts : List ℕ
  ts = replicate w 0

  abbrev ps : List ℕ
  ps = replicate (17 * n) 0

  abbrev l₁ : List ℕ
  l₁ = sets l 0 head

  abbrev l₂ : List ℕ
  l₂ = sets l₁ (tag_place 0) ts

  abbrev l₃ : List ℕ
  l₃ = head_set l n w

  ts_length : length ts ≡ w
  ts_length = length-replicate w 0

  ps_length : length ps ≡ 17 * n
  ps_length = length-replicate (17 * n) 0

  same₁ : length l₁ ≡ length l
  same₁ = length-sets l 0 head

  same₂ : length l₂ ≡ length l
  same₂ = length-sets l₁ (tag_place 0) ts ∙ same₁

  pub head_length : length l₃ ≡ length l
  head_length = length-sets l₂ (process_place 0) ps ∙ same₂

  off₃ : (i : ℕ) → Off (process_place 0) (17 * n) i → number_at l₃ i ≡ number_at l₂ i
  off₃ i x = outside l₂ ps (process_place 0) i (λ a b. x a (omega (arith, b, ps_length)))

  off₂ : (i : ℕ) → Off (process_place 0) (17 * n) i → Off (tag_place 0) w i → number_at l₃ i ≡ number_at l₁ i
  off₂ i x y = off₃ i x ∙ outside l₁ ts (tag_place 0) i (λ a b. y a (omega (arith, b, ts_length)))

  off₁ : (i : ℕ) → Off (process_place 0) (17 * n) i → Off (tag_place 0) w i → Off 0 4 i → number_at l₃ i ≡ number_at l i
  off₁ i x y z = off₂ i x y ∙ outside l head 0 i z

  pub head_drop : drop words_place l₃ ≡ drop words_place l
  head_drop =
      after l₂ ps (process_place 0) words_place (omega (arith, ps_length, n_in)) ∙ after l₁ ts (tag_place 0) words_place (omega (arith, ts_length, w_in))
      ∙ after l head 0 words_place (omega arith)

  head_at : (i : ℕ) → i < 4 → number_at l₃ i ≡ get_or head i 0
  head_at i b =
      off₂ i (λ x y. omega (arith, x, b)) (λ x y. omega (arith, x, b)) ∙ within l head 0 i (omega arith) b (omega (arith, long))

  tag_set : (k : ℕ) → k < w → number_at l₃ (tag_place k) ≡ 0
  tag_set k b =
      off₃ (tag_place k) (λ x y. omega (arith, x, b, w_in)) ∙ within l₁ ts (tag_place 0) k (omega arith) (omega (arith, b, ts_length)) (omega (arith, same₁, ts_length, w_in, long))
      ∙ get_or-replicate w k 0 0 b

  own_at : (p j : ℕ) {e : ℕ} → p < n → e ≡ process_place p + j → j < 17 → number_at l₃ e ≡ 0
  own_at p j {e} b z h =
      within l₂ ps (process_place 0) (17 * p + j) (omega (arith, z)) (omega (arith, b, h, ps_length)) (omega (arith, same₂, ps_length, n_in, long))
      ∙ get_or-replicate (17 * n) (17 * p + j) 0 0 (omega (arith, b, h))

  process_set : (p : ℕ) → p < n → process_from l₃ p ≡ no_process
  process_set p b =
      rw (
        own_at p 0 {e = process_place p} b (omega arith) (omega arith),
        own_at p 1 {e = process_place p + 1} b (omega arith) (omega arith),
        own_at p 2 {e = process_place p + 2} b (omega arith) (omega arith),
        own_at p 3 {e = process_place p + 3} b (omega arith) (omega arith),
        own_at p 4 {e = process_place p + 4} b (omega arith) (omega arith),
        own_at p 5 {e = process_place p + 5} b (omega arith) (omega arith),
        own_at p 6 {e = process_place p + 5 + 1} b (omega arith) (omega arith),
        own_at p 7 {e = process_place p + 7} b (omega arith) (omega arith),
        own_at p 8 {e = process_place p + 7 + 1} b (omega arith) (omega arith),
        own_at p 9 {e = process_place p + 9} b (omega arith) (omega arith),
        own_at p 10 {e = process_place p + 9 + 1} b (omega arith) (omega arith),
        own_at p 11 {e = process_place p + 11} b (omega arith) (omega arith),
        own_at p 12 {e = process_place p + 11 + 1} b (omega arith) (omega arith),
        own_at p 13 {e = process_place p + 13} b (omega arith) (omega arith),
        own_at p 14 {e = process_place p + 13 + 1} b (omega arith) (omega arith),
        own_at p 15 {e = process_place p + 15} b (omega arith) (omega arith),
        own_at p 16 {e = process_place p + 15 + 1} b (omega arith) (omega arith),
      ) refl

  module _ (l' : List ℕ) (value : List ℕ) (set : WordsSet l₃ l' words_place n w value) where
    -- the numbers before the words are those of the head
    same : (i : ℕ) → i < words_place → number_at l' i ≡ number_at l₃ i
    same i b =
        sym (get_or-take words_place l' i 0 b) ∙ ap (λ (z : List ℕ). get_or z i 0) set.numbers_stay ∙ get_or-take words_place l₃ i 0 b

    pub memory_set : memory_of l' ≡ at_set_up (memory_of l) n w value
    memory_set =
        parts (same 0 (omega arith) ∙ head_at 0 (omega arith)) (same 1 (omega arith) ∙ head_at 1 (omega arith))
        (rw (same header_place (omega arith), same (header_place + 1) (omega arith), head_at header_place (omega arith), head_at (header_place + 1) (omega arith)) refl)
        (tab_first (tag_from l) (tag_from l') 64 w 0 0 w_in (λ i b. same (tag_place i) (omega (arith, b, w_in)) ∙ tag_set i b)
        (λ i b c. same (tag_place i) (omega (arith, c)) ∙ off₁ (tag_place i) (λ x y. omega (arith, x, c)) (λ x y. omega (arith, y, b)) (λ x y. omega (arith, y))))
        (tab_first (process_from l) (process_from l') 16 n no_process no_process n_in
        (λ i b. process_same l₃ l' i (λ k x y. same k (omega (arith, y, b, n_in))) ∙ process_set i b)
        (λ i b c. process_same l₃ l' i (λ k x y. same k (omega (arith, y, c)))
        ∙ process_same l l₃ i (λ k x y. off₁ k (λ u v. omega (arith, v, x, b)) (λ u v. omega (arith, v, x, w_in)) (λ u v. omega (arith, v, x)))))
        (set.set ∙ ap (λ (z : List ℕ). words_at_set_up z n w value) head_drop)

    pub marks_set : MarksSet l n l'
    marks_set p b = by (ltb p n) refl
      where
        by : (t : Bool) → ltb p n ≡ t → number_at l' (mark_place p) ≡ cond t 0 (number_at l (mark_place p))
        by true e = same (mark_place p) (omega (arith, b)) ∙ own_at p 3 (ltb-true p n e) (omega arith) (omega arith)
        by false e =
            let z : n ≤ p = ltb-false p n e in
            same (mark_place p) (omega (arith, b)) ∙ off₁ (mark_place p) (λ u v. omega (arith, v, z)) (λ u v. omega (arith, v, w_in)) (λ u v. omega (arith, v))

module _ (l : List ℕ) (n w : ℕ) (value : List ℕ) where
  abbrev number : ℕ
  number = set_up_number n w 16 (length l - words_place) (length value)

  abbrev m : Memory
  m = memory_of l

  number_is : number ≡ set_up_refusal m n w value
  number_is =
      sym (ap₂ (λ (i k : ℕ). set_up_number n w i k (length value)) (sixteen l) (length-drop words_place l)) ∙ set_up_number_lem m n w value

  w_some : number ≡ 0 → 1 ≤ w
  unfolding set_up_number
  w_some e = (inside 1 64 w (none_holds (set_up_rows_of n w 16 (length l - words_place) (length value)) refl e 1)).0

  -- what an accepted set-up's rows leave
  pub room : number ≡ 0 → Room l n w (length value)
  room e =
      let a = set_up_fits n w 16 (length l - words_place) (length value) e in
      let more : 1 * w ≤ (3 * n + 1) * w = mul-le-mul_right w (omega arith) in
      record { accepted = a; long = omega (arith, a.words_lent, more, w_some e) }

  abbrev answer : Bool → ℕ × Memory
  answer t = (set_up_refusal m n w value, cond t (at_set_up m n w value) m)

  pub set_up_refused : (k : ℕ) → k ≡ number → (k ≡ 0 → ⊥) → SetUpDone l n w value k l
  unfolding set_up
  set_up_refused k e h =
      let is : k ≡ set_up_refusal m n w value = e ∙ number_is in
      record {
        done = ap (λ (z : ℕ). (z, m)) is ∙ ap answer (sym (ne_eqb (set_up_refusal m n w value) 0 (λ z. h (is ∙ z))));
        marks = λ z. absurd (h z);
        refused = λ z. refl;
      }

  pub set_up_done : (l' : List ℕ) → number ≡ 0 → memory_of l' ≡ at_set_up m n w value → MarksSet l n l' → SetUpDone l n w value 0 l'
  unfolding set_up
  set_up_done l' e h marks =
      let none : set_up_refusal m n w value ≡ 0 = sym number_is ∙ e in
      record {
        done = ap (λ (x : Memory). (0, x)) h ∙ ap (λ (k : ℕ). (k, at_set_up m n w value)) (sym none)
            ∙ ap answer (sym (eq-eqb (set_up_refusal m n w value) 0 none));
        marks = λ z. marks;
        refused = λ z. absurd (z refl);
      }
