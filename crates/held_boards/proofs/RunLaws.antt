-- The loop over a file's records on a held list, and the file's rows before it.
use mathlib.Core.Path.{◌≡◌, refl, sym, ap, subst, ◌∙◌}
use mathlib.Core.Logic.{◌⊎◌, inl, inr}
use mathlib.Core.List.{List, [], ◌∷◌}
use mathlib.Core.Bool.{Bool, true, false, cond}
use Prim.Native.Nat.{ℕ, zero, suc, ◌+◌, ◌<◌, ◌≤◌}
use native.Mathlib.Omega.{arith}
use native.Mathlib.Numerals.{add-one}
use lib.Dec.{eqb}
use lib.ListN.{length, get_or, drop}
use lib.Seq.{drop-cons}
use borrow.Author.Tests.{eq-eqb, ne_eqb, eqb-true, eqb-false}
use Rattle.std.proofs.lemmas.List.{drop_all}
use Rattle.llsc.specs.Refusals.{refusal_number}
use Rattle.llsc.specs.declared.refusals.Refusal.{Refusal}
use Rattle.llsc.proofs.RefusalNumbers.{number_some}
use Rattle.model.specs.declared.Reply.{Reply}
use Rattle.model.specs.declared.Reply.TheVariants.{Refused, Accepted, LlAnswered, ScAnswered, VlAnswered}
use Rattle.model.specs.Replies.{number_of}
use Rattle.boards.specs.Files.{BoardRecord, record_of, decode, file_number}
use Rattle.boards.specs.Places.{read, RightFile, WrongFile}
use Rattle.station.specs.Station.{StationMemory}
use Rattle.station.specs.Projection.{embed}
use Rattle.station.specs.StationRefusals.{StationOrder, record_for}
use Rattle.station.specs.StationCommand.{station_refusal, station_command, obeyed_on}
use Rattle.board_commands.specs.declared.FileRun.{FileRun}
use Rattle.board_commands.specs.BoardRun.{command_of, run_records, run_file}
use Rattle.board_commands.proofs.Theorems.{command_number}
use Rattle.held_model.specs.declared.Told.{Told}
use Rattle.held_model.specs.Layout.{mark_place}
use Rattle.held_model.specs.Memory.{number_at, memory_of}
use Rattle.held_model.specs.Told.{told}
use Rattle.held_model.specs.HeldCommand.{MarksAfter, Commanded}
use Rattle.held_boards.specs.FileDone.{MarksKept, RecordsDone, FileDone}

number_is : (n w r p : ℕ) (x : Reply) → (told n w r p x).number ≡ number_of x
number_is n w r p (Refused k) = refl
number_is n w r p Accepted = refl
number_is n w r p (LlAnswered k) = refl
number_is n w r p (ScAnswered t k) = refl
number_is n w r p (VlAnswered t k) = refl

r_stays : (s : StationMemory) (c : StationOrder) → (station_command s c).1.r ≡ s.r
unfolding station_command
r_stays s c = go (eqb (station_refusal s c) 0)
  where
    go : (t : Bool) → (cond t (embed s (record_for s c) c.process (obeyed_on s (record_for s c) c)) (Refused (station_refusal s c), s)).1.r ≡ s.r
    go true = refl
    go false = refl

-- the marks after one command, and after those before it
of_mark : (l l' : List ℕ) (p j q i : ℕ) → q < 16 → i < number_at l 2 → MarksAfter l l' p j → (a b : Bool) → eqb q p ≡ a → eqb i j ≡ b
    → (number_at l' (mark_place i q) ≤ 1) ⊎ (number_at l' (mark_place i q) ≡ number_at l (mark_place i q))
of_mark l l' p j q i h k m true true e f =
    inl (subst (λ (x : ℕ). number_at l' (mark_place i x) ≤ 1) (sym (eqb-true q p e)) (subst (λ (x : ℕ). number_at l' (mark_place x p) ≤ 1) (sym (eqb-true i j f)) m.own))
of_mark l l' p j q i h k m true false e f = inr (m.others q i h k (λ y z. eqb-false i j f z))
of_mark l l' p j q i h k m false b e f = inr (m.others q i h k (λ y z. eqb-false q p e y))

command_marks : (l l' : List ℕ) (c : StationOrder) (t : Told) → Commanded l c t l' → MarksKept l l'
command_marks l l' c t d q i h k = by (station_refusal (memory_of l) c) refl
  where
    j : ℕ
    j = (record_for (memory_of l) c).0

    by : (n : ℕ) → station_refusal (memory_of l) c ≡ n → (number_at l' (mark_place i q) ≤ 1) ⊎ (number_at l' (mark_place i q) ≡ number_at l (mark_place i q))
    by zero e = of_mark l l' c.process j q i h k (d.marks e) (eqb q c.process) (eqb i j) refl refl
    by (suc n) e = inr (ap (λ (x : List ℕ). number_at x (mark_place i q)) (d.refused (λ z. omega (arith, e, z))))

then_marks : (l₀ l l' : List ℕ) → number_at l 2 ≡ number_at l₀ 2 → MarksKept l₀ l → MarksKept l l' → MarksKept l₀ l'
then_marks l₀ l l' e a b q i h k = by (b q i h (subst (λ (r : ℕ). i < r) (sym e) k)) (a q i h k)
  where
    by : (number_at l' (mark_place i q) ≤ 1) ⊎ (number_at l' (mark_place i q) ≡ number_at l (mark_place i q))
        → (number_at l (mark_place i q) ≤ 1) ⊎ (number_at l (mark_place i q) ≡ number_at l₀ (mark_place i q))
        → (number_at l' (mark_place i q) ≤ 1) ⊎ (number_at l' (mark_place i q) ≡ number_at l₀ (mark_place i q))
    by (inl x) y = inl x
    by (inr x) (inl y) = inl (subst (λ (k : ℕ). k ≤ 1) (sym x) y)
    by (inr x) (inr y) = inr (x ∙ y)

-- what is done, and what is still to be done, is the whole
pub record Running (rs : List (List ℕ)) (l₀ l : List ℕ) (done : ℕ) : Type 0 where
  pub records : number_at l 2 ≡ number_at l₀ 2
  pub marks : MarksKept l₀ l
  pub same : run_records 0 (read rs) (memory_of l₀) ≡ run_records done (read (drop done rs)) (memory_of l)
  pub untouched : done ≡ 0 → l ≡ l₀

pub begins : (rs : List (List ℕ)) (l : List ℕ) → Running rs l l 0
begins rs l = record { records = refl; marks = λ p j h k. inr refl; same = refl; untouched = λ z. refl }

-- a record, and those after it: on, or to an end
abbrev gone_on : ℕ → List BoardRecord → Reply × StationMemory → FileRun × StationMemory
gone_on done rs x = cond (eqb (number_of x.0) 0) (run_records (suc done) rs x.1) (record { number = number_of x.0; done = done }, x.1)

one_more : (done : ℕ) (r : BoardRecord) (rs : List BoardRecord) (s : StationMemory)
    → run_records done (r ∷ rs) s ≡ gone_on done rs (station_command s (command_of s.w r))
unfolding run_records
one_more done r rs s = refl

module _ {rs : List (List ℕ)} {l₀ l : List ℕ} {done : ℕ} (m : Running rs l₀ l done) where
  abbrev whole : FileRun × StationMemory
  whole = run_records 0 (read rs) (memory_of l₀)

  abbrev rest : List BoardRecord
  rest = read (drop (done + 1) rs)

  abbrev c : StationOrder
  c = command_of (number_at l 1) (record_of (get_or rs done []))

  abbrev x : Reply × StationMemory
  x = station_command (memory_of l) c

  module _ (some : done < length rs) {t : Told} {l' : List ℕ} (d : Commanded l c t l') where
    opened : whole ≡ gone_on done rest x
    opened = m.same ∙ rw (drop-cons rs done [] some, add-one done) (one_more done (record_of (get_or rs done [])) (read (drop (suc done) rs)) (memory_of l))

    number : t.number ≡ number_of x.0
    number = ap (λ (u : Told). u.number) d.answer ∙ number_is (number_at l 0) (number_at l 1) (number_at l 2) c.process x.0

    marks_now : MarksKept l₀ l'
    marks_now = then_marks l₀ l l' m.records m.marks (command_marks l l' c t d)

    pub refused : (t.number ≡ 0 → ⊥) → RecordsDone l₀ (read rs) (record { number = t.number; done = done }) l'
    refused n = record {
      done =
          ap (λ (k : ℕ). (record { number = k; done = done }, memory_of l')) number
          ∙ ap (λ (s : StationMemory). (record { number = number_of x.0; done = done }, s)) d.memory
          ∙ sym (opened ∙ ap (λ (b : Bool). cond b (run_records (suc done) rest x.1) (record { number = number_of x.0; done = done }, x.1))
          (ne_eqb (number_of x.0) 0 (λ z. n (number ∙ z))));
      marks = marks_now;
      untouched = λ z. d.refused (λ y. n (number ∙ command_number (memory_of l) c ∙ y)) ∙ m.untouched z;
    }

    pub goes_on : t.number ≡ 0 → Running rs l₀ l' (done + 1)
    goes_on z = record {
      records = ap (λ (s : StationMemory). s.r) d.memory ∙ r_stays (memory_of l) c ∙ m.records;
      marks = marks_now;
      same =
          opened ∙ ap (λ (b : Bool). cond b (run_records (suc done) rest x.1) (record { number = number_of x.0; done = done }, x.1))
          (eq-eqb (number_of x.0) 0 (sym number ∙ z))
          ∙ ap (λ (s : StationMemory). run_records (suc done) rest s) (sym d.memory)
          ∙ ap (λ (i : ℕ). run_records i rest (memory_of l')) (let y : suc done ≡ done + 1 = omega arith in y);
      untouched = λ y. absurd (let u : ⊥ = omega (arith, y) in u);
    }

  at_end : length rs ≤ done → RecordsDone l₀ (read rs) (record { number = 0; done = done }) l
  unfolding run_records
  at_end z = record { done = sym (m.same ∙ rw (drop_all done rs z) refl); marks = m.marks; untouched = m.untouched }

  pub ended : {k : ℕ} → length rs ≤ done → done ≡ k → RecordsDone l₀ (read rs) (record { number = 0; done = k }) l
  ended z e = subst (λ (i : ℕ). RecordsDone l₀ (read rs) (record { number = 0; done = i }) l) e (at_end z)

module _ (l file : List ℕ) where
  abbrev ran : Bool → FileRun × StationMemory
  ran t = cond t (run_records 0 (decode file) (memory_of l)) (record { number = file_number file; done = 0 }, memory_of l)

  pub refused_file : (refusal : Refusal) {k : ℕ} → WrongFile file refusal → k ≡ refusal_number refusal → FileDone l file (record { number = k; done = 0 }) l
  unfolding run_file
  refused_file refusal w n = record {
    done =
        ap (λ (i : ℕ). (record { number = i; done = 0 }, memory_of l)) (n ∙ sym w)
        ∙ sym (ap ran (ne_eqb (file_number file) 0 (λ z. number_some refusal (sym w ∙ z))));
    marks = λ p j h k. inr refl;
    untouched = λ z. refl;
  }

  pub run_file_is : {rs : List (List ℕ)} → RightFile file rs → {r : FileRun} {l' : List ℕ} → RecordsDone l (read rs) r l' → FileDone l file r l'
  unfolding run_file
  run_file_is f d = record {
    done = d.done ∙ ap (λ (x : List BoardRecord). run_records 0 x (memory_of l)) f.reads ∙ sym (ap ran (eq-eqb (file_number file) 0 f.number));
    marks = d.marks;
    untouched = d.untouched;
  }
