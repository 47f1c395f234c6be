-- A text run on a bench that is not set up: N stays 0 where it is refused before its set-up, and then all memory stays;
-- else N is between 1 and 16, and so many process records are lent.
use mathlib.Core.Path.{◌≡◌, refl, ◌∙◌}
use mathlib.Core.Bool.{Bool, true, false, cond}
use mathlib.Core.List.{List, [], ◌∷◌}
use Prim.Native.Nat.{ℕ, zero, suc, ◌-◌, ◌≤◌}
use native.Mathlib.Omega.{arith}
use lib.Dec.{eqb, ltb, leb}
use lib.ListN.{length, get_or, replicate}
use borrow.Author.Tests.{eqb-true, ltb-false}
use Rattle.llsc.specs.declared.ProcessNumber.{ProcessNumber}
use Rattle.llsc.specs.declared.Order.{Order}
use Rattle.llsc.specs.declared.Order.TheVariants as O
use Rattle.model.specs.declared.Bench.{Bench}
use Rattle.model.specs.declared.Process.{Process}
use Rattle.model.specs.declared.Reply.{Reply}
use Rattle.model.specs.declared.Reply.TheVariants.{Refused}
use Rattle.model.specs.Records.{record_at}
use Rattle.model.specs.Points.{Point, point_of, idle, line1, line2, line3, line4, line5, line6, line7, line7copy, line8, line9, line10}
use Rattle.model.specs.Points.{line11, line12, line12valid, line13, line14, line14valid, line15, line17, line18, line19, line23}
use Rattle.model.specs.Machine.{Memory, step_at, obey}
use Rattle.model.specs.Sizes.{lent_words}
use Rattle.model.specs.Refusals.{set_up_rows}
use Rattle.model.specs.Command.{refusal, command, obeyed}
use Rattle.model.specs.Replies.{number_of}
use Rattle.model.specs.SetUp.{set_up, set_up_refusal, at_set_up}
use Rattle.serving.proofs.RefusalFacts.{or_false, no_row, none_holds, inside}
use Rattle.notation.specs.declared.Entry.{Entry}
use Rattle.notation.specs.declared.Entry.TheVariants.{StartLl, StartVl, StartSc, Step, Finish}
use Rattle.notation.specs.Grammar.{Said}
use Rattle.notation.specs.FirstLine.{read}
use Rattle.notation.specs.Readings.{Reading, right, wrong}
use Rattle.text_runs.specs.TextRun.{most_entries, room_needed, longest_text, process_of, order_of, value_of}
use Rattle.text_runs.specs.TextRun as TR
use Rattle.text_model.specs.TextRun.{Progress, stopped}
use Rattle.text_model.specs.TextRun.{lines_of, counted, single, unanswered, steps, finish, carry, carry_all}
use Rattle.text_model.specs.TextRun.{ended, begun, started, carried_out, run_with}

-- a command keeps N
module _ (p : ProcessNumber) (b : Bench) (q : Process) (ws : List ℕ) where
  step_n : (y : Point) → (step_at y p b q ws).0.bench.n ≡ b.n
  unfolding step_at
  step_n idle = refl
  step_n line1 = refl
  step_n line2 = refl
  step_n line3 = refl
  step_n line4 = refl
  step_n line5 = refl
  step_n line6 = refl
  step_n line7 = refl
  step_n line7copy = refl
  step_n line8 = refl
  step_n line9 = refl
  step_n line10 = refl
  step_n line11 = refl
  step_n line12 = refl
  step_n line12valid = refl
  step_n line13 = refl
  step_n line14 = refl
  step_n line14valid = refl
  step_n line15 = refl
  step_n line17 = refl
  step_n line18 = refl
  step_n line19 = refl
  step_n line23 = refl

  obey_n : (o : Order) (value : List ℕ) → (obey o p value b q ws).0.bench.n ≡ b.n
  unfolding obey step_at
  obey_n O.StartLl value = refl
  obey_n O.StartSc value = refl
  obey_n O.StartVl value = refl
  obey_n O.Step value = step_n (point_of q.line)

command_n : (m : Memory) (p : ℕ) (o : Order) (v : List ℕ) → (command m p o v).1.bench.n ≡ m.bench.n
unfolding command
command_n m p o v = go (eqb (refusal m p o v) 0)
  where
    go : (t : Bool) → (cond t (obeyed m (record { 0 = p }) o v) (Refused (refusal m p o v), m)).1.bench.n ≡ m.bench.n
    go true = obey_n (record { 0 = p }) m.bench (record_at m.records (record { 0 = p })) m.words o v
    go false = refl

-- and so does every entry
abbrev size_of : Progress → ℕ
size_of s = s.memory.bench.n

module _ (s : Progress) (e : Entry) where
  abbrev out : Reply × Memory
  out = command s.memory (process_of e) (order_of e) (value_of s.memory.bench.w e)

  single_n : size_of (single e s) ≡ size_of s
  unfolding TR.single
  single_n = go (eqb s.stop 0) (leb most_entries s.entries) (ltb (length s.listing - s.written) (room_needed s.traced)) (eqb (number_of out.0) 0)
    where
      go : (a b c d : Bool) → size_of (cond a (cond b (stopped 12 s) (cond c (stopped 14 s) (cond d (counted s out.1 (lines_of s e out)) (stopped (number_of out.0) s)))) s) ≡ size_of s
      go false b c d = refl
      go true true c d = refl
      go true false true d = refl
      go true false false true = command_n s.memory (process_of e) (order_of e) (value_of s.memory.bench.w e)
      go true false false false = refl

steps_n : (left p : ℕ) (s : Progress) → size_of (steps left p s) ≡ size_of s
unfolding TR.steps
steps_n zero p s = refl
steps_n (suc left) p s = go (unanswered p next) (steps_n left p next)
  where
    next : Progress
    next = single (Step p) s

    go : (t : Bool) → size_of (steps left p next) ≡ size_of next → size_of (cond t (steps left p next) next) ≡ size_of s
    go true e = e ∙ single_n s (Step p)
    go false e = single_n s (Step p)

carry_n : (e : Entry) (s : Progress) → size_of (carry e s) ≡ size_of s
unfolding TR.carry
carry_n (StartLl p) s = single_n s (StartLl p)
carry_n (StartVl p) s = single_n s (StartVl p)
carry_n (StartSc p k) s = single_n s (StartSc p k)
carry_n (Step p) s = single_n s (Step p)
carry_n (Finish p) s = go (eqb s.stop 0)
  where
    go : (t : Bool) → size_of (cond t (finish p s) s) ≡ size_of s
    go true = steps_n (suc (most_entries - s.entries)) p s
    go false = refl

carry_all_n : (es : List Entry) (s : Progress) → size_of (carry_all es s) ≡ size_of s
unfolding TR.carry_all
carry_all_n [] s = refl
carry_all_n (e ∷ es) s = carry_all_n es (carry e s) ∙ carry_n e s

-- what a run from the memory m leaves
pub record Sized (m m' : Memory) : Type 0 where
  pub before : m'.bench.n ≡ 0 → m' ≡ m
  pub most : m'.bench.n ≤ 16
  pub lent : m'.bench.n ≤ length m.records

module _ (m : Memory) (unset : m.bench.n ≡ 0) where
  stays : Sized m m
  stays = record { before = λ e. refl; most = omega (arith, unset); lent = omega (arith, unset) }

  -- an accepted set-up
  pub record Admits (n : ℕ) : Type 0 where
    pub some : 1 ≤ n
    pub most : n ≤ 16
    pub lent : n ≤ length m.records

  pub admits : (n w : ℕ) (v : List ℕ) → set_up_refusal m n w v ≡ 0 → Admits n
  unfolding set_up_refusal
  admits n w v e =
      let r : (i : ℕ) → (get_or (set_up_rows m n w v) i no_row).holds ≡ false = none_holds (set_up_rows m n w v) refl e in
      let a = inside 1 16 n (r 0) in
      record { some = a.0; most = a.1; lent = ltb-false _ _ (or_false (ltb (length m.words) (lent_words n w)) (ltb (length m.records) n) (r 2)).1 }

  sized_as : (n : ℕ) (m' : Memory) → Admits n → m'.bench.n ≡ n → Sized m m'
  sized_as n m' a e = record { before = λ z. let y : ⊥ = omega (arith, a.some, e, z) in absurd y; most = omega (arith, a.most, e); lent = omega (arith, a.lent, e) }

  sized_started : (t : Bool) (listing : List ℕ) (a : Said) → Sized m (started t m listing a (set_up m a.n a.w (replicate a.w a.initial))).memory
  unfolding set_up
  sized_started t listing a = go (eqb number 0) refl
    where
      value : List ℕ
      value = replicate a.w a.initial

      number : ℕ
      number = set_up_refusal m a.n a.w value

      go : (b : Bool) → eqb number 0 ≡ b
          → Sized m (cond b (ended (carry_all a.entries (begun t (cond b (at_set_up m a.n a.w value) m) listing 0))) (ended (begun t m listing number))).memory
      go true e = sized_as a.n _ (admits a.n a.w value (eqb-true number 0 e)) (carry_all_n a.entries (begun t (at_set_up m a.n a.w value) listing 0))
      go false e = stays

  sized_carried : (t : Bool) (listing : List ℕ) (r : Reading) → Sized m (carried_out t m listing r).memory
  sized_carried t listing (right a) = sized_started t listing a
  sized_carried t listing (wrong k left) = stays

  pub sized_run : (t : Bool) (text listing : List ℕ) → Sized m (run_with t m text listing).memory
  unfolding TR.run_with
  sized_run t text listing = go (ltb (length listing) (room_needed t)) (ltb longest_text (length text))
    where
      go : (a b : Bool) → Sized m (cond a (record { number = 14; entries = 0; written = 0; memory = m; listing = listing })
          (cond b (ended (begun t m listing 12)) (carried_out t m listing (read text)))).memory
      go true b = stays
      go false true = stays
      go false false = sized_carried t listing (read text)
