-- A text run looks at and changes only the first sixteen records.
use mathlib.Core.Path.{◌≡◌, refl, sym, ap, ap₂, ◌∙◌}
use mathlib.Core.Bool.{Bool, true, false, not, ◌&&◌, cond}
use mathlib.Core.List.{List, [], ◌∷◌, ◌++◌}
use Prim.Native.Nat.{ℕ, zero, suc, ◌+◌, ◌-◌, ◌≤◌, ◌<◌}
use native.Mathlib.Decide.{dec_le}
use native.Mathlib.Omega.{arith}
use lib.Dec.{eqb, ltb, leb}
use borrow.Author.Tests.{eqb-true, eqb-false}
use lib.ListN.{length, take, drop, take-append-drop, drop_of_length-le, replicate}
use lib.Seq.{length-take-le, take_all}
use Rattle.model.specs.Replies.{number_of}
use Rattle.model.specs.declared.Process.{Process}
use Rattle.model.specs.declared.Reply.{Reply}
use Rattle.model.specs.declared.Reply.TheVariants.{Refused, Accepted, LlAnswered, ScAnswered, VlAnswered}
use Rattle.model.specs.Records.{record_at}
use Rattle.model.specs.Points.{point_of}
use Rattle.model.specs.Refusals.{is_idle}
use Rattle.model.specs.Machine.{Memory}
use Rattle.model.specs.Command.{command}
use Rattle.model.specs.SetUp.{set_up}
use Rattle.notation.specs.declared.Entry.{Entry}
use Rattle.notation.specs.declared.Entry.TheVariants.{StartLl, StartVl, StartSc, Step, Finish}
use Rattle.notation.specs.Grammar.{Said}
use Rattle.notation.specs.FirstLine.{read}
use Rattle.notation.specs.Readings.{Reading, right, wrong}
use Rattle.access.specs.declared.Access.{Access}
use Rattle.access.specs.Accesses.{access_of}
use Rattle.text_runs.specs.TextRun.{process_of, order_of}
use Rattle.text_runs.specs.TextRun as TR
use Rattle.text_model.specs.TextRun.{Progress, stopped, line_of, access_now, entry_line, lines_of, counted, replied}
use Rattle.text_runs.specs.TextRun.{value_of}
use Rattle.text_model.specs.TextRun.{commanded, single, unanswered, steps, finish, carry, carry_all, Ended, ended, begun}
use Rattle.text_runs.specs.TextRun.{most_entries, room_needed, longest_text}
use Rattle.text_model.specs.TextRun.{started, carried_out, run_with, run_text}
use Rattle.text_laws.proofs.CommandFrame.{with_records, behind, same_record, command_frame, command_records, unrefused_below, set_up_frame, set_up_records}

-- a run whose memory has more records behind its own
abbrev pub longer : List Process → Progress → Progress
longer t s = record { memory = with_records s.memory (s.memory.records ++ t); listing = s.listing; written = s.written; entries = s.entries; stop = s.stop; traced = s.traced }

-- the run's own records are sixteen
abbrev pub Sixteen : Progress → Type 0
Sixteen s = length s.memory.records ≡ 16

module _ (t : List Process) where
  same_line : (m : Memory) (p : ℕ) (r : Reply) → line_of (with_records m (m.records ++ t)) p r ≡ line_of m p r
  same_line m p (Refused c) = refl
  same_line m p Accepted = refl
  same_line m p (LlAnswered k) = refl
  same_line m p (ScAnswered b k) = refl
  same_line m p (VlAnswered b k) = refl

  -- the line of a trace looks at one of the sixteen
  same_access : (m : Memory) → length m.records ≡ 16 → (p : ℕ) → p < 16 → access_now (with_records m (m.records ++ t)) p ≡ access_now m p
  same_access m h p below = ap (λ q. access_of (point_of q.line) (record { 0 = p }) m.bench q m.words) (same_record m t h p (order_of (Step p)) [] below)

  same_lines : (s : Progress) → Sixteen s → (e : Entry) → process_of e < 16 → (out : Reply × Memory) → lines_of (longer t s) e (behind t out) ≡ lines_of s e out
  same_lines s h e below out =
      ap₂ (λ (a : Access) (l : List ℕ). cond s.traced (entry_line (s.entries + 1) a e out.0) [] ++ l) (same_access s.memory h (process_of e) below) (same_line out.1 (process_of e) out.0)

  reply_frame : (s : Progress) → Sixteen s → (e : Entry) (out : Reply × Memory)
      → (number_of out.0 ≡ 0 → process_of e < 16) → replied (longer t s) e (behind t out) ≡ longer t (replied s e out)
  reply_frame s h e out below = go (eqb (number_of out.0) 0) refl
    where
      go : (b : Bool) → eqb (number_of out.0) 0 ≡ b → cond b
          (counted (longer t s) (with_records out.1 (out.1.records ++ t)) (lines_of (longer t s) e (behind t out)))
          (stopped (number_of out.0) (longer t s))
          ≡ longer t (cond b (counted s out.1 (lines_of s e out)) (stopped (number_of out.0) s))
      go true x = ap (λ l. counted (longer t s) (with_records out.1 (out.1.records ++ t)) l) (same_lines s h e (below (eqb-true _ 0 x)) out)
      go false x = refl

  -- one entry
  module _ (s : Progress) (h : Sixteen s) (e : Entry) where
    abbrev out : Reply × Memory
    out = command s.memory (process_of e) (order_of e) (value_of s.memory.bench.w e)

    command_longer : commanded e (longer t s) ≡ longer t (commanded e s)
    command_longer =
        ap (replied (longer t s) e) (command_frame s.memory t h (process_of e) (order_of e) (value_of s.memory.bench.w e))
        ∙ reply_frame s h e out (unrefused_below s.memory t h (process_of e) (order_of e) (value_of s.memory.bench.w e))

    single_frame : single e (longer t s) ≡ longer t (single e s)
    unfolding TR.single
    single_frame = go (eqb s.stop 0) (leb most_entries s.entries) (ltb (length s.listing - s.written) (room_needed s.traced))
      where
        go : (a b c : Bool)
            → cond a (cond b (stopped 12 (longer t s)) (cond c (stopped 14 (longer t s)) (commanded e (longer t s)))) (longer t s)
            ≡ longer t (cond a (cond b (stopped 12 s) (cond c (stopped 14 s) (commanded e s))) s)
        go false b c = refl
        go true true c = refl
        go true false true = refl
        go true false false = command_longer

    single_sixteen : Sixteen (single e s)
    unfolding TR.single
    single_sixteen = go (eqb s.stop 0) (leb most_entries s.entries) (ltb (length s.listing - s.written) (room_needed s.traced)) (eqb (number_of out.0) 0)
      where
        go : (a b c d : Bool) → Sixteen (cond a (cond b (stopped 12 s) (cond c (stopped 14 s) (cond d (counted s out.1 (lines_of s e out)) (stopped (number_of out.0) s)))) s)
        go false b c d = h
        go true true c d = h
        go true false true d = h
        go true false false true = command_records s.memory t h (process_of e) (order_of e) (value_of s.memory.bench.w e)
        go true false false false = h

    -- where an entry leaves the run going on, its process is one of the sixteen
    going_on : (single e s).stop ≡ 0 → process_of e < 16
    unfolding TR.single
    going_on = go (eqb s.stop 0) refl (leb most_entries s.entries) (ltb (length s.listing - s.written) (room_needed s.traced)) (eqb (number_of out.0) 0) refl
      where
        go : (a : Bool) → eqb s.stop 0 ≡ a → (b c d : Bool) → eqb (number_of out.0) 0 ≡ d
            → (cond a (cond b (stopped 12 s) (cond c (stopped 14 s) (cond d (counted s out.1 (lines_of s e out)) (stopped (number_of out.0) s)))) s).stop ≡ 0 → process_of e < 16
        go false x b c d y z = absurd (eqb-false s.stop 0 x z)
        go true x true c d y z = absurd (omega arith)
        go true x false true d y z = absurd (omega arith)
        go true x false false true y z = unrefused_below s.memory t h (process_of e) (order_of e) (value_of s.memory.bench.w e) (eqb-true _ 0 y)
        go true x false false false y z = absurd (eqb-false _ 0 y z)

  -- `!`
  same_unanswered : (p : ℕ) (s : Progress) → Sixteen s → (s.stop ≡ 0 → p < 16) → unanswered p (longer t s) ≡ unanswered p s
  same_unanswered p s h below = go (eqb s.stop 0) refl
    where
      go : (b : Bool) → eqb s.stop 0 ≡ b → b && not (is_idle (record_at (s.memory.records ++ t) (record { 0 = p }))) ≡ b && not (is_idle (record_at s.memory.records (record { 0 = p })))
      go false e = refl
      go true e = ap (λ q. not (is_idle q)) (same_record s.memory t h p (order_of (Step p)) [] (below (eqb-true _ 0 e)))

  steps_frame : (left p : ℕ) (s : Progress) → Sixteen s → steps left p (longer t s) ≡ longer t (steps left p s)
  unfolding TR.steps
  steps_frame zero p s h = refl
  steps_frame (suc left) p s h =
      ap (λ z. cond (unanswered p z) (steps left p z) z) (single_frame s h (Step p))
      ∙ ap (λ b. cond b (steps left p (longer t next)) (longer t next)) (same_unanswered p next (single_sixteen s h (Step p)) (going_on s h (Step p)))
      ∙ go (unanswered p next) (steps_frame left p next (single_sixteen s h (Step p)))
    where
      next : Progress
      next = single (Step p) s

      go : (b : Bool) → steps left p (longer t next) ≡ longer t (steps left p next) → cond b (steps left p (longer t next)) (longer t next) ≡ longer t (cond b (steps left p next) next)
      go true e = e
      go false e = refl

  steps_sixteen : (left p : ℕ) (s : Progress) → Sixteen s → Sixteen (steps left p s)
  unfolding TR.steps
  steps_sixteen zero p s h = h
  steps_sixteen (suc left) p s h = go (unanswered p (single (Step p) s)) (steps_sixteen left p (single (Step p) s) (single_sixteen s h (Step p)))
    where
      go : (b : Bool) → Sixteen (steps left p (single (Step p) s)) → Sixteen (cond b (steps left p (single (Step p) s)) (single (Step p) s))
      go true x = x
      go false x = single_sixteen s h (Step p)

  carry_frame : (e : Entry) (s : Progress) → Sixteen s → carry e (longer t s) ≡ longer t (carry e s)
  unfolding TR.carry
  carry_frame (StartLl p) s h = single_frame s h (StartLl p)
  carry_frame (StartVl p) s h = single_frame s h (StartVl p)
  carry_frame (StartSc p k) s h = single_frame s h (StartSc p k)
  carry_frame (Step p) s h = single_frame s h (Step p)
  carry_frame (Finish p) s h = go (eqb s.stop 0)
    where
      go : (b : Bool) → cond b (finish p (longer t s)) (longer t s) ≡ longer t (cond b (finish p s) s)
      go true = steps_frame (suc (most_entries - s.entries)) p s h
      go false = refl

  carry_sixteen : (e : Entry) (s : Progress) → Sixteen s → Sixteen (carry e s)
  unfolding TR.carry
  carry_sixteen (StartLl p) s h = single_sixteen s h (StartLl p)
  carry_sixteen (StartVl p) s h = single_sixteen s h (StartVl p)
  carry_sixteen (StartSc p k) s h = single_sixteen s h (StartSc p k)
  carry_sixteen (Step p) s h = single_sixteen s h (Step p)
  carry_sixteen (Finish p) s h = go (eqb s.stop 0)
    where
      go : (b : Bool) → Sixteen (cond b (finish p s) s)
      go true = steps_sixteen (suc (most_entries - s.entries)) p s h
      go false = h

  carry_all_frame : (es : List Entry) (s : Progress) → Sixteen s → carry_all es (longer t s) ≡ longer t (carry_all es s)
  unfolding TR.carry_all
  carry_all_frame [] s h = refl
  carry_all_frame (e ∷ es) s h = ap (carry_all es) (carry_frame e s h) ∙ carry_all_frame es (carry e s) (carry_sixteen e s h)

  -- the whole run
  abbrev pub ended_longer : Ended → Ended
  ended_longer e = record { number = e.number; entries = e.entries; written = e.written; memory = with_records e.memory (e.memory.records ++ t); listing = e.listing }

  module _ (style : Bool) (m : Memory) (h : length m.records ≡ 16) (listing : List ℕ) where
    abbrev more : Memory
    more = with_records m (m.records ++ t)

    started_frame : (a : Said)
        → started style more listing a (set_up more a.n a.w (replicate a.w a.initial))
        ≡ ended_longer (started style m listing a (set_up m a.n a.w (replicate a.w a.initial)))
    started_frame a = ap (started style more listing a) (set_up_frame m t h a.n a.w (replicate a.w a.initial)) ∙ go (eqb prepared.0 0)
      where
        prepared : ℕ × Memory
        prepared = set_up m a.n a.w (replicate a.w a.initial)

        go : (b : Bool) → cond b (ended (carry_all a.entries (begun style (with_records prepared.1 (prepared.1.records ++ t)) listing 0))) (ended (begun style more listing prepared.0))
            ≡ ended_longer (cond b (ended (carry_all a.entries (begun style prepared.1 listing 0))) (ended (begun style m listing prepared.0)))
        go true = ap ended (carry_all_frame a.entries (begun style prepared.1 listing 0) (set_up_records m t h a.n a.w (replicate a.w a.initial)))
        go false = refl

    carried_frame : (r : Reading) → carried_out style more listing r ≡ ended_longer (carried_out style m listing r)
    carried_frame (right a) = started_frame a
    carried_frame (wrong k left) = refl

    run_frame : (text : List ℕ) → run_with style more text listing ≡ ended_longer (run_with style m text listing)
    unfolding TR.run_with
    run_frame text = go (ltb (length listing) (room_needed style)) (ltb longest_text (length text))
      where
        go : (a b : Bool) → cond a
            (record { number = 14; entries = 0; written = 0; memory = more; listing = listing })
            (cond b (ended (begun style more listing 12)) (carried_out style more listing (read text)))
            ≡ ended_longer (cond a (record { number = 14; entries = 0; written = 0; memory = m; listing = listing })
            (cond b (ended (begun style m listing 12)) (carried_out style m listing (read text))))
        go true b = refl
        go false true = refl
        go false false = carried_frame (read text)

-- a text run on any number of records is one on the first sixteen of them
append_none : (xs : List Process) → xs ++ [] ≡ xs
append_none [] = refl
append_none (x ∷ xs) = ap (x ∷◌) (append_none xs)

first_sixteen_in : (style : Bool) (m : Memory) (text listing : List ℕ)
    → run_with style m text listing ≡ ended_longer (drop 16 m.records) (run_with style (with_records m (take 16 m.records)) text listing)
first_sixteen_in style m text listing = go (dec_le 16 (length m.records))
  where
    go : Dec (16 ≤ length m.records) → run_with style m text listing ≡ ended_longer (drop 16 m.records) (run_with style (with_records m (take 16 m.records)) text listing)
    go (yes h) =
        ap (λ rs. run_with style (with_records m rs) text listing) (sym (take-append-drop 16 m.records))
        ∙ run_frame (drop 16 m.records) style (with_records m (take 16 m.records)) (length-take-le 16 m.records h) listing text
    go (no h) =
        let short : length m.records ≤ 16 = omega arith in
        rw (drop_of_length-le m.records short, take_all 16 m.records short)
        (ap (λ rs. record {
          number = here.number;
          entries = here.entries;
          written = here.written;
          memory = with_records here.memory rs;
          listing = here.listing;
        })
        (sym (append_none here.memory.records)))
      where
        here : Ended
        here = run_with style m text listing

pub first_sixteen : (m : Memory) (text listing : List ℕ)
    → run_text m text listing ≡ ended_longer (drop 16 m.records) (run_text (with_records m (take 16 m.records)) text listing)
first_sixteen = first_sixteen_in false
