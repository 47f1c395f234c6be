-- The line of an accepted entry: it is one line, and it is read for what its command does.
use mathlib.Core.Path.{◌≡◌, refl, sym, ap, subst, ◌∙◌}
use mathlib.Core.List.{List, [], ◌++◌, append-nil, append_assoc}
use mathlib.Core.Bool.{Bool, true, false}
use Prim.Native.Nat.{ℕ, ◌*◌, ◌≤◌}
use native.Mathlib.Omega.{arith}
use lib.Dec.{ltb}
use lib.ListN.{length, replicate}
use borrow.Author.Tests.{eq-eqb, ltb-false, not-false}
use Rattle.llsc.specs.declared.Order.{Order}
use Rattle.llsc.specs.declared.Order.TheVariants as order
use Rattle.llsc.specs.History.{Command}
use Rattle.model.specs.declared.Reply.{Reply}
use Rattle.model.specs.declared.Reply.TheVariants.{Accepted}
use Rattle.model.specs.Records.{record_at}
use Rattle.model.specs.Points.{point_of}
use Rattle.model.specs.Machine.{Memory, obey}
use Rattle.model.specs.Refusals.{in_range}
use Rattle.model.specs.Command.{refusal, command, obeyed}
use Rattle.model.specs.Replies.{number_of}
use Rattle.model.specs.History.{next}
use Rattle.rows.proofs.RowLaws.{neither}
use Rattle.doings.specs.Doings.{doing}
use Rattle.notation.specs.declared.Entry.{Entry}
use Rattle.notation.specs.declared.Entry.TheVariants.{StartLl, StartVl, StartSc, Step, Finish}
use Rattle.notation.specs.Stretches.{Small}
use Rattle.answers.specs.Shape.{largest}
use Rattle.trace_parts.specs.declared.Start.{Start}
use Rattle.trace_parts.specs.declared.Start.TheVariants as call
use Rattle.trace_parts.specs.TraceParts.{start_line}
use Rattle.access.specs.TraceLines.{step_line}
use Rattle.trace_parts.proofs.Lengths.{SmallStart, start_length}
use Rattle.access.proofs.Lengths.{SmallAccess, step_length}
use Rattle.access.proofs.SmallLaws.{row_9_parts, access_small}
use Rattle.commuting_laws.specs.OnTheBench.{Admitted, bench_does, BenchSwapped}
use Rattle.text_model.specs.Reached.{Reached}
use Rattle.text_runs.specs.TextRun.{process_of, order_of, value_of}
use Rattle.text_model.specs.TextRun.{answers, access_now, trace_line, line_of}
use Rattle.text_laws.proofs.AcceptedSteps.{unrefused, stepped, at_work}
use Rattle.text_model.proofs.ReachedLaws.{unhindered}
use Rattle.text_entry.proofs.WordLaws.{Below}
use Rattle.std.specs.Prelude.{Option, Some}
use Rattle.marking.specs.declared.Line.{Line}
use Rattle.marking.specs.Marks as Marks
use Rattle.marking.specs.Marks.{started_line, may_swap}
use Rattle.marking.specs.Reading.{no_line, line_in}
use Rattle.marking.specs.Marked.{mark_text}
use Rattle.marking.proofs.Theorems.{marks_mean_apart, trace_shows_line, marked_change_places}
use Rattle.marking.proofs.TracedLines.{start_line_read, step_line_read}
use Rattle.marking_laws.specs.MarkedRun.{command_of, line_at, Before, first, after, MayChange, Changed, Mark, swap, stay}
use Rattle.marking_laws.proofs.LineEnds.{feedless, IsLine, start_is_line, step_is_line}

-- what the line of an entry says, if its command finds m
abbrev pub line_said : Memory → Entry → Option Line
line_said m e = Some (Marks.line_of (process_of e) (bench_does m (command_of m e)))

-- an accepted start answers nothing
module _ (m : Memory) (p : ℕ) (v : List ℕ) where
  reply_of : (o : Order) → number_of (command m p o v).0 ≡ 0 → (command m p o v).0 ≡ (obeyed m (record { 0 = p }) o v).0
  unfolding command
  reply_of o e = simp (eq-eqb (refusal m p o v) 0 (unrefused m p o v e))

  ll_start : (obeyed m (record { 0 = p }) order.StartLl v).0 ≡ Accepted
  unfolding obey
  ll_start = refl

  vl_start : (obeyed m (record { 0 = p }) order.StartVl v).0 ≡ Accepted
  unfolding obey
  vl_start = refl

  sc_start : (obeyed m (record { 0 = p }) order.StartSc v).0 ≡ Accepted
  unfolding obey
  sc_start = refl

  started_alone : (o : Order) → (obeyed m (record { 0 = p }) o v).0 ≡ Accepted → number_of (command m p o v).0 ≡ 0
      → (l : List ℕ) (m' : Memory) → l ++ line_of m' p (command m p o v).0 ≡ l
  started_alone o a e l m' = ap (λ (r : Reply). l ++ line_of m' p r) (reply_of o e ∙ a) ∙ append-nil l

-- what a step shows is small
small_now : {m : Memory} → Reached m → (p : ℕ) → refusal m p order.Step [] ≡ 0 → Below (5 * m.bench.n * m.bench.w) m.words → SmallAccess (access_now m p)
small_now {m} r p z b =
    let n = m.bench.n in
    let ready = (stepped r p z).ready in
    let free = unhindered r p order.Step [] in
    let lent = neither (ltb (length m.words) (5 * n * m.bench.w)) (ltb (length m.records) n) free.row_3 in
    let own = ready.lent.process in
    let parts = row_9_parts m (record { 0 = p }) (not-false (in_range m) free.row_9) own (omega (arith, own, ltb-false (length m.records) n lent.1)) in
    access_small m.bench ready parts.0 parts.1 b.at (point_of (record_at m.records (record { 0 = p })).line)

-- the entry's line
pub record EntryLine (k : ℕ) (m : Memory) (e : Entry) : Type 0 where
  pub is_line : IsLine (line_at k m e)
  pub read_as : (rest : List ℕ) → line_in (line_at k m e ++ rest) ≡ line_said m e
  pub short : length (trace_line k m e (command m (process_of e) (order_of e) (value_of m.bench.w e)).0) ≤ 128

module _ {m : Memory} (r : Reached m) (b : Below (5 * m.bench.n * m.bench.w) m.words) (k : ℕ) (hk : k ≤ 60000) where
  start_entry : (o : Order) (p : ℕ) (start : Start) (value : List ℕ) → p ≤ largest → SmallStart start
      → (obeyed m (record { 0 = p }) o value).0 ≡ Accepted → number_of (command m p o value).0 ≡ 0 → (m' : Memory)
      → let l = start_line k p start ++ line_of m' p (command m p o value).0 in
      IsLine l × (((rest : List ℕ) → line_in (l ++ rest) ≡ Some (started_line p)) × (length (start_line k p start) ≤ 128))
  start_entry o p start value hp hv a z m' =
      let alone = started_alone m p value o a z (start_line k p start) m' in (
        subst IsLine (sym alone) (start_is_line k p start),
        (
          (λ rest. ap (λ (x : List ℕ). line_in (x ++ rest)) alone ∙ start_line_read k p start rest (omega (arith, hk)) hp),
          start_length k p start hk hp hv,
        ),
      )

  step_entry : (p : ℕ) → p ≤ largest → number_of (command m p order.Step []).0 ≡ 0 → (m' : Memory)
      → let reply = (command m p order.Step []).0 in let l = step_line k p (access_now m p) (answers reply) ++ line_of m' p reply in
      IsLine l × (((rest : List ℕ) → line_in (l ++ rest) ≡ Some (Marks.line_of p (bench_does m (record { process = p; order = order.Step; value = [] }))))
      × (length (step_line k p (access_now m p) (answers reply)) ≤ 128))
  step_entry p hp z m' =
      let reply = (command m p order.Step []).0 in
      let ok = unrefused m p order.Step [] z in
      let small = small_now r p ok b in
      let step = step_line k p (access_now m p) (answers reply) in (
        step_is_line k p (access_now m p) m' reply,
        (
          (λ rest. ap line_in (append_assoc step (line_of m' p reply) rest)
              ∙ step_line_read k p (access_now m p) (answers reply) (line_of m' p reply ++ rest) (omega (arith, hk)) hp small
              ∙ ap Some (trace_shows_line m (record { 0 = p }) (at_work r p ok))),
          step_length k p (access_now m p) (answers reply) hk hp small,
        ),
      )

  pub entry_line_is : (e : Entry) → Small e → number_of (command m (process_of e) (order_of e) (value_of m.bench.w e)).0 ≡ 0 → EntryLine k m e
  unfolding doing feedless
  entry_line_is (StartLl p) h z =
      let x = start_entry order.StartLl p call.Ll [] h tt (ll_start m p []) z (next m (command_of m (StartLl p))) in
      record { is_line = x.0; read_as = x.1.0; short = x.1.1 }
  entry_line_is (StartVl p) h z =
      let x = start_entry order.StartVl p call.Vl [] h tt (vl_start m p []) z (next m (command_of m (StartVl p))) in
      record { is_line = x.0; read_as = x.1.0; short = x.1.1 }
  entry_line_is (StartSc p v) h z =
      let value = replicate m.bench.w v in
      let x = start_entry order.StartSc p (call.Sc v) value h.0 h.1 (sc_start m p value) z (next m (command_of m (StartSc p v))) in
      record { is_line = x.0; read_as = x.1.0; short = x.1.1 }
  entry_line_is (Step p) h z =
      let x = step_entry p h z (next m (command_of m (Step p))) in record { is_line = x.0; read_as = x.1.0; short = x.1.1 }
  entry_line_is (Finish p) h z =
      let x = step_entry p h z (next m (command_of m (Finish p))) in record { is_line = x.0; read_as = x.1.0; short = x.1.1 }

-- the line before an entry
abbrev pub line_before : Before → Option Line
line_before first = no_line
line_before (after m e) = line_said m e

-- what is known of the entry before: it was accepted, and left the memory that the next one finds
pub record Left (m₀ : Memory) (e₀ : Entry) (m : Memory) : Type 0 where
  pub reached : Reached m₀
  pub admitted : Admitted m₀ (command_of m₀ e₀)
  pub is : m ≡ next m₀ (command_of m₀ e₀)

abbrev pub Found : Before → Memory → Type 0
Found first m = Unit
Found (after m₀ e₀) m = Left m₀ e₀ m

-- `commute`, of memory that a set-up and commands have made
abbrev Exchanges : Memory → Type 0
Exchanges x = (c d : Command) → Admitted x c → Admitted (next x c) d
    → may_swap (Some (Marks.line_of c.process (bench_does x c))) (Some (Marks.line_of d.process (bench_does (next x c) d))) ≡ true → BenchSwapped x c d

exchanges : {x : Memory} → Reached x → Exchanges x
exchanges r = subst Exchanges (sym r.is) (marked_change_places r.lent r.shaped r.n r.w r.value r.commands r.accepted)

-- the second command finds what the first one left
abbrev Joins : Memory → Entry → Entry → Memory → Type 0
Joins m₀ e₀ e m = Admitted m (command_of m e) → may_swap (line_said m₀ e₀) (line_said m e) ≡ true → BenchSwapped m₀ (command_of m₀ e₀) (command_of m e)

joins : (m₀ : Memory) (e₀ : Entry) (m : Memory) (e : Entry) → Left m₀ e₀ m → Joins m₀ e₀ e m
joins m₀ e₀ m e f =
    let m₁ = next m₀ (command_of m₀ e₀) in
    subst (Joins m₀ e₀ e) (sym f.is) (λ a x. exchanges f.reached (command_of m₀ e₀) (command_of m₁ e) f.admitted a x)

-- the mark of an accepted entry is the one that its condition asks for
pub mark_of : (before : Before) (m : Memory) (e : Entry) → Found before m → Admitted m (command_of m e)
    → Mark (MayChange before m e) (Changed before m e) (mark_text (may_swap (line_before before) (line_said m e)))
mark_of first m e f a = stay (λ x. x)
mark_of (after m₀ e₀) m e f a = by (may_swap (line_said m₀ e₀) (line_said m e)) refl
  where
    by : (t : Bool) → may_swap (line_said m₀ e₀) (line_said m e) ≡ t → Mark (MayChange (after m₀ e₀) m e) (Changed (after m₀ e₀) m e) (mark_text t)
    by true x = swap ((marks_mean_apart (process_of e₀) (process_of e) (bench_does m₀ (command_of m₀ e₀)) (bench_does m (command_of m e))).marked x) (joins m₀ e₀ m e f a x)
    by false x = stay (λ y. (marks_mean_apart (process_of e₀) (process_of e) (bench_does m₀ (command_of m₀ e₀)) (bench_does m (command_of m e))).unmarked x y.0 y.1)
