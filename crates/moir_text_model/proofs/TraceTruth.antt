-- Each line of a trace of Moir's bench is true of its own command: `trace_is_true`, `process_gets`, `line_shown` and
-- `start_tells` (crate `moir_access`), joined to the text run (`text_runs`' `ToldLaws`).
use mathlib.Core.Path.{◌≡◌, refl, sym, ap, subst, ◌∙◌}
use mathlib.Core.Logic.{◌≢◌}
use mathlib.Core.Bool.{Bool, true, false, cond, ◌||◌}
use mathlib.Core.List.{List, [], ◌∷◌}
use Prim.Native.Nat.{ℕ}
use native.Mathlib.Omega.{arith}
use lib.Dec.{eqb}
use lib.ListN.{replicate}
use lib.Seq.{get_or-set_same}
use borrow.Author.Tests.{eqb-true, eqb-false}
use Rattle.llsc.specs.declared.Order.{Order}
use Rattle.llsc.specs.declared.Order.TheVariants as order
use Rattle.llsc.specs.Rows.{some, is_start}
use Rattle.notation.specs.declared.Entry.{Entry}
use Rattle.notation.specs.declared.Entry.TheVariants.{StartLl, StartVl, StartSc, Step, Finish}
use Rattle.notation.specs.Grammar.{Said}
use Rattle.moir_model.specs.declared.Process.{Process}
use Rattle.moir_model.specs.declared.Reply.{Reply}
use Rattle.moir_model.specs.Records.{no_process, record_at}
use Rattle.moir_model.specs.Points.{Point, line_number, busy_points, find, point_of, idle}
use Rattle.moir_model.specs.Machine.{Memory, Shaped, step_at, obey}
use Rattle.moir_model.specs.Refusals.{is_idle}
use Rattle.moir_model.specs.Command.{command, refusal, obeyed}
use Rattle.moir_model.specs.Replies.{number_of}
use Rattle.moir_model.specs.SetUp.{set_up}
use Rattle.moir_access.specs.Truth.{TellsTruth, Untouched, Gets, figure_line, Stepped}
use Rattle.moir_access.proofs.Theorems.{trace_is_true, process_gets, line_shown, start_tells}
use Rattle.text_runs.specs.TextRun.{process_of, order_of, value_of, carry_all, begun}
use Rattle.text_runs.proofs.ToldLaws as T
use Rattle.moir_text_model.specs.TextRun.{figure6, Progress, access_now}
use Rattle.moir_text_model.specs.TrueLines.{StepTrue, StartTrue, EntryTrue, Told, trace_begun}
use Rattle.moir_text_model.proofs.AcceptedRows.{unrefused, left_by, cleared, in_order}
use Rattle.moir_text_model.proofs.TableLengths.{command_shaped, set_up_shaped}

-- a number that stands for a point of the list is that point's
found : (k : ℕ) (ys : List Point) → some (λ y. eqb k (line_number y)) ys ≡ true → line_number (find k ys) ≡ k
found k [] e = absurd (let zero_one : ◌≡◌ {A = ℕ} 0 1 = ap (λ (t : Bool). cond t 1 0) e in let w : ⊥ = omega arith in w)
found k (y ∷ ys) e = by (eqb k (line_number y)) refl e (λ h. found k ys h)
  where
    by : (t : Bool) → eqb k (line_number y) ≡ t → (t || some (λ y. eqb k (line_number y)) ys) ≡ true
        → (some (λ y. eqb k (line_number y)) ys ≡ true → line_number (find k ys) ≡ k) → line_number (cond t y (find k ys)) ≡ k
    by true q e rest = sym (eqb-true k (line_number y) q)
    by false q e rest = rest e

-- an accepted step: its process is one of N, busy and in range
module _ (m : Memory) (shaped : Shaped m) (p : ℕ) (z : refusal m p order.Step [] ≡ 0) where
  abbrev q : Process
  q = record_at m.records (record { 0 = p })

  stepped : Stepped m.bench q (record { 0 = p }) m.words
  stepped =
      let r = in_order m p order.Step [] z in
      record {
        ready = record {
          standing = record {
            n_most = r.n_most;
            w_most = r.w_most;
            words = (cleared m p order.Step [] z).lent;
            word = r.word;
            count = omega (arith, r.count, r.w_most);
          };
          process = r.process;
          x_pid_is = r.x;
          new_pid_is = r.newhdr;
        };
        tags = shaped.tags;
      }

  -- row 9 refuses a line that is no point, row 6 a step of an idle process
  at_work : point_of q.line ≢ idle
  at_work rest =
      let busy : is_idle q ≡ false = (cleared m p order.Step [] z).busy in
      let line : some (λ y. eqb q.line (line_number y)) busy_points ≡ true = by (is_idle q) busy (in_order m p order.Step [] z).line in
      eqb-false q.line 0 busy (sym (found q.line busy_points line) ∙ ap line_number rest)
    where
      by : (t : Bool) {s : Bool} → t ≡ false → (t || s) ≡ true → s ≡ true
      by false e h = h
      by true {s} e h = absurd (let zero_one : ◌≡◌ {A = ℕ} 0 1 = ap (λ (t : Bool). cond t 0 1) e in let w : ⊥ = omega arith in w)

  step_true : StepTrue p m (obeyed m (record { 0 = p }) order.Step [])
  unfolding obey
  step_true =
      let y = point_of q.line in
      let out = step_at y (record { 0 = p }) m.bench q m.words in
      let own = get_or-set_same m.records p out.0.process no_process (omega (arith, (cleared m p order.Step [] z).records, (cleared m p order.Step [] z).process)) in
      record {
        tells = trace_is_true stepped y at_work;
        gets =
            subst (λ (r : Process). Gets y (access_now m p) q (record { bench = out.0.bench; process = r; reply = out.0.reply })) (sym own)
            (process_gets y (record { 0 = p }) m.bench q m.words);
        line = line_shown y (record { 0 = p }) m.bench q m.words;
      }

-- an accepted entry
module _ (m : Memory) (shaped : Shaped m) where
  start_true : (o : Order) → is_start o ≡ true → (p : ℕ) (v : List ℕ) → number_of (command m p o v).0 ≡ 0 → StartTrue m (command m p o v)
  start_true o start p v z =
      let no_step : o ≢ order.Step = λ e. let one_zero : ◌≡◌ {A = ℕ} 1 0 = sym (ap (λ (t : Bool). cond t 1 0) start) ∙ ap (λ (x : Order). cond (is_start x) 1 0) e in omega arith in
      let untouched = start_tells o no_step (record { 0 = p }) v m.bench (record_at m.records (record { 0 = p })) m.words in
      subst (StartTrue m) (sym (left_by m p o v z)) untouched

  any_step_true : (p : ℕ) → number_of (command m p order.Step []).0 ≡ 0 → StepTrue p m (command m p order.Step [])
  any_step_true p z = subst (StepTrue p m) (sym (left_by m p order.Step [] z)) (step_true m shaped p (unrefused m p order.Step [] z))

  entry_true : (e : Entry) → let out = command m (process_of e) (order_of e) (value_of m.bench.w e) in number_of out.0 ≡ 0 → EntryTrue e m out
  entry_true (StartLl p) z = start_true order.StartLl refl p [] z
  entry_true (StartVl p) z = start_true order.StartVl refl p [] z
  entry_true (StartSc p k) z = start_true order.StartSc refl p (replicate m.bench.w k) z
  entry_true (Step p) z = any_step_true p z
  entry_true (Finish p) z = any_step_true p z

truthful : T.Truthful figure6 Shaped EntryTrue
truthful = record {
  kept = λ e s h z. command_shaped s.memory (process_of e) (order_of e) (value_of s.memory.bench.w e) h;
  true_of = λ e s h z. entry_true s.memory h e z;
}

-- Every line of a trace is true of its own command: over the entries of any text, after any accepted set-up of any
-- lent memory.
pub every_line_is_true : (m : Memory) → Shaped m → (a : Said) (listing : List ℕ) → (set_up m a.n a.w (replicate a.w a.initial)).0 ≡ 0
    → Told (trace_begun m a listing) (carry_all figure6 a.entries (trace_begun m a listing))
every_line_is_true m shaped a listing e =
    let value = replicate a.w a.initial in
    T.trace_told figure6 truthful (set_up m a.n a.w value).1 (set_up_shaped m a.n a.w value shaped) listing a.entries
