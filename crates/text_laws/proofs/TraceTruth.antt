-- Each line of a trace is true of its own command: `trace_is_true` and `step_depends` (crate `access`), joined to the
-- text run (`text_runs`' `ToldLaws`).
use mathlib.Core.Path.{◌≡◌, refl, sym, ap, subst}
use mathlib.Core.Bool.{true}
use mathlib.Core.List.{List, []}
use Prim.Native.Nat.{ℕ, ◌+◌, ◌*◌, ◌<◌}
use native.Mathlib.Nat.{mul-le-mul_right}
use native.Mathlib.Omega.{arith}
use lib.ListN.{replicate}
use lib.Seq.{sets}
use Rattle.llsc.specs.declared.Order.TheVariants as order
use Rattle.model.specs.Records.{record_at}
use Rattle.model.specs.Points.{point_of}
use Rattle.model.specs.Words.{offer_word, buffer_word, word_of, half}
use Rattle.model.specs.Machine.{Memory, Shaped, step_at, obey}
use Rattle.model.specs.Command.{refusal, command, obeyed}
use Rattle.model.specs.SetUp.{set_up}
use Rattle.model.specs.Replies.{number_of}
use Rattle.words.proofs.WordLaws.{within}
use Rattle.laws.proofs.ListFacts.{sets_out}
use Rattle.notation.specs.declared.Entry.{Entry}
use Rattle.notation.specs.declared.Entry.TheVariants.{StartLl, StartVl, StartSc, Step, Finish}
use Rattle.notation.specs.Grammar.{Said}
use Rattle.doings.specs.declared.Item.{Item}
use Rattle.doings.specs.declared.Item.TheVariants.{X, Bank, Help, Half}
use Rattle.doings.specs.Items.{InBench, half_holding, item_at}
use Rattle.access.proofs.Theorems.{trace_is_true, step_depends}
use Rattle.text_model.specs.Reached.{Reached}
use Rattle.text_runs.specs.TextRun.{process_of, order_of, value_of}
use Rattle.text_runs.proofs.ToldLaws as T
use Rattle.text_model.specs.TextRun.{figure2, carry_all}
use Rattle.text_model.proofs.ReachedLaws.{reached_set_up, reached_command}
use Rattle.text_laws.specs.TrueLines.{StepTrue, StartTrue, EntryTrue, Told, trace_begun}
use Rattle.text_laws.proofs.AcceptedSteps.{unrefused, left_by, stepped, at_work}

-- an accepted step
step_true : {m : Memory} → Reached m → (p : ℕ) → refusal m p order.Step [] ≡ 0 → StepTrue p m (obeyed m (record { 0 = p }) order.Step []).1
unfolding obey step_at
step_true {m} r p z =
    let y = point_of (record_at m.records (record { 0 = p })).line in
    record { tells = trace_is_true (stepped r p z) y (at_work r p z); depends = step_depends (stepped r p z) y (at_work r p z) }

-- a start writes at most the own offer area, which lies behind BUF
module _ (m : Memory) (p : ℕ) (v : List ℕ) where
  abbrev n : ℕ
  n = m.bench.n

  abbrev w : ℕ
  w = m.bench.w

  abbrev area : ℕ
  area = offer_word n w (record { 0 = p }) 0

  offer_untouched : (i : Item) → InBench m.bench i → item_at i m.bench (sets m.words area v) ≡ item_at i m.bench m.words
  offer_untouched X h = refl
  offer_untouched (Bank i) h = refl
  offer_untouched (Help i) h = refl
  offer_untouched (Half f k) h =
      let in_row : word_of k < w = omega (arith, h.word) in
      let before = within {b = f.0} {c = 3 * n} {k = word_of k} h.index in_row in
      let behind = mul-le-mul_right {m = 3 * n} {n = 4 * n + p} w (omega arith) in
      let same = sets_out v m.words area (buffer_word w f (word_of k)) 0 (λ x y. omega (arith, before, behind)) in
      ap (λ (u : ℕ). half_holding (half k u)) same

  start_ll_true : StartTrue m (obeyed m (record { 0 = p }) order.StartLl v).1
  unfolding obey
  start_ll_true i h = refl

  start_vl_true : StartTrue m (obeyed m (record { 0 = p }) order.StartVl v).1
  unfolding obey
  start_vl_true i h = refl

  start_sc_true : StartTrue m (obeyed m (record { 0 = p }) order.StartSc v).1
  unfolding obey
  start_sc_true i h = offer_untouched i h

-- an accepted entry, on a memory that a set-up and commands have made
module _ {m : Memory} (r : Reached m) where
  entry_true : (e : Entry) → let out = command m (process_of e) (order_of e) (value_of m.bench.w e) in number_of out.0 ≡ 0 → EntryTrue e m out.1
  entry_true (StartLl p) z = subst (StartTrue m) (sym (left_by m p order.StartLl [] z)) (start_ll_true m p [])
  entry_true (StartVl p) z = subst (StartTrue m) (sym (left_by m p order.StartVl [] z)) (start_vl_true m p [])
  entry_true (StartSc p k) z = let v = replicate m.bench.w k in subst (StartTrue m) (sym (left_by m p order.StartSc v z)) (start_sc_true m p v)
  entry_true (Step p) z = subst (StepTrue p m) (sym (left_by m p order.Step [] z)) (step_true r p (unrefused m p order.Step [] z))
  entry_true (Finish p) z = subst (StepTrue p m) (sym (left_by m p order.Step [] z)) (step_true r p (unrefused m p order.Step [] z))

truthful : T.Truthful figure2 Reached (λ e m out. EntryTrue e m out.1)
truthful = record {
  kept = λ e s r z. reached_command r (process_of e) (order_of e) (value_of s.memory.bench.w e);
  true_of = λ e s r z. entry_true r e z;
}

-- Every line of a trace is true of its own command: over the entries of any text, after any accepted set-up of any
-- lent memory.
pub every_line_is_true : (m : Memory) → Shaped m → (a : Said) (listing : List ℕ) → (set_up m a.n a.w (replicate a.w a.initial)).0 ≡ 0
    → Told (trace_begun m a listing) (carry_all a.entries (trace_begun m a listing))
every_line_is_true m shaped a listing e =
    let value = replicate a.w a.initial in
    T.trace_told figure2 truthful (set_up m a.n a.w value).1 (reached_set_up m shaped a.n a.w value e) listing a.entries
