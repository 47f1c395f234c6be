-- A command that is not refused, and what holds of a step that is not, on memory that a set-up and commands have made.
use mathlib.Core.Path.{◌≡◌, refl, sym, ap, ◌∙◌}
use mathlib.Core.Logic.{◌≢◌}
use mathlib.Core.Bool.{true, false, cond}
use mathlib.Core.List.{List, []}
use Prim.Native.Nat.{ℕ, zero, suc, ◌*◌, ◌<◌}
use native.Mathlib.Omega.{arith}
use lib.Dec.{eqb, ltb}
use lib.ListN.{length}
use borrow.Author.Tests.{eq-eqb, ne_eqb, ltb-false, leb-false, not-false}
use Rattle.model.specs.declared.Process.{Process}
use Rattle.llsc.specs.declared.Order.{Order}
use Rattle.llsc.specs.declared.Order.TheVariants as order
use Rattle.model.specs.declared.Reply.{Reply}
use Rattle.model.specs.declared.Reply.TheVariants.{Refused}
use Rattle.model.specs.Records.{record_at}
use Rattle.model.specs.Points.{line_number, point_of, idle}
use Rattle.model.specs.Machine.{Memory}
use Rattle.llsc.specs.Rows.{row1, row2, row4, row9}
use Rattle.model.specs.Refusals.{row3, is_idle, in_range}
use Rattle.model.specs.Command.{command, refusal, obeyed}
use Rattle.model.specs.Replies.{number_of}
use Rattle.taken.specs.Ranges.{Ready}
use Rattle.rows.proofs.RowLaws.{cleared, neither, n_in, w_in, in_range_lem}
use Rattle.linearization.proofs.PointFacts.{point_of_lem}
use Rattle.linearization.proofs.GhostMachine.{State}
use Rattle.linearization.proofs.Relation.{Related}
use Rattle.linearization.proofs.SetUpSimulation.{set_up_halves}
use Rattle.linearization.proofs.CommandRuns.{holds_along}
use Rattle.access.specs.Truth.{Stepped}
use Rattle.access.proofs.SmallLaws.{row_9_parts}
use Rattle.text_model.specs.Reached.{Reached}
use Rattle.text_laws.proofs.TableLengths.{reached_shaped}

-- a command that is not refused
module _ (m : Memory) (p : ℕ) (o : Order) (v : List ℕ) where
  pub unrefused : number_of (command m p o v).0 ≡ 0 → refusal m p o v ≡ 0
  unfolding command
  unrefused e = by (refusal m p o v) e
    where
      by : (k : ℕ) → number_of (cond {A = Reply × Memory} (eqb k 0) (obeyed m (record { 0 = p }) o v) (Refused k, m)).0 ≡ 0 → k ≡ 0
      by zero e = refl
      by (suc k) e = rw (ne_eqb (suc k) 0 (λ y. omega arith)) at e

  pub left_by : number_of (command m p o v).0 ≡ 0 → (command m p o v).1 ≡ (obeyed m (record { 0 = p }) o v).1
  unfolding command
  left_by e = simp (eq-eqb (refusal m p o v) 0 (unrefused e))

-- an accepted step: its process is one of N, busy and in range
module _ {m : Memory} (r : Reached m) (p : ℕ) (z : refusal m p order.Step [] ≡ 0) where
  abbrev q : Process
  q = record_at m.records (record { 0 = p })

  abbrev n : ℕ
  n = m.bench.n

  abbrev w : ℕ
  w = m.bench.w

  record Passed : Type 0 where
    row_1 : (row1 n).holds ≡ false
    row_2 : (row2 w).holds ≡ false
    row_3 : (row3 n w (length m.records) (length m.words)).holds ≡ false
    row_9 : (row9 (in_range m)).holds ≡ false
    process : p < n
    busy : is_idle q ≡ false

  passed : Passed
  unfolding refusal
  passed =
      let r6 : ℕ = cond (is_idle q) 6 0 in
      let r4 : ℕ = cond (row4 n p).holds 4 r6 in
      let r9 : ℕ = cond (row9 (in_range m)).holds 9 r4 in
      let r3 : ℕ = cond (row3 n w (length m.records) (length m.words)).holds 3 r9 in
      let r2 : ℕ = cond (row2 w).holds 2 r3 in
      let c1 = cleared (row1 n).holds 0 r2 z in
      let c2 = cleared (row2 w).holds 1 r3 c1.1 in
      let c3 = cleared (row3 n w (length m.records) (length m.words)).holds 2 r9 c2.1 in
      let c9 = cleared (row9 (in_range m)).holds 8 r4 c3.1 in
      let c4 = cleared (row4 n p).holds 3 r6 c9.1 in
      let c6 = cleared (is_idle q) 5 0 c4.1 in
      record { row_1 = c1.0; row_2 = c2.0; row_3 = c3.0; row_9 = c9.0; process = leb-false n p c4.0; busy = c6.0 }

  -- its process is one of N, and busy
  pub stepped_busy : (p < n) × (is_idle q ≡ false)
  stepped_busy = (passed.process, passed.busy)

  ready : Ready n w q (record { 0 = p }) m.words
  ready =
      let n_range = n_in n passed.row_1 in
      let w_range = w_in w passed.row_2 in
      let lent = neither (ltb (length m.words) (5 * n * w)) (ltb (length m.records) n) passed.row_3 in
      let words = ltb-false (length m.words) (5 * n * w) lent.0 in
      let records = ltb-false (length m.records) n lent.1 in
      let ok = row_9_parts m (record { 0 = p }) (not-false (in_range m) passed.row_9) passed.process (omega (arith, passed.process, records)) in
      let range = in_range_lem n w q w_range.1 ok.1 in
      record {
        lent = record { n_some = n_range.0; n_most = n_range.1; w_most = w_range.1; process = passed.process; words = words };
        mybuf = range.mybuf;
        x_buf = range.x_buf;
        x_seq = range.x_seq;
        b_buf = range.b_buf;
        word = range.word;
        count = range.count;
      }

  pub stepped : Stepped m.bench q (record { 0 = p }) m.words
  stepped = record { ready = ready; bank = (reached_shaped r).bank; help = (reached_shaped r).help }

  -- its line is a point of Figure 2, since the memory was reached, and not idle
  at_point : {N W : ℕ} {m' : Memory} {z : State} → m ≡ m' → Related N W m' z → point_of q.line ≢ idle
  at_point {z = z} e h rest =
      let same_n = ap (λ (x : Memory). x.bench.n) e ∙ h.n in
      let own = h.process p (omega (arith, same_n, passed.process)) in
      let line : q.line ≡ line_number (z.loc p).point =
      ap (λ (x : Memory). (record_at x.records (record { 0 = p })).line) e ∙ ap (λ (x : Process). x.line) own in
      let point : (z.loc p).point ≡ idle = sym (point_of_lem (z.loc p).point) ∙ ap point_of (sym line) ∙ rest in
      let rests : is_idle q ≡ true = ap (λ (k : ℕ). eqb k 0) (line ∙ ap line_number point) in
      let wrong : true ≡ false = sym rests ∙ passed.busy in
      let zero_one : ◌≡◌ {A = ℕ} 0 1 = cc in
      omega arith

  pub at_work : point_of q.line ≢ idle
  at_work =
      let wide = set_up_halves r.lent r.n r.w r.value r.accepted in
      at_point r.is (holds_along r.lent r.shaped r.n r.w r.value r.accepted wide r.commands).related
