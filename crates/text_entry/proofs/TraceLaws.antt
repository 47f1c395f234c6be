-- The trace's line of a command that a run carries out: what the code shows is what the text run says, in at most 128 bytes.
use mathlib.Core.Path.{◌≡◌, refl, sym, ap, ◌∙◌}
use mathlib.Core.Bool.{Bool, true, false, cond}
use mathlib.Core.List.{[]}
use Prim.Native.Nat.{ℕ, ◌≤◌, ◌<◌}
use native.Mathlib.Omega.{arith}
use lib.ListN.{length}
use lib.Seq.{get_or-take}
use borrow.Author.Tests.{not-false, lt-leb}
use Rattle.model.specs.declared.SequenceNumber.{SequenceNumber}
use Rattle.llsc.specs.declared.ProcessNumber.{ProcessNumber}
use Rattle.model.specs.declared.Bench.{Bench}
use Rattle.model.specs.declared.Process.{Process}
use Rattle.llsc.specs.declared.Order.{Order}
use Rattle.llsc.specs.declared.Order.TheVariants as order
use Rattle.model.specs.declared.Reply.{Reply}
use Rattle.model.specs.Records.{no_process, record_at}
use Rattle.model.specs.Words.{word_of}
use Rattle.model.specs.Points.{point_of}
use Rattle.model.specs.Machine.{Memory}
use Rattle.model.specs.Refusals.{in_range, is_idle}
use Rattle.taken.specs.declared.Taken.{Taken}
use Rattle.taken.specs.Ranges.{Ready}
use Rattle.taken.specs.Taken.{bank_index, help_index, taken_at}
use Rattle.rows.specs.CommandRows.{late_number}
use Rattle.rows.proofs.RowLaws.{late_decides}
use Rattle.text_entry.proofs.ObeyableLaws.{obeyable}
use Rattle.notation.specs.declared.Entry.{Entry}
use Rattle.access.specs.declared.Access.{Access}
use Rattle.access.specs.Accesses.{access_of}
use Rattle.access.proofs.AccessLaws.{access_seen_is}
use Rattle.access.specs.TraceLines.{access_text}
use Rattle.access.proofs.Lengths.{SmallAccess, access_length}
use Rattle.access.proofs.SmallLaws.{row_9_parts, access_small}
use Rattle.text_runs.specs.TextRun.{most_entries, process_of}
use Rattle.text_runs.proofs.TraceLengths.{line_length}
use Rattle.text_model.specs.TextRun.{answers, access_now, entry_line, trace_line}
use Rattle.text_entry.specs.RunState.{RunState, progress, Sound, Small, shown_line}
use Rattle.text_entry.specs.Turned.{number_of, access_seen}
use Rattle.text_model.proofs.ReachedLaws.{unhindered}
use Rattle.text_entry.proofs.OrderLaws.{in_order, enough, lent}

-- all sixteen records that a run holds
abbrev pub state_memory : RunState → Memory
state_memory h = record { bench = h.run.held.bench; records = h.run.held.all; words = h.words }

module _ {len : ℕ} {h : RunState} (s : Sound len h) (z : h.stop ≡ 0) where
  abbrev m : Memory
  m = (progress len h).memory

  abbrev b : Bench
  b = h.run.held.bench

  -- of a process of N, a start or a step is refused for nothing, so an access of it keeps to the lent memory
  module _ (p : ℕ) where
    abbrev q : Process
    q = record_at h.run.held.all (record { 0 = p })

    by_order : (o : Order) → late_number b.n b.w h.run.held.all p o 0 ≡ 0 → Ready b.n b.w q (record { 0 = p }) h.words
    by_order o e =
        (obeyable b h.run.held.all len p o [] h.words s.filled.sixteen
        (sym (late_decides b h.run.held.all len p o 0 (length h.words) (in_order s z)) ∙ e)).ready

    by_idle : p < b.n → (t : Bool) → is_idle q ≡ t → Ready b.n b.w q (record { 0 = p }) h.words
    unfolding late_number
    by_idle n true e = by_order order.StartLl (simp (lt-leb b.n p n, e))
    by_idle n false e = by_order order.Step (simp (lt-leb b.n p n, e))

    pub own_ready : p < b.n → Ready b.n b.w q (record { 0 = p }) h.words
    own_ready n = by_idle n (is_idle q) refl

  module _ {p : ℕ} (n : p < b.n) where
    pub same_record : record_at h.run.held.all (record { 0 = p }) ≡ record_at m.records (record { 0 = p })
    same_record = sym (get_or-take len h.run.held.all p no_process (omega (arith, enough s z)))

    same_access : access_now (state_memory h) p ≡ access_now m p
    same_access = ap (λ (x : Process). access_of (point_of x.line) (record { 0 = p }) b x h.words) same_record

    small_access : SmallAccess (access_now m p)
    small_access =
        let ok = row_9_parts m (record { 0 = p }) (not-false (in_range m) (unhindered (s.going z).reached 0 order.Step []).row_9) n (omega (arith, enough s z, lent s z)) in
        access_small b (rw same_record at (own_ready p n)) ok.0 ok.1 (s.going z).small (point_of (record_at m.records (record { 0 = p })).line)

  -- the line that the code shows of an entry, from the places taken out for it
  module _ (e : Entry) (r : Reply) (n : process_of e < b.n) where
    abbrev own : Process
    own = record_at h.run.held.all (number_of e)

    pub shown_same : {i : SequenceNumber} {j : ProcessNumber} {t : Taken} (k : ℕ)
        → i ≡ bank_index (point_of own.line) b.n own
        → j ≡ help_index (point_of own.line) b.n (number_of e) own → t ≡ taken_at b i j
        → (traced : Bool) → shown_line k (access_seen traced (number_of e) b.n b.w t own h.words) e r ≡ cond traced (trace_line k m e r) []
    shown_same k ei ej et true =
        let in_row : word_of own.word < b.w = omega (arith, (own_ready (process_of e) n).word) in
        ap (λ (x : Access). entry_line k x e r) (access_seen_is (number_of e) b own h.words in_row (point_of own.line) ei ej et ∙ same_access n)
    shown_same k ei ej et false = refl

    pub shown_fits : (t : Bool) (k : ℕ) → k ≤ most_entries → Small e → length (cond t (trace_line k m e r) []) ≤ cond t 128 0
    shown_fits true k l x =
        let a = access_now m (process_of e) in line_length access_text k a e (answers r) l x (omega (arith, access_length a (small_access n)))
    shown_fits false k l x = omega arith
