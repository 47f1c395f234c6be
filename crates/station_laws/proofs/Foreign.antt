-- A command on another record: a bench of record i's own, which is given nothing, still agrees.
use mathlib.Core.Path.{◌≡◌, refl, sym, ap, subst, ◌∙◌}
use mathlib.Core.Bool.{Bool, true, false, not, ◌&&◌, cond}
use mathlib.Core.List.{List}
use Prim.Native.Nat.{ℕ, ◌+◌, ◌*◌, ◌≤◌, ◌<◌}
use native.Mathlib.Omega.{arith}
use lib.Dec.{eqb}
use borrow.Author.Tests.{ne_eqb, eqb-true}
use lib.ListN.{length}
use lib.Seq.{get_or-set_other}
use Rattle.model.specs.declared.Process.{Process}
use Rattle.model.specs.declared.Moved.{Moved}
use Rattle.model.specs.Sizes.{halves}
use Rattle.model.specs.Words.{one_record, word_of, half}
use Rattle.model.specs.Records.{record_at}
use Rattle.model.specs.Machine.{Memory}
use Rattle.llsc.specs.Rows.{is_start}
use Rattle.laws.proofs.Updates.{Split, same, other, split}
use Rattle.linearization.proofs.PointFacts
use Rattle.linearization.proofs.GhostMachine.{State}
use Rattle.linearization.proofs.InRange.{counts_in}
use Rattle.linearization.proofs.WordPlace.{idle_word}
use Rattle.linearization.proofs.CommandRuns.{Holds}
use Rattle.station.specs.declared.RecordNumber.{RecordNumber}
use Rattle.station.specs.declared.StationProcess.{StationProcess}
use Rattle.station.specs.declared.Holding.{Holding}
use Rattle.station.specs.declared.Tables.{Tables}
use Rattle.station.specs.Station.{StationMemory, no_holding, process_at, holding_at, station_layout}
use Rattle.station.specs.Projection.{process_of, embed, at_rest, put_process}
use Rattle.station.specs.StationRefusals.{StationOrder, record_for}
use Rattle.station.specs.StationCommand.{station_refusal}
use Rattle.station_laws.proofs.Live.{On, needs_b, needs_c, needs_d, needs_e, returns, offers, LiveProcess}
use Rattle.station_laws.proofs.LiveWords.{LiveWords, Kept}
use Rattle.station_facts.proofs.Accepts.{Accepts, accepts}
use Rattle.station_laws.proofs.PutBack.{tables_other, process_other, process_put}
use Rattle.station_laws.proofs.Agrees.{station, WordsFor, Agrees, return_stays, offer_stays, buffer_stays}

-- a number of the open call, seen from a record that the command is not about: 0 before it, and 0 after it
before_it : (b rest : Bool) (k l i v : ℕ) → (b ≡ true → rest ≡ true) → (b ≡ false → rest ≡ false)
    → (rest ≡ true → v ≡ 0) → (i ≡ cond b k l → ⊥) → cond (not rest && not (eqb l i)) 0 v ≡ 0
before_it true rest k l i v x y z ne = rw (x refl) (z (x refl))
before_it false rest k l i v x y z ne = rw (y refl, ne_eqb l i (λ e. ne (sym e)))

after_it : (rest : Bool) (j i v : ℕ) → (i ≡ j → ⊥) → (rest ≡ true → v ≡ 0) → cond (not rest && not (eqb (cond rest 0 j) i)) 0 v ≡ 0
after_it true j i v ne z = z refl
after_it false j i v ne z = rw (ne_eqb j i (λ e. ne (sym e)))

module _ (N W R : ℕ) (ts : List Tables) (ps : List StationProcess) (ws : List ℕ) (c : StationOrder) (e : station_refusal (station N W R ts ps ws) c ≡ 0) where
  abbrev s : StationMemory
  s = station N W R ts ps ws

  abbrev p : ℕ
  p = c.process

  abbrev j : RecordNumber
  j = record_for s c

  abbrev own : StationProcess
  own = process_at s p

  a : Accepts s c
  a = accepts s c e

  module _ (out : Moved × List ℕ) (kept : Kept N W p (station_layout N R j) ws out.1) (rested : out.0.process.line ≡ 0 → (out.0.process.word ≡ 0) × (out.0.process.count ≡ 0))
      (h_w : 0 < halves W) (k : ℕ) (i : RecordNumber) (hi : i.0 < R) (ne : i.0 ≡ j.0 → ⊥) (m : Memory) (z : State) (h : Holds N W h_w k m z) (g : Agrees N W R i s m) where
    abbrev after : StationMemory
    after = (embed s j p out).1

    abbrev new : Process
    new = out.0.process

    abbrev u : Process
    u = record_at m.records (record { 0 = p })

    hq : p < length ps
    hq = let x = a.processes in let y = a.below in omega arith

    -- the process is idle for record i
    idle_line : u.line ≡ 0
    idle_line = sym (g.process p a.below).line ∙ before_it (is_start c.order) (at_rest own) c.called own.called.0 i.0 own.line a.start a.step (λ t. eqb-true _ 0 t) ne

    point_idle : PointFacts.is_idle (z.loc p).point ≡ true
    point_idle = ap (λ n. eqb n 0) (sym (ap (λ (q : Process). q.line) (h.related.process p a.below)) ∙ idle_line)

    idle_place : u.word ≡ 0
    idle_place = ap (λ (q : Process). q.word) (h.related.process p a.below) ∙ idle_word N (halves W) z p a.below h.place (PointFacts.idle_is (z.loc p).point point_idle)

    idle_count : u.count ≡ 0
    idle_count = ap (λ (q : Process). q.count) (h.related.process p a.below) ∙ (counts_in N W h_w k z h.inv h.count p a.below).idle point_idle

    holding : holding_at (put_process j own new) i ≡ holding_at own i
    holding = get_or-set_other own.holdings j.0 i.0 (record { mybuf = new.mybuf; x = new.x; answered = new.answered }) no_holding ne

    process_p : LiveProcess (process_of i (put_process j own new)) u
    process_p = let o = g.process p a.below in record {
      mybuf = ap (λ (v : Holding). v.mybuf) holding ∙ o.mybuf;
      x = ap (λ (v : Holding). v.x) holding ∙ o.x;
      line = after_it (eqb new.line 0) j.0 i.0 new.line ne (λ t. eqb-true _ 0 t) ∙ sym idle_line;
      word = after_it (eqb new.line 0) j.0 i.0 new.word ne (λ t. (rested (eqb-true _ 0 t)).0) ∙ sym idle_place;
      count = after_it (eqb new.line 0) j.0 i.0 new.count ne (λ t. (rested (eqb-true _ 0 t)).1) ∙ sym idle_count;
      answered = ap (λ (v : Holding). v.answered) holding ∙ o.answered;
      b = subst (λ n. On (needs_b n) (new.b ≡ u.b)) (sym idle_line) tt;
      c = subst (λ n. On (needs_c n) (new.c ≡ u.c)) (sym idle_line) tt;
      d = subst (λ n. On (needs_d n) (new.d ≡ u.d)) (sym idle_line) tt;
      e = subst (λ n. On (needs_e n) (new.e ≡ u.e)) (sym idle_line) tt;
    }

    pub foreign_words : (q : ℕ) → q < N → WordsFor N W R i q (record_at m.records (record { 0 = q })) out.1 m.words
    foreign_words q b = go (split q p)
      where
        len : (3 * R + 2) * N * W ≤ length out.1
        len = let x = kept.len in let y = a.words in omega arith

        go : Split q p → WordsFor N W R i q (record_at m.records (record { 0 = q })) out.1 m.words
        go (same t) =
            let l = g.words p a.below in
            let Goal : ℕ → Type 0 = λ n. LiveWords N W p (returns W n u.word) (offers W n) ((3 * R + 2) * N) (5 * N) (station_layout N R i) (one_record N) out.1 m.words in
            rw t (subst Goal (sym idle_line) (record {
              rows = l.rows;
              rows' = l.rows';
              len = len;
              len' = l.len';
              buf = λ n o hn ho. buffer_stays N W R j p a.on a.below kept i n o hi ne hn ho ∙ l.buf n o hn ho;
              returned = λ o ho x. absurd (omega arith);
              offered = λ o ho x. absurd (omega arith);
            }))
        go (other d) = let l = g.words q b in record {
          rows = l.rows;
          rows' = l.rows';
          len = len;
          len' = l.len';
          buf = λ n o hn ho. buffer_stays N W R j p a.on a.below kept i n o hi ne hn ho ∙ l.buf n o hn ho;
          returned = λ o ho x. ap (half o) (return_stays N W R j p a.on a.below kept q (word_of o) b d (omega arith)) ∙ l.returned o ho x;
          offered = λ o ho x. offer_stays N W R j p a.on a.below kept q o b d ho ∙ l.offered o ho x;
        }

    pub foreign_process : (q : ℕ) → q < N → LiveProcess (process_of i (process_at after q)) (record_at m.records (record { 0 = q }))
    foreign_process q b = go (split q p)
      where
        go : Split q p → LiveProcess (process_of i (process_at after q)) (record_at m.records (record { 0 = q }))
        go (same t) = rw (t, process_put s j p out hq) process_p
        go (other n) = rw (process_other s j p out q n) (g.process q b)

    pub foreign_agrees : Agrees N W R i after m
    foreign_agrees = let t = tables_other s j p out i ne in record {
      x = ap (λ (v : Tables). v.x) t ∙ g.x;
      bank = ap (λ (v : Tables). v.bank) t ∙ g.bank;
      help = ap (λ (v : Tables). v.help) t ∙ g.help;
      process = foreign_process;
      words = foreign_words;
    }
