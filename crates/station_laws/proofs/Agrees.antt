-- Record j of a station and a bench of its own agree: the same tables and buffers, and the same of each process where it
-- is live.
use mathlib.Core.Path.{◌≡◌, sym, ap₂, ◌∙◌}
use mathlib.Core.Bool.{Bool}
use mathlib.Core.List.{List}
use Prim.Native.Nat.{ℕ, ◌+◌, ◌*◌, ◌<◌}
use native.Mathlib.Decide.{dec_lt}
use native.Mathlib.Omega.{arith}
use Rattle.model.specs.declared.BufferNumber.{BufferNumber}
use Rattle.model.specs.declared.XContent.{XContent}
use Rattle.model.specs.declared.Process.{Process}
use Rattle.model.specs.Sizes.{buffers}
use Rattle.model.specs.Words.{Layout, one_record}
use Rattle.model.specs.Records.{record_at}
use Rattle.model.specs.Machine.{Memory}
use Rattle.linearization.proofs.GhostMachine.{Local}
use Rattle.linearization.proofs.Relation.{record_of}
use Rattle.station.specs.declared.RecordNumber.{RecordNumber}
use Rattle.station.specs.declared.StationProcess.{StationProcess}
use Rattle.station.specs.declared.Tables.{Tables}
use Rattle.station.specs.Station.{StationMemory, tables_at, process_at, station_layout}
use Rattle.station.specs.Projection.{process_of}
use Rattle.station_facts.proofs.RecordRows.{below_record}
use Rattle.station_laws.proofs.Live.{returns, offers, LiveProcess, pr}
use Rattle.station_laws.proofs.LiveWords.{LiveWords, Rows, Kept, cell}

-- a station of known sizes
abbrev pub station : ℕ → ℕ → ℕ → List Tables → List StationProcess → List ℕ → StationMemory
station N W R ts ps ws = record { n = N; w = W; r = R; tables = ts; processes = ps; words = ws }

-- the words are live as the process u says
abbrev pub WordsFor : ℕ → ℕ → ℕ → RecordNumber → ℕ → Process → List ℕ → List ℕ → Type 0
WordsFor N W R j p u ws ws' = LiveWords N W p (returns W u.line u.word) (offers W u.line) ((3 * R + 2) * N) (5 * N) (station_layout N R j) (one_record N) ws ws'

pub record Agrees (N W R : ℕ) (j : RecordNumber) (s : StationMemory) (m : Memory) : Type 0 where
  pub x : (tables_at s j).x ≡ m.bench.x
  pub bank : (tables_at s j).bank ≡ m.bench.bank
  pub help : (tables_at s j).help ≡ m.bench.help
  pub process : (p : ℕ) → p < N → LiveProcess (process_of j (process_at s p)) (record_at m.records (record { 0 = p }))
  pub words : (p : ℕ) → p < N → WordsFor N W R j p (record_at m.records (record { 0 = p })) s.words m.words

-- a record with the live numbers of u
pub shape : (q : Process) (f : Local) → LiveProcess q (record_of f) → q ≡ pr f.point (record_of f).mybuf (record_of f).x f.word f.count f.answered q.b q.c q.d q.e
shape q f l =
    ap₂ (λ (a : BufferNumber) (v : XContent). record { mybuf = a; x = v; line = q.line; word = q.word; count = q.count; answered = q.answered; b = q.b; c = q.c; d = q.d; e = q.e })
    l.mybuf l.x
    ∙ ap₂ (λ (k i : ℕ). record { mybuf = (record_of f).mybuf; x = (record_of f).x; line = k; word = i; count = q.count; answered = q.answered; b = q.b; c = q.c; d = q.d; e = q.e })
    l.line l.word
    ∙ ap₂ (λ (k : ℕ) (t : Bool). pr f.point (record_of f).mybuf (record_of f).x f.word k t q.b q.c q.d q.e) l.count l.answered

-- the rows of a station, and of one record alone
pub station_rows_lem : (N R : ℕ) (j : RecordNumber) → j.0 < R → Rows N ((3 * R + 2) * N) (station_layout N R j)
station_rows_lem N R j hj = let z = below_record N j.0 R hj in record {
  apart = λ i k hi hk e. omega arith;
  buffer_return = λ i q hi hq e. omega arith;
  buffer_offer = λ i q hi hq e. omega arith;
  return_offer = λ q r hq hr e. omega arith;
  buffer_below = λ i hi. omega arith;
  return_below = λ q hq. omega arith;
  offer_below = λ q hq. omega arith;
}

pub one_rows_lem : (N : ℕ) → Rows N (5 * N) (one_record N)
one_rows_lem N = record {
  apart = λ i k hi hk e. e;
  buffer_return = λ i q hi hq e. omega arith;
  buffer_offer = λ i q hi hq e. omega arith;
  return_offer = λ q r hq hr e. omega arith;
  buffer_below = λ i hi. omega arith;
  return_below = λ q hq. omega arith;
  offer_below = λ q hq. omega arith;
}

-- the buffers of two records lie apart
pub records_apart : (N i j a b : ℕ) → (i ≡ j → ⊥) → a < buffers N → b < buffers N → i * buffers N + a ≡ j * buffers N + b → ⊥
records_apart N i j a b ne ha hb e = go (dec_lt i j) (dec_lt j i)
  where
    go : Dec (i < j) → Dec (j < i) → ⊥
    go (yes h) d = let z = below_record N i j h in omega arith
    go (no h) (yes d) = let z = below_record N j i d in omega arith
    go (no h) (no d) = ne (omega arith)

-- the areas of another process stay, in a station and alone
module _ (N W p : ℕ) (hp : p < N) {ws new : List ℕ} where
  module _ (T : ℕ) (l : Layout) (r : Rows N T l) (k : Kept N W p l ws new) where
    return_kept : (q n : ℕ) → q < N → (q ≡ p → ⊥) → n < W → cell W new (l.returns + q) n ≡ cell W ws (l.returns + q) n
    return_kept q n hq ne hn = k.row (l.returns + q) n (λ i hi e. r.buffer_return i q hi hq (sym e)) (λ e. ne (omega arith)) (r.return_offer q p hq hp) hn

    offer_kept : (q n : ℕ) → q < N → (q ≡ p → ⊥) → n < W → cell W new (l.offers + q) n ≡ cell W ws (l.offers + q) n
    offer_kept q n hq ne hn = k.row (l.offers + q) n (λ i hi e. r.buffer_offer i q hi hq (sym e)) (λ e. r.return_offer p q hp hq (sym e)) (λ e. ne (omega arith)) hn

  pub return_alone : Kept N W p (one_record N) ws new → (q n : ℕ) → q < N → (q ≡ p → ⊥) → n < W → cell W new (buffers N + q) n ≡ cell W ws (buffers N + q) n
  return_alone = return_kept (5 * N) (one_record N) (one_rows_lem N)

  pub offer_alone : Kept N W p (one_record N) ws new → (q n : ℕ) → q < N → (q ≡ p → ⊥) → n < W → cell W new (4 * N + q) n ≡ cell W ws (4 * N + q) n
  offer_alone = offer_kept (5 * N) (one_record N) (one_rows_lem N)

module _ (N W R : ℕ) (j : RecordNumber) (p : ℕ) (hj : j.0 < R) (hp : p < N) {ws new : List ℕ} where
  pub return_stays : Kept N W p (station_layout N R j) ws new → (q n : ℕ) → q < N → (q ≡ p → ⊥) → n < W → cell W new (R * buffers N + q) n ≡ cell W ws (R * buffers N + q) n
  return_stays = return_kept N W p hp ((3 * R + 2) * N) (station_layout N R j) (station_rows_lem N R j hj)

  pub offer_stays : Kept N W p (station_layout N R j) ws new → (q n : ℕ) → q < N → (q ≡ p → ⊥) → n < W → cell W new (R * buffers N + N + q) n ≡ cell W ws (R * buffers N + N + q) n
  offer_stays = offer_kept N W p hp ((3 * R + 2) * N) (station_layout N R j) (station_rows_lem N R j hj)

  -- and so do the buffers of another record
  pub buffer_stays : Kept N W p (station_layout N R j) ws new → (i : RecordNumber) (b n : ℕ) → i.0 < R → (i.0 ≡ j.0 → ⊥) → b < buffers N → n < W
      → cell W new (i.0 * buffers N + b) n ≡ cell W ws (i.0 * buffers N + b) n
  buffer_stays k i b n hi ne hb hn =
      let z = below_record N i.0 R hi in k.row (i.0 * buffers N + b) n (λ a ha e. records_apart N i.0 j.0 b a ne hb ha e) (λ e. omega arith) (λ e. omega arith) hn
