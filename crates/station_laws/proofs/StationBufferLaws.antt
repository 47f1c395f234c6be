-- Every buffer of a record has one place, and its words are those of its bench, in the station as alone.
use mathlib.Core.Path.{◌≡◌, refl, sym, ap, ap₂, ◌∙◌}
use mathlib.Core.Bool.{◌&&◌, cond}
use mathlib.Core.List.{List, ◌∷◌, ◌++◌, map}
use Prim.Native.Nat.{ℕ, zero, suc, ◌+◌, ◌*◌, ◌≤◌, ◌<◌}
use native.Mathlib.Nat.{mul-le-mul_right}
use native.Mathlib.Omega.{arith}
use lib.Dec.{eqb}
use lib.ListN.{get_or, take, drop}
use Rattle.model.specs.declared.BufferNumber.{BufferNumber}
use Rattle.model.specs.Places.{XPlace, BankPlace, HelpPlace}
use Rattle.model.specs.declared.Process.{Process}
use Rattle.model.specs.Tables.{no_bank, no_help}
use Rattle.model.specs.Records.{record_at, no_process}
use Rattle.model.specs.Sizes.{buffers, sequence_numbers, halves}
use Rattle.model.specs.Machine.{Memory}
use Rattle.model.specs.SetUp.{numbers}
use Rattle.after_commands.specs.WordsStay.{buffer_words}
use Rattle.after_commands.specs.Buffers.{asking, kept, owned, held, occurrences}
use Rattle.laws.proofs.Parts.{tab_ext}
use Rattle.laws.proofs.ListFacts.{map_at, cut_tab}
use Rattle.linearization.proofs.Theorems.{every_buffer_once}
use Rattle.station.specs.declared.RecordNumber.{RecordNumber}
use Rattle.station.specs.Station.{StationMemory, no_station_process, process_at, buffer_of}
use Rattle.station.specs.Projection.{process_of, project}
use Rattle.station.specs.StationSetUp.{station_set_up}
use Rattle.station.specs.StationHistory.{given_all}
use Rattle.station_laws.specs.StationBuffers.{EveryBufferOnceByRecord}
use Rattle.station_laws.proofs.Agrees.{Agrees}
use Rattle.station_laws.proofs.StationRuns.{Inv}
use Rattle.station_laws.proofs.StationSetUpLaws.{lent_alone, h_w, alone_shaped, alone_admits}
use Rattle.station_laws.proofs.LoneBenches.{inv}

map_numbers : (f g : ℕ → ℕ) (a n : ℕ) → ((i : ℕ) → i < a + n → f i ≡ g i) → map f (numbers a n) ≡ map g (numbers a n)
map_numbers f g a zero h = refl
map_numbers f g a (suc n) h = ap₂ ◌∷◌ (h a (omega arith)) (map_numbers f g (suc a) n (λ i x. h i (omega arith)))

module _ (N W R : ℕ) (h_w : 0 < halves W) (k : ℕ) (s : StationMemory) (ms : RecordNumber → Memory) (v : Inv N W R h_w k s ms) (j : RecordNumber) (hj : j.0 < R) where
  g : Agrees N W R j s (ms j)
  g = v.agrees j hj

  record_same : (p : ℕ) → p < N → record_at (project s j).records (record { 0 = p }) ≡ process_of j (process_at s p)
  record_same p hp = map_at (process_of j) s.processes p no_station_process no_process (let x = v.processes in omega arith)

  kept_same : (i : ℕ) → kept (project s j) i ≡ kept (ms j) i
  kept_same i = ap₂ (λ (x : XPlace) (b : List BankPlace). cond (eqb i x.content.seq.0) x.content.buf.0 (get_or b i no_bank).content.0) g.x g.bank

  -- what p owns, from its record and Help
  abbrev from : ℕ → Process → List HelpPlace → ℕ
  from p q h = cond (asking q && eqb (get_or h p no_help).content.flag 0) (get_or h p no_help).content.buf.0 q.mybuf.0

  owned_same : (p : ℕ) → p < N → owned (project s j) p ≡ owned (ms j) p
  owned_same p hp =
      let l = g.process p hp in let u : Process = record_at (ms j).records (record { 0 = p }) in
      ap₂ (from p) (record_same p hp) g.help
      ∙ ap₂ (λ (n : ℕ) (b : BufferNumber). from p (record { mybuf = b; x = u.x; line = n; word = 0; count = 0; answered = u.answered; b = u.b; c = u.c; d = u.d; e = u.e }) (ms j).bench.help)
      l.line l.mybuf

  pub held_same : held (project s j) N ≡ held (ms j) N
  held_same =
      ap₂ ◌++◌
      (map_numbers (kept (project s j)) (kept (ms j)) 0 (sequence_numbers N) (λ i x. kept_same i))
      (map_numbers (owned (project s j)) (owned (ms j)) 0 N (λ p x. owned_same p (omega arith)))

  pub buffer_same : (b : BufferNumber) → b.0 < buffers N → buffer_of s j b ≡ buffer_words (ms j) b
  buffer_same b hb =
      let r = (v.each j hj).holds.related in let l = g.words 0 r.sizes.n_low in
      let y : suc b.0 * W ≤ 5 * N * W = mul-le-mul_right W (omega arith) in
      let y' : suc (j.0 * buffers N + b.0) * W ≤ (3 * R + 2) * N * W = mul-le-mul_right W (l.rows.buffer_below b.0 hb) in
      let x = l.len in let x' = l.len' in
      rw (v.n, v.w) (cut_tab W ((j.0 * buffers N + b.0) * W + 0) s.words (omega arith))
      ∙ tab_ext W _ _ (λ i hi.
      let e : b.0 * W + 0 + i ≡ b.0 * W + i = omega arith in
      let e' : (j.0 * buffers N + b.0) * W + 0 + i ≡ (j.0 * buffers N + b.0) * W + i = omega arith in
      ap (λ n. get_or s.words n 0) e' ∙ l.buf b.0 i hb hi ∙ sym (ap (λ n. get_or (ms j).words n 0) e))
      ∙ sym (cut_tab W (b.0 * W + 0) (ms j).words (omega arith))
      ∙ sym (ap (λ w. take w (drop (b.0 * w + 0) (ms j).words)) r.w)

pub every_buffer_once_by_record : EveryBufferOnceByRecord
every_buffer_once_by_record s shaped n w r value cs e j hj b hb =
    let h = h_w s shaped n w r value e in
    ap (occurrences b) (held_same n w r h _ _ _ (inv s shaped n w r value e cs) j hj)
    ∙ every_buffer_once (lent_alone s j n w) (alone_shaped s shaped n w r value e j hj) n w value (given_all j (station_set_up s n w r value).1 cs) (alone_admits s shaped n w r value e j) b hb
