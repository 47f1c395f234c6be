-- The accesses of a bench in range, whose words have at most ten digits, are small.
use mathlib.Core.Path.{◌≡◌, subst}
use mathlib.Core.List.{List, [], ◌∷◌}
use mathlib.Core.Bool.{Bool, true, false, ◌&&◌}
use Prim.Native.Nat.{ℕ, zero, suc, ◌+◌, ◌*◌, ◌≤◌, ◌<◌}
use native.Mathlib.Omega.{arith}
use native.Mathlib.Nat.{le_of_suc-le-suc, not-suc-le-zero}
use lib.Dec.{ltb, leb}
use lib.ListN.{length, get_or, take, length-take}
use lib.Seq.{get_or-take}
use borrow.Author.Tests.{ltb-true, leb-true}
use Rattle.model.specs.declared.BufferNumber.{BufferNumber}
use Rattle.model.specs.declared.SequenceNumber.{SequenceNumber}
use Rattle.llsc.specs.declared.ProcessNumber.{ProcessNumber}
use Rattle.model.specs.declared.XContent.{XContent}
use Rattle.model.specs.declared.HelpContent.{HelpContent}
use Rattle.model.specs.declared.Bench.{Bench}
use Rattle.model.specs.declared.Process.{Process}
use Rattle.model.specs.Records.{no_process, record_at}
use Rattle.model.specs.Places.{BankPlace, HelpPlace, linked}
use Rattle.model.specs.Tables.{no_bank, no_help, bank_at, help_at, next, helped}
use Rattle.model.specs.Sizes.{halves}
use Rattle.model.specs.Words.{buffer_word, word_of, half}
use Rattle.model.proofs.HalfLaws.{half_small}
use Rattle.model.specs.Points.{Point, idle, line1, line2, line3, line4, line5, line6, line7, line7copy, line8, line9, line10, line11}
use Rattle.model.specs.Points.{line12, line12valid, line13, line14, line14valid, line15, line17, line18, line19, line23}
use Rattle.model.specs.Machine.{Memory}
use Rattle.llsc.specs.Rows.{every}
use Rattle.model.specs.Refusals.{buffer_ok, sequence_ok, x_ok, links_ok, x_place_ok, bank_place_ok, help_place_ok, line_ok, count_ok, process_ok, bench_ok, in_range}
use Rattle.taken.specs.Ranges.{Ready}
use Rattle.laws.proofs.AndLaws.{left, right}
use Rattle.laws.proofs.ListLaws.{every_at}
use Rattle.words.proofs.WordLaws.{within}
use Rattle.taken.proofs.IndexLaws.{bank_index_in, help_index_in}
use Rattle.access.specs.declared.Values.{Values}
use Rattle.access.specs.declared.Values.TheVariants as of
use Rattle.access.specs.declared.Act.{Act}
use Rattle.access.specs.declared.Act.TheVariants.{Read, Write, Ll, Sc}
use Rattle.access.specs.AccessOn.{x_access, bank_access, help_access, half_access, vl_of_x, sc_of_help, read_half, write_half, access_on}
use Rattle.access.specs.Accesses.{access_of}
use Rattle.access.proofs.AccessLaws.{access_by_taken}
use Rattle.taken.specs.Taken.{taken_from}
use Rattle.access.proofs.Lengths.{SmallValues, SmallAct, SmallAccess}

-- what a test of the first k places shows of each of them, and of what stands past the end
found : {A : Type 0} (P : A → Type 0) (f : A → Bool) → ((a : A) → f a ≡ true → P a)
    → (l : List A) (k i : ℕ) (d : A) → every f (take k l) ≡ true → i < k → P d → P (get_or l i d)
found P f t [] k i d e h p = p
found P f t (a ∷ l) zero i d e h p = absurd (not-suc-le-zero h)
found P f t (a ∷ l) (suc k) zero d e h p = t a (left (f a) (every f (take k l)) e)
found P f t (a ∷ l) (suc k) (suc i) d e h p = found P f t l k i d (right (f a) (every f (take k l)) e) (le_of_suc-le-suc h) p

-- row 9 on a place of Bank and a place of Help
record SmallHelp (n : ℕ) (h : HelpPlace) : Type 0 where
  flag : h.content.flag ≤ 1
  buf : h.content.buf.0 < 3 * n

abbrev SmallBank : ℕ → BankPlace → Type 0
SmallBank n k = k.content.0 < 3 * n

bank_in : (n : ℕ) (k : BankPlace) → bank_place_ok n k ≡ true → SmallBank n k
bank_in n k e = ltb-true k.content.0 (3 * n) (left (buffer_ok n k.content) (links_ok n k.links) e)

help_in : (n : ℕ) (h : HelpPlace) → help_place_ok n h ≡ true → SmallHelp n h
help_in n h e =
    let f = leb h.content.flag 1 in
    let b = buffer_ok n h.content.buf in
    let l = links_ok n h.links in
    record { flag = leb-true h.content.flag 1 (left f (b && l) e); buf = ltb-true h.content.buf.0 (3 * n) (left b l (right f (b && l) e)) }

-- the parts of row 9: the bench, and the record of a process
pub row_9_parts : (m : Memory) (p : ProcessNumber) → in_range m ≡ true → p.0 < m.bench.n → p.0 < length m.records
    → (bench_ok m.bench ≡ true) × (process_ok m.bench.n m.bench.w (record_at m.records p) ≡ true)
unfolding in_range
row_9_parts m p e h k =
    let f = process_ok m.bench.n m.bench.w in
    let rs = take m.bench.n m.records in
    let s : p.0 < length rs = simp length-take (omega arith) in
    let g : f (get_or rs p.0 no_process) ≡ true = every_at f rs p.0 no_process (right (bench_ok m.bench) (every f rs) e) s in
    (left (bench_ok m.bench) (every f rs) e, rw (get_or-take m.bench.n m.records p.0 no_process h) at g)

-- the buffer that line 8 found
c_in : (n w : ℕ) (q : Process) → process_ok n w q ≡ true → q.c.0 < 3 * n
c_in n w q e =
    let m = buffer_ok n q.mybuf in
    let x = x_ok n q.x in
    let b = buffer_ok n q.b in
    let c = buffer_ok n q.c in
    let rest = buffer_ok n q.d && (buffer_ok n q.e && (line_ok q && (ltb q.word (halves w) && count_ok w q))) in
    ltb-true q.c.0 (3 * n) (left c rest (right b (c && rest) (right x (b && (c && rest)) (right m (x && (b && (c && rest))) e))))

-- an access to each kind of item, whose numbers are a byte's or a word's
valid_small : (line : ℕ) (t : Bool) → line ≤ 255 → SmallAccess (vl_of_x line t)
valid_small line t h = record { line = h; act = (omega arith, omega arith) }

-- an act on values is as small as they are
abbrev Names : (Values → Act) → Type 0
Names act = (v : Values) → SmallValues v → SmallAct (act v)

module _ (line : ℕ) (act : Values → Act) (names : Names act) (h : line ≤ 255) where
  x_small : (v : XContent) → v.buf.0 ≤ 48 → v.seq.0 ≤ 32 → SmallAccess (x_access line act v)
  x_small v k l = record { line = h; act = names (of.X v) (omega (arith, k), omega (arith, l)) }

  bank_small : (i : SequenceNumber) (v : BufferNumber) → i.0 < 32 → v.0 ≤ 48 → SmallAccess (bank_access line i act v)
  bank_small i v k l = record { line = h; act = names (of.Bank i v) (omega (arith, k), omega (arith, l)) }

  help_small : (i : ProcessNumber) (v : HelpContent) → i.0 < 16 → v.flag ≤ 1 → v.buf.0 ≤ 48 → SmallAccess (help_access line i act v)
  help_small i v k l m = record { line = h; act = names (of.Help i v) (omega (arith, k), (omega (arith, l), omega (arith, m))) }

-- b is the bench, q the record of p, ws the lent words, of which the 5N rows have at most ten digits
module _ (b : Bench) {q : Process} {p : ProcessNumber} {ws : List ℕ} (r : Ready b.n b.w q p ws)
    (bench : bench_ok b ≡ true) (process : process_ok b.n b.w q ≡ true)
    (words : (i : ℕ) → i < 5 * b.n * b.w → get_or ws i 0 ≤ 4294967295) where
  -- the tests of row 9 on the two tables
  abbrev banks : Bool
  banks = every (bank_place_ok b.n) (take (2 * b.n) b.bank)

  abbrev helps : Bool
  helps = every (help_place_ok b.n) (take b.n b.help)

  tables : (banks && helps) ≡ true
  tables = right (x_place_ok b.n b.x) (banks && helps) bench

  bank_at_is : (i : SequenceNumber) → i.0 < 2 * b.n → SmallBank b.n (bank_at b i)
  bank_at_is i h =
      let ok = left banks helps tables in
      let none : SmallBank b.n no_bank = omega (arith, r.lent.n_some) in
      found (SmallBank b.n) (bank_place_ok b.n) (bank_in b.n) b.bank (2 * b.n) i.0 no_bank ok h none

  help_at_is : (i : ProcessNumber) → i.0 < b.n → SmallHelp b.n (help_at b i)
  help_at_is i h =
      let ok = right banks helps tables in
      let none : SmallHelp b.n no_help = record { flag = omega arith; buf = omega (arith, r.lent.n_some) } in
      found (SmallHelp b.n) (help_place_ok b.n) (help_in b.n) b.help b.n i.0 no_help ok h none

  x_ok_is : x_ok b.n b.x.content ≡ true
  x_ok_is = left (x_ok b.n b.x.content) (links_ok b.n b.x.links) (left (x_place_ok b.n b.x) (banks && helps) bench)

  x_buf : b.x.content.buf.0 < 3 * b.n
  x_buf = ltb-true b.x.content.buf.0 (3 * b.n) (left (buffer_ok b.n b.x.content.buf) (sequence_ok b.n b.x.content.seq) x_ok_is)

  x_seq : b.x.content.seq.0 < 2 * b.n
  x_seq = ltb-true b.x.content.seq.0 (2 * b.n) (right (buffer_ok b.n b.x.content.buf) (sequence_ok b.n b.x.content.seq) x_ok_is)

  -- a word of one of the 5N rows
  word_at : (row : ℕ) → row < 5 * b.n → get_or ws (row * b.w + word_of q.word) 0 ≤ 4294967295
  word_at row h = words (row * b.w + word_of q.word) (within {b = row} {c = 5 * b.n} h (omega (arith, r.word)))

  most : b.n ≤ 16
  most = r.lent.n_most

  word_small : (line : ℕ) (f : BufferNumber) (act : Values → Act) → Names act → (v : ℕ) → line ≤ 255 → f.0 < 3 * b.n → v ≤ 4294967295
      → SmallAccess (half_access line f q.word act (half q.word v))
  word_small line f act names v h k l = record {
    line = h;
    act = names (of.Half f q.word (half q.word v)) (omega (arith, k, most), (omega (arith, r.word, r.lent.w_most), half_small q.word v l));
  }

  -- LL or read of Help[i], and a read of BUF[f]
  seen_small : (line : ℕ) (i : ProcessNumber) (act : Values → Act) → Names act → line ≤ 255 → i.0 < b.n → SmallAccess (help_access line i act (help_at b i).content)
  seen_small line i act names h k = let s = help_at_is i k in help_small line act names h i (help_at b i).content (omega (arith, most)) s.flag (omega (arith, s.buf, most))

  read_small : (line : ℕ) (f : BufferNumber) → line ≤ 255 → f.0 < 3 * b.n → SmallAccess (read_half line f b.w q ws)
  read_small line f h k = word_small line f Read (λ v s. s) (get_or ws (buffer_word b.w f (word_of q.word)) 0) h k (word_at f.0 (omega arith))

  own : p.0 < b.n
  own = r.lent.process

  -- the process that is helped, and the place of Bank that line 18 reads
  abbrev g : ProcessNumber
  g = helped b.n q.x.seq

  abbrev freed : SequenceNumber
  freed = next b.n q.x.seq

  helped_in : g.0 < b.n
  helped_in = help_index_in r line14

  next_in : freed.0 < 2 * b.n
  next_in = bank_index_in r line18

  -- p's SC(Help[i], (0, v))
  stored_small : (line : ℕ) (i : ProcessNumber) (v : BufferNumber) → line ≤ 255 → i.0 < b.n → v.0 < 3 * b.n
      → SmallAccess (sc_of_help line i p v (help_at b i))
  stored_small line i v h k l =
      let done = Sc (linked (help_at b i).links p) in
      help_small line done (λ x s. s) h i (record { flag = 0; buf = v }) (omega (arith, most)) (omega arith) (omega (arith, most))

  -- a half of a word of the row goes to BUF[mybuf]
  written_small : (line row : ℕ) → line ≤ 255 → row < 5 * b.n → SmallAccess (write_half line (row * b.w + word_of q.word) q ws)
  written_small line row h k = word_small line q.mybuf Write (λ v s. s) (get_or ws (row * b.w + word_of q.word) 0) h r.mybuf (word_at row k)

  taken_small : (y : Point) → SmallAccess (access_on y p b.n b.w (taken_from y b p q) q ws)
  unfolding access_on
  taken_small idle = valid_small 0 false (omega arith)
  taken_small line1 = help_small 1 Write (λ v s. s) (omega arith) p (record { flag = 1; buf = q.mybuf }) (omega (arith, own, most)) (omega arith) (omega (arith, r.mybuf, most))
  taken_small line2 = x_small 2 Ll (λ v s. s) (omega arith) b.x.content (omega (arith, x_buf, most)) (omega (arith, x_seq, most))
  taken_small line3 = read_small 3 q.x.buf (omega arith) r.x_buf
  taken_small line4 = seen_small 4 p Ll (λ v s. s) (omega arith) own
  taken_small line5 = x_small 5 Ll (λ v s. s) (omega arith) b.x.content (omega (arith, x_buf, most)) (omega (arith, x_seq, most))
  taken_small line6 = read_small 6 q.x.buf (omega arith) r.x_buf
  taken_small line7 = valid_small 7 (linked b.x.links p) (omega arith)
  taken_small line7copy = read_small 7 q.b (omega arith) r.b_buf
  taken_small line8 = seen_small 8 p Ll (λ v s. s) (omega arith) own
  taken_small line9 = stored_small 9 p q.c (omega arith) own (c_in b.n b.w q process)
  taken_small line10 = seen_small 10 p Read (λ v s. s) (omega arith) own
  taken_small line11 = written_small 11 (3 * b.n + p.0) (omega arith) (omega (arith, own))
  taken_small line12 = bank_small 12 Ll (λ v s. s) (omega arith) q.x.seq (bank_at b q.x.seq).content (omega (arith, r.x_seq, most)) (omega (arith, bank_at_is q.x.seq r.x_seq, most))
  taken_small line12valid = valid_small 12 (linked b.x.links p) (omega arith)
  taken_small line13 = bank_small 13 (Sc (linked (bank_at b q.x.seq).links p)) (λ v s. s) (omega arith) q.x.seq q.x.buf (omega (arith, r.x_seq, most)) (omega (arith, r.x_buf, most))
  taken_small line14 = seen_small 14 g Ll (λ v s. s) (omega arith) helped_in
  taken_small line14valid = valid_small 14 (linked b.x.links p) (omega arith)
  taken_small line15 = stored_small 15 g q.mybuf (omega arith) helped_in r.mybuf
  taken_small line17 = written_small 17 (4 * b.n + p.0) (omega arith) (omega (arith, own))
  taken_small line18 = bank_small 18 Read (λ v s. s) (omega arith) freed (bank_at b freed).content (omega (arith, next_in, most)) (omega (arith, bank_at_is freed next_in, most))
  taken_small line19 = x_small 19 (Sc (linked b.x.links p)) (λ v s. s) (omega arith) (record { buf = q.mybuf; seq = freed }) (omega (arith, r.mybuf, most)) (omega (arith, next_in, most))
  taken_small line23 = valid_small 23 (linked b.x.links p) (omega arith)

  pub access_small : (y : Point) → SmallAccess (access_of y p b q ws)
  access_small y = subst SmallAccess (access_by_taken p b q ws (omega (arith, r.word)) y) (taken_small y)
