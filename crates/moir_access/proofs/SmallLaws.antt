-- The accesses of a bench in range, none of whose numbers has more than ten digits, are small.
use mathlib.Core.List.{List}
use Prim.Native.Nat.{ℕ, ◌+◌, ◌*◌, ◌≤◌, ◌<◌}
use native.Mathlib.Omega.{arith}
use lib.ListN.{get_or}
use Rattle.llsc.specs.declared.ProcessNumber.{ProcessNumber}
use Rattle.moir_model.specs.declared.Header.{Header}
use Rattle.moir_model.specs.declared.Segment.{Segment}
use Rattle.moir_model.specs.declared.Bench.{Bench}
use Rattle.moir_model.specs.declared.Process.{Process}
use Rattle.moir_model.specs.Sizes.{lent_words}
use Rattle.moir_model.specs.Points.{Point, idle, ll10, ll2, ll4, ll5, ll6, ll7, sc14, sc17, sc19, sc2, sc4, sc5, sc6, sc7, vl13}
use Rattle.moir_model.specs.Words.{segment_at}
use Rattle.moir_steps.specs.Ranges.{Ready}
use Rattle.words.proofs.WordLaws.{within}
use Rattle.moir_access.specs.Items.{header_content, segment_content}
use Rattle.moir_access.specs.Accesses.{header_read, segment_read, segment_cas, word_read, access_of}
use Rattle.moir_access.proofs.Lengths.{SmallContent, SmallAccess}

-- the numbers of a header, and of a segment
pub record SmallHeader (h : Header) : Type 0 where
  pub tag : h.tag ≤ 4294967295
  pub pid : h.pid.0 ≤ 4294967295

pub record SmallSegment (g : Segment) : Type 0 where
  pub tag : g.tag ≤ 4294967295
  pub val : g.val ≤ 4294967295

-- those that a step can show: of the bench record, of the own record, of the lent words
pub record SmallNumbers (b : Bench) (q : Process) (ws : List ℕ) : Type 0 where
  pub header : SmallHeader b.header
  pub tags : (k : ℕ) → k < b.w → get_or b.tags k 0 ≤ 4294967295
  pub words : (i : ℕ) → i < lent_words b.n b.w → get_or ws i 0 ≤ 4294967295
  pub oldhdr : SmallHeader q.oldhdr
  pub newhdr : SmallHeader q.newhdr
  pub y : SmallSegment q.y
  pub z : SmallSegment q.z

header_small : {h : Header} → SmallHeader h → SmallContent (header_content h)
header_small s = (s.tag, s.pid)

segment_small : {g : Segment} → SmallSegment g → SmallContent (segment_content g)
segment_small s = (s.tag, s.val)

read_small : (line : ℕ) {h : Header} → line ≤ 255 → SmallHeader h → SmallAccess (header_read line h)
read_small line l s = record { line = l; item = tt; act = header_small s }

-- p is the process that steps
module _ {b : Bench} {q : Process} {p : ProcessNumber} {ws : List ℕ} (r : Ready b q p ws) (s : SmallNumbers b q ws) where
  -- a word of one of the 3N + 1 rows
  word_at : (row : ℕ) → row < 3 * b.n + 1 → get_or ws (row * b.w + q.word) 0 ≤ 4294967295
  word_at row h = s.words (row * b.w + q.word) (within {b = row} {c = 3 * b.n + 1} h r.standing.word)

  place : q.word ≤ 4294967295
  place = omega (arith, r.standing.word, r.standing.w_most)

  process_small : (k : ℕ) → k < b.n → k ≤ 4294967295
  process_small k h = omega (arith, h, r.standing.n_most)

  held : SmallSegment (segment_at b ws q.word)
  held = record { tag = s.tags q.word r.standing.word; val = word_at b.n (omega arith) }

  seen_small : (line : ℕ) → line ≤ 255 → SmallAccess (segment_read line b q ws)
  seen_small line l = record { line = l; item = place; act = segment_small held }

  cas_small : SmallAccess (segment_cas b q ws)
  cas_small = record { line = omega arith; item = place; act = (segment_small s.y, segment_small s.z) }

  announced_small : (hdr : Header) → hdr.pid.0 < b.n → SmallAccess (word_read hdr b q ws)
  announced_small hdr h =
      record { line = omega arith; item = (process_small hdr.pid.0 h, place); act = word_at hdr.pid.0 (omega arith) }

  pub access_small : (y : Point) → SmallAccess (access_of y p b q ws)
  unfolding access_of
  access_small idle = read_small 0 (omega arith) (record { tag = omega arith; pid = omega arith })
  access_small ll10 = read_small 10 (omega arith) s.header
  access_small ll2 = seen_small 2 (omega arith)
  access_small ll4 = announced_small q.x r.x_pid_is
  access_small ll5 = cas_small
  access_small ll6 = seen_small 6 (omega arith)
  access_small ll7 = read_small 7 (omega arith) s.header
  access_small sc14 = read_small 14 (omega arith) s.header
  access_small sc17 = record {
    line = omega arith;
    item = (process_small p.0 r.process, place);
    act = word_at (2 * b.n + 1 + p.0) (omega (arith, r.process));
  }
  access_small sc19 = record { line = omega arith; item = tt; act = (header_small s.oldhdr, header_small s.newhdr) }
  access_small sc2 = seen_small 2 (omega arith)
  access_small sc4 = announced_small q.newhdr r.new_pid_is
  access_small sc5 = cas_small
  access_small sc6 = seen_small 6 (omega arith)
  access_small sc7 = read_small 7 (omega arith) s.header
  access_small vl13 = read_small 13 (omega arith) s.header
