-- The access that a trace shows of a step on Moir's bench: the line of Figure 6, the item that it touches and what it
-- does to it, with the values, from the memory before the step (docs/TRACE.md, "Moir's bench").
use Rattle.std.specs.Prelude.{ℕ, List, get_or}
use Rattle.llsc.specs.declared.ProcessNumber.{ProcessNumber}
use Rattle.moir_model.specs.declared.Header.{Header}
use Rattle.moir_model.specs.declared.Bench.{Bench}
use Rattle.moir_model.specs.declared.Process.{Process}
use Rattle.moir_model.specs.Points.{Point, idle, ll10, ll2, ll4, ll5, ll6, ll7, sc14, sc17, sc19, sc2, sc4, sc5, sc6, sc7, vl13}
use Rattle.moir_model.specs.Records.{no_header}
use Rattle.moir_model.specs.Words.{announced_word, offer_word, segment_at}
use Rattle.moir_model.specs.Lines.{same_header, same_segment}
use Rattle.moir_access.specs.declared.Item.TheVariants.{Hdr, Data, Announced}
use Rattle.moir_access.specs.declared.Act.TheVariants.{Read, Write, Cas}
use Rattle.moir_access.specs.declared.Access.{Access}
use Rattle.moir_access.specs.Items.{header_content, segment_content, word_content}

-- Lines 7, 10, 13 and 14: the header is read. Line 7: h := addr->hdr.
abbrev pub header_read : ℕ → Header → Access
header_read line h = record { line = line; item = Hdr; act = Read (header_content h) }

-- Line 19: CAS(addr, oldhdr, newhdr), done where the header h is the one expected.
abbrev pub header_cas : Header → Process → Access
header_cas h q = record {
  line = 19;
  item = Hdr;
  act = Cas (header_content q.oldhdr) (header_content q.newhdr) (same_header h q.oldhdr);
}

-- Lines 2 and 6: segment i is read. Line 2: y := addr->data[i]. Line 6: "a further step reads the segment again
-- into y" (02, CR 8).
abbrev pub segment_read : ℕ → Bench → Process → List ℕ → Access
segment_read line b q ws =
    record { line = line; item = Data q.word; act = Read (segment_content (segment_at b ws q.word)) }

-- Line 5: CAS(addr->data[i], y, z), done where the segment is the one expected.
abbrev pub segment_cas : Bench → Process → List ℕ → Access
segment_cas b q ws = record {
  line = 5;
  item = Data q.word;
  act = Cas (segment_content q.y) (segment_content q.z) (same_segment (segment_at b ws q.word) q.y);
}

-- Line 4: z := (hdr.tag, A[hdr.pid][i]); hdr is the header that Copy was called with.
abbrev pub word_read : Header → Bench → Process → List ℕ → Access
word_read hdr b q ws = record {
  line = 4;
  item = Announced hdr.pid q.word;
  act = Read (word_content (get_or ws (announced_word b.w hdr.pid q.word) 0));
}

-- Line 17: A[p][i] := newval[i], from p's offer area.
abbrev pub word_write : ProcessNumber → Bench → Process → List ℕ → Access
word_write p b q ws = record {
  line = 17;
  item = Announced p q.word;
  act = Write (word_content (get_or ws (offer_word b.n b.w p q.word) 0));
}

-- what stands for no access: a read of line 0, which there is not
abbrev pub no_access : Access
no_access = header_read 0 no_header

-- Figure 6, point by point: p is the process that steps, b the bench, q p's record, ws the lent words. docs/TRACE.md:
-- "Copy's lines are the same in a WLL and in an SC", called with x in line 12 and with newhdr in line 20.
unfoldable pub access_of : Point → ProcessNumber → Bench → Process → List ℕ → Access
access_of idle p b q ws = no_access
access_of ll10 p b q ws = header_read 10 b.header
access_of ll2 p b q ws = segment_read 2 b q ws
access_of ll4 p b q ws = word_read q.x b q ws
access_of ll5 p b q ws = segment_cas b q ws
access_of ll6 p b q ws = segment_read 6 b q ws
access_of ll7 p b q ws = header_read 7 b.header
access_of sc14 p b q ws = header_read 14 b.header
access_of sc17 p b q ws = word_write p b q ws
access_of sc19 p b q ws = header_cas b.header q
access_of sc2 p b q ws = segment_read 2 b q ws
access_of sc4 p b q ws = word_read q.newhdr b q ws
access_of sc5 p b q ws = segment_cas b q ws
access_of sc6 p b q ws = segment_read 6 b q ws
access_of sc7 p b q ws = header_read 7 b.header
access_of vl13 p b q ws = header_read 13 b.header
