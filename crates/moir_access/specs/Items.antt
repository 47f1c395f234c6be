-- The shared items of Moir's bench, the header, a segment, a word of the array A (02, CR 8: "one whole access to a step:
-- a CAS, a header read, a segment read or a word of the array A"), and what each holds, as a trace names it.
use Rattle.std.specs.Prelude.{ℕ, ◌<◌, List, get_or}
use Rattle.moir_model.specs.declared.Header.{Header}
use Rattle.moir_model.specs.declared.Segment.{Segment}
use Rattle.moir_model.specs.declared.Bench.{Bench}
use Rattle.moir_model.specs.Words.{announced_word, segment_at}
use Rattle.moir_access.specs.declared.Item.{Item}
use Rattle.moir_access.specs.declared.Item.TheVariants.{Hdr, Data, Announced}
use Rattle.moir_access.specs.declared.Content.{Content}
use Rattle.moir_access.specs.declared.Content.TheVariants.{Tagged, Word}

-- docs/TRACE.md: "`hdr`, with a tag and a process; `data[k]`, segment k, with a tag and a word; or `A[q][k]`, word k of
-- process q's row, with a word"
abbrev pub header_content : Header → Content
header_content h = Tagged h.tag h.pid.0

abbrev pub segment_content : Segment → Content
segment_content g = Tagged g.tag g.val

abbrev pub word_content : ℕ → Content
word_content v = Word v

-- what an item of the bench b and the words ws holds
abbrev pub item_at : Item → Bench → List ℕ → Content
item_at Hdr b ws = header_content b.header
item_at (Data k) b ws = segment_content (segment_at b ws k)
item_at (Announced q k) b ws = word_content (get_or ws (announced_word b.w q k) 0)

-- the items that there are: W segments, N rows of W words
abbrev pub InBench : Bench → Item → Type 0
InBench b Hdr = Unit {0}
InBench b (Data k) = k < b.w
InBench b (Announced q k) = (q.0 < b.n) × (k < b.w)
