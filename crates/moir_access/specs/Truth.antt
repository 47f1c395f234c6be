-- What it means that a trace of Moir's bench tells the truth about a step.
use Rattle.std.specs.Prelude.{◌≡◌, ◌≢◌, List, true, false, cond, ℕ, ◌+◌, ◌-◌, eqb, ltb, length}
use Rattle.llsc.specs.declared.ProcessNumber.{ProcessNumber}
use Rattle.moir_model.specs.declared.Bench.{Bench}
use Rattle.moir_model.specs.declared.Process.{Process}
use Rattle.moir_model.specs.declared.Moved.{Moved}
use Rattle.moir_model.specs.declared.Reply.{Reply}
use Rattle.moir_model.specs.declared.Reply.TheVariants.{Accepted, ScAnswered, VlAnswered}
use Rattle.moir_model.specs.Points.{Point, line_number, idle, ll10, ll2, ll4, ll5, ll6, ll7, sc14, sc17, sc19, sc2, sc4, sc5, sc6, sc7, vl13}
use Rattle.moir_steps.specs.Ranges.{Ready}
use Rattle.moir_access.specs.declared.Item.{Item}
use Rattle.moir_access.specs.declared.Act.{Act}
use Rattle.moir_access.specs.declared.Act.TheVariants.{Read, Write, Cas}
use Rattle.moir_access.specs.declared.Content.{Content}
use Rattle.moir_access.specs.declared.Content.TheVariants.{Tagged, Word}
use Rattle.moir_access.specs.declared.Access.{Access}
use Rattle.moir_access.specs.Items.{header_content, segment_content, word_content, item_at, InBench}

-- What an act says of its item, which held `old` before the step and holds `left` after it (docs/TRACE.md's table).
abbrev pub Says : Act → Content → Content → Type 0
-- "what was read": the item held it, and stays as it was
Says (Read v) old left = (old ≡ v) × (left ≡ old)
-- line 17: the word is there now
Says (Write v) old left = left ≡ v
-- "the item held what was expected, and now holds the new values"
Says (Cas v u true) old left = (old ≡ v) × (left ≡ u)
-- "it held something else, and stays as it was"
Says (Cas v u false) old left = (old ≢ v) × (left ≡ old)

-- The item that the access a names is one of the bench; it is as a says, and every other is as before.
pub record TellsTruth (a : Access) (b : Bench) (ws : List ℕ) (b' : Bench) (ws' : List ℕ) : Type 0 where
  pub there : InBench b a.item
  pub item : Says a.act (item_at a.item b ws) (item_at a.item b' ws')
  pub others : (i : Item) → InBench b i → i ≢ a.item → item_at i b' ws' ≡ item_at i b ws

-- docs/TRACE.md: "a start touches nothing shared"
abbrev pub Untouched : Bench → List ℕ → Bench → List ℕ → Type 0
Untouched b ws b' ws' = (i : Item) → InBench b i → item_at i b' ws' ≡ item_at i b ws

-- line 19: if not CAS(addr, oldhdr, newhdr) then return false; a read or a write has no truth
abbrev pub cas_reply : Act → ℕ → Reply
cas_reply (Read v) k = Accepted
cas_reply (Write v) k = Accepted
cas_reply (Cas v u true) k = Accepted
cas_reply (Cas v u false) k = ScAnswered false k

-- the values that were read or written, or that a CAS expects, and the first number of them, a tag where there is one
abbrev pub values_of : Act → Content
values_of (Read v) = v
values_of (Write v) = v
values_of (Cas v u t) = v

abbrev pub first_of : Content → ℕ
first_of (Tagged tag with) = tag
first_of (Word word) = word

-- What the process gets, by Figure 6: q is its record before the step, m what the step leaves. What is shown as read is
-- in the variable that the line sets, or it makes the answer; the truth of line 19's CAS makes it. Line 5 ignores what
-- its CAS returns, and line 17 reads nothing shared.
abbrev pub Gets : Point → Access → Process → Moved → Type 0
Gets idle a q m = Unit {0}
-- x := addr->hdr, *keep := x.tag
Gets ll10 a q m = (header_content m.process.x ≡ values_of a.act) × (m.process.keep ≡ first_of (values_of a.act))
-- y := addr->data[i]
Gets ll2 a q m = segment_content m.process.y ≡ values_of a.act
-- z := (hdr.tag, A[hdr.pid][i])
Gets ll4 a q m = word_content m.process.z.val ≡ values_of a.act
Gets ll5 a q m = Unit {0}
Gets ll6 a q m = segment_content m.process.y ≡ values_of a.act
-- h := addr->hdr
Gets ll7 a q m = header_content m.process.h ≡ values_of a.act
-- oldhdr := addr->hdr
Gets sc14 a q m = header_content m.process.oldhdr ≡ values_of a.act
Gets sc17 a q m = Unit {0}
Gets sc19 a q m = m.reply ≡ cas_reply a.act (q.count + 1)
Gets sc2 a q m = segment_content m.process.y ≡ values_of a.act
Gets sc4 a q m = word_content m.process.z.val ≡ values_of a.act
Gets sc5 a q m = Unit {0}
Gets sc6 a q m = segment_content m.process.y ≡ values_of a.act
Gets sc7 a q m = header_content m.process.h ≡ values_of a.act
-- return (addr->hdr).tag = keep
Gets vl13 a q m = m.reply ≡ VlAnswered (eqb (first_of (values_of a.act)) q.keep) (q.count + 1)

-- "The line is Figure 6's", by the number of the point in a process record, which has 20 more in the Copy of an SC
abbrev pub figure_line : Point → ℕ
figure_line y = cond (ltb 20 (line_number y)) (line_number y - 20) (line_number y)

-- The ranges of a step, and the table of tags in its declared length.
pub record Stepped (b : Bench) (q : Process) (p : ProcessNumber) (ws : List ℕ) : Type 0 where
  pub ready : Ready b q p ws
  pub tags : length b.tags ≡ 64
