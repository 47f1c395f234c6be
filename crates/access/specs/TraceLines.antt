-- The lines of a trace as bytes. Each part but the entry number has the space before it.
use Rattle.std.specs.Prelude.{ℕ, ◌%◌, List, [], ◌++◌, Bool, cond, eqb}
use Rattle.model.specs.Words.{word_of}
use Rattle.listing.specs.Quoted.{quoted}
use Rattle.trace_parts.specs.TraceParts
use Rattle.trace_parts.specs.TraceParts.{spaced, bracketed, truth_text}
use Rattle.doings.specs.declared.Item.{Item}
use Rattle.doings.specs.declared.Item.TheVariants.{X, Bank, Help, Half}
use Rattle.access.specs.declared.Values.{Values}
use Rattle.access.specs.declared.Values.TheVariants as of
use Rattle.access.specs.declared.Act.{Act}
use Rattle.access.specs.declared.Act.TheVariants.{Read, Write, Ll, Sc, Vl}
use Rattle.access.specs.declared.Access.{Access}
use Rattle.access.specs.Accesses.{item_of}

-- which half of its word a place is
unfoldable pub half_text : ℕ → List ℕ
half_text k = cond (eqb (k % 2) 0) (quoted " low") (quoted " high")

-- a place of a buffer: its word, and which half
unfoldable pub half_place_text : ℕ → List ℕ
half_place_text k = bracketed (word_of k) ++ half_text k

-- `X`, `Bank[i]`, `Help[i]`, or `BUF[b][k] low` or `BUF[b][k] high` for a half of word k
unfoldable pub item_text : Item → List ℕ
item_text X = quoted " X"
item_text (Bank i) = quoted " Bank" ++ bracketed i.0
item_text (Help i) = quoted " Help" ++ bracketed i.0
item_text (Half f k) = quoted " BUF" ++ (bracketed f.0 ++ half_place_text k)

-- X holds a buffer and a sequence number, a place of Help a flag and a buffer number; a place of Bank and a half word
-- one number
unfoldable pub values_text : Values → List ℕ
values_text (of.X v) = spaced v.buf.0 ++ spaced v.seq.0
values_text (of.Bank i v) = spaced v.0
values_text (of.Help i v) = spaced v.flag ++ spaced v.buf.0
values_text (of.Half f k v) = spaced v

-- whether an SC wrote, which clears all links, or did nothing
unfoldable pub stored_text : Bool → List ℕ
stored_text t = truth_text t ++ cond t (quoted " links cleared") []

-- a half word has no links
unfoldable pub written_text : Values → List ℕ
written_text (of.X v) = quoted " links cleared"
written_text (of.Bank i v) = quoted " links cleared"
written_text (of.Help i v) = quoted " links cleared"
written_text (of.Half f k v) = []

-- the act, with the values that it names
unfoldable pub act_text : Act → List ℕ
act_text (Read v) = quoted " read" ++ values_text v
act_text (Write v) = quoted " write" ++ (values_text v ++ written_text v)
act_text (Ll v) = quoted " LL" ++ (values_text v ++ quoted " link set")
act_text (Sc t v) = quoted " SC" ++ (values_text v ++ stored_text t)
act_text (Vl t i) = quoted " VL" ++ truth_text t

-- the line of Figure 2, the item and the act
unfoldable pub access_text : Access → List ℕ
access_text a = spaced a.line ++ (item_text (item_of a.act) ++ act_text a.act)

-- the line of a step
abbrev pub step_line : ℕ → ℕ → Access → Bool → List ℕ
step_line entry p a answered = TraceParts.step_line access_text entry p a answered
