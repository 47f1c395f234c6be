-- The bytes that a trace of Moir's bench shows of an access, between the process and the answer or the end of the line
-- (docs/TRACE.md, "Moir's bench"). Each part has the space before it.
use Rattle.std.specs.Prelude.{ℕ, List, ◌++◌}
use Rattle.listing.specs.Quoted.{quoted}
use Rattle.trace_parts.specs.TraceParts.{spaced, bracketed, truth_text}
use Rattle.moir_access.specs.declared.Item.{Item}
use Rattle.moir_access.specs.declared.Item.TheVariants.{Hdr, Data, Announced}
use Rattle.moir_access.specs.declared.Act.{Act}
use Rattle.moir_access.specs.declared.Act.TheVariants.{Read, Write, Cas}
use Rattle.moir_access.specs.declared.Content.{Content}
use Rattle.moir_access.specs.declared.Content.TheVariants.{Tagged, Word}
use Rattle.moir_access.specs.declared.Access.{Access}

-- `hdr`, `data[k]` or `A[q][k]`
unfoldable pub item_text : Item → List ℕ
item_text Hdr = quoted " hdr"
item_text (Data k) = quoted " data" ++ bracketed k
item_text (Announced q k) = quoted " A" ++ (bracketed q.0 ++ bracketed k)

-- the header is named by a tag and a process, a segment by a tag and a word, a word of A by the word
unfoldable pub values_text : Content → List ℕ
values_text (Tagged tag with) = spaced tag ++ spaced with
values_text (Word word) = spaced word

-- "`read values`", "`write word`", "`CAS expected new true`" and "`CAS expected new false`"
unfoldable pub act_text : Act → List ℕ
act_text (Read v) = quoted " read" ++ values_text v
act_text (Write v) = quoted " write" ++ values_text v
act_text (Cas v u t) = quoted " CAS" ++ (values_text v ++ (values_text u ++ truth_text t))

-- "The line is Figure 6's", then the item, then the act
unfoldable pub access_text : Access → List ℕ
access_text a = spaced a.line ++ (item_text a.item ++ act_text a.act)
