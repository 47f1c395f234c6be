-- Row 9 over a held list. `moir_model`'s row 9 says nothing of tags, whose declared type keeps them in range; in a list of
-- numbers one may be too large, and then it is row 9 too. And a command by a look at what it reads alone.
use Rattle.std.specs.Prelude.{ℕ, List, [], ◌∷◌, Bool, ◌&&◌, cond, eqb, ltb, length, get_or, take}
use Rattle.llsc.specs.declared.Order.{Order}
use Rattle.llsc.specs.Rows.{Row, first, every, lent_rows, row4, row8, row9}
use Rattle.moir_model.specs.declared.Header.{Header}
use Rattle.moir_model.specs.declared.Process.{Process}
use Rattle.moir_model.specs.declared.Reply.{Reply}
use Rattle.moir_model.specs.declared.Reply.TheVariants.{Refused}
use Rattle.moir_model.specs.Tags.{tag_values}
use Rattle.moir_model.specs.Sizes.{lent_words}
use Rattle.moir_model.specs.Records.{record_at}
use Rattle.moir_model.specs.Machine.{Memory}
use Rattle.moir_model.specs.Refusals.{header_ok, process_ok, row5, row6, row7, rows_of}
use Rattle.moir_model.specs.Command.{obeyed}

-- "The tag has sixteen bits"
abbrev pub tag_ok : ℕ → Bool
tag_ok t = ltb t tag_values

abbrev pub process_tags_ok : Process → Bool
process_tags_ok q =
    tag_ok q.keep && (tag_ok q.x.tag && (tag_ok q.oldhdr.tag && (tag_ok q.newhdr.tag && (tag_ok q.h.tag && (tag_ok q.y.tag && tag_ok q.z.tag)))))

-- the tags that N and W need
abbrev pub tags_ok : Memory → Bool
tags_ok m =
    tag_ok m.bench.header.tag && (every tag_ok (take m.bench.w m.bench.tags) && every process_tags_ok (take m.bench.n m.records))

-- a header and a process with their tags
abbrev pub header_whole : ℕ → Header → Bool
header_whole n h = header_ok n h && tag_ok h.tag

abbrev pub process_whole : ℕ → ℕ → Process → Bool
process_whole n w q = process_ok n w q && process_tags_ok q

-- row 9 of all that N and W need
abbrev pub held_in_range : Memory → Bool
held_in_range m =
    header_whole m.bench.n m.bench.header && (every tag_ok (take m.bench.w m.bench.tags) &&
    every (process_whole m.bench.n m.bench.w) (take m.bench.n m.records))

-- `moir_model`'s rows with it, and its command
abbrev pub held_rows : Memory → ℕ → Order → List ℕ → List Row
held_rows m p o value =
    rows_of m.bench.n m.bench.w (length m.records) (length m.words) (held_in_range m) p o (length value) (record_at m.records (record { 0 = p }))

unfoldable pub held_refusal : Memory → ℕ → Order → List ℕ → ℕ
held_refusal m p o value = first (held_rows m p o value)

unfoldable pub held_command : Memory → ℕ → Order → List ℕ → Reply × Memory
held_command m p o value =
    cond (eqb (held_refusal m p o value) 0) (obeyed m (record { 0 = p }) o value) (Refused (held_refusal m p o value), m)

-- What a command to process p reads: the header, its own process, and the tag of the segment at its word place.
abbrev pub touched_ok : Memory → ℕ → Bool
touched_ok m p =
    let q = record_at m.records (record { 0 = p }) in
    header_whole m.bench.n m.bench.header && (process_whole m.bench.n m.bench.w q && tag_ok (get_or m.bench.tags q.word 0))

-- rows 4, 9 of what the command reads, 8, 5, 6, 7
abbrev pub near_rest : Memory → ℕ → Order → List ℕ → List Row
near_rest m p o value =
    let q = record_at m.records (record { 0 = p }) in
    row4 m.bench.n p ∷ row9 (touched_ok m p) ∷ row8 o m.bench.w (length value) ∷ row5 o q ∷ row6 o q ∷ row7 o q ∷ []

-- and before them 1, 2, 3
unfoldable pub near_refusal : Memory → ℕ → Order → List ℕ → ℕ
near_refusal m p o value =
    first (lent_rows m.bench.n m.bench.w (lent_words m.bench.n m.bench.w) (length m.records) (length m.words) (near_rest m p o value))

unfoldable pub near_command : Memory → ℕ → Order → List ℕ → Reply × Memory
near_command m p o value =
    cond (eqb (near_refusal m p o value) 0) (obeyed m (record { 0 = p }) o value) (Refused (near_refusal m p o value), m)
