-- The shared items of a record (CR 13): "X, a Bank place, a Help place, each of these with its links, or a half word of
-- a buffer". The numbers that name one, what it holds, and memory in which it holds something else.
use Rattle.std.specs.Prelude.{ℕ, ◌*◌, ◌%◌, ◌<◌, List, cond, eqb, get_or, set}
use Rattle.model.specs.declared.Bench.{Bench}
use Rattle.model.specs.Places.{XPlace, BankPlace, HelpPlace, no_links}
use Rattle.model.specs.Tables.{bank_at, help_at, put_x, put_bank, put_help}
use Rattle.model.specs.Sizes.{buffers, halves}
use Rattle.model.specs.Words.{Layout, one_record, buffer_in, word_of, half_values, half, with_half}
use Rattle.doings.specs.declared.Item.{Item}
use Rattle.doings.specs.declared.Item.TheVariants.{X, Bank, Help, Half}

-- its index and its word place, 0 where it has none
abbrev pub index : Item → ℕ
index X = 0
index (Bank i) = i.0
index (Help i) = i.0
index (Half f k) = f.0

abbrev pub word_place : Item → ℕ
word_place X = 0
word_place (Bank i) = 0
word_place (Help i) = 0
word_place (Half f k) = k

-- BUF has 3N rows of W words, 2W halves; Bank and Help have fewer places
pub record InBench (b : Bench) (i : Item) : Type 0 where
  pub index : index i < buffers b.n
  pub word : word_place i < halves b.w

-- the values that an item holds, as an access names them, and its links
pub record Holding : Type 0 where
  pub first : ℕ
  pub second : ℕ
  pub links : ℕ

abbrev pub x_holding : XPlace → Holding
x_holding x = record { first = x.content.buf.0; second = x.content.seq.0; links = x.links }

abbrev pub bank_holding : BankPlace → Holding
bank_holding k = record { first = k.content.0; second = 0; links = k.links }

abbrev pub help_holding : HelpPlace → Holding
help_holding h = record { first = h.content.flag; second = h.content.buf.0; links = h.links }

-- a half word has no link that could be set
abbrev pub half_holding : ℕ → Holding
half_holding v = record { first = v; second = 0; links = no_links }

-- what an item of a record holds: l is the layout of its words
abbrev pub item_in : Layout → Item → Bench → List ℕ → Holding
item_in l X b ws = x_holding b.x
item_in l (Bank i) b ws = bank_holding (bank_at b i)
item_in l (Help i) b ws = help_holding (help_at b i)
item_in l (Half f k) b ws = half_holding (half k (get_or ws (buffer_in l b.w f (word_of k)) 0))

-- one record alone
abbrev pub item_at : Item → Bench → List ℕ → Holding
item_at i b ws = item_in (one_record b.n) i b ws

-- a place that holds this
abbrev pub x_of : Holding → XPlace
x_of h = record { content = record { buf = record { 0 = h.first }; seq = record { 0 = h.second } }; links = h.links }

abbrev pub bank_of : Holding → BankPlace
bank_of h = record { content = record { 0 = h.first }; links = h.links }

abbrev pub help_of : Holding → HelpPlace
help_of h = record { content = record { flag = h.first; buf = record { 0 = h.second } }; links = h.links }

-- a word whose half of place k is v; and the words in which the half of place k of word i is v
abbrev pub whole : ℕ → ℕ → ℕ
whole k v = cond (eqb (k % 2) 0) v (v * half_values)

abbrev pub put_half : List ℕ → ℕ → ℕ → ℕ → List ℕ
put_half ws i k v = set ws i (with_half k (whole k v) (get_or ws i 0))

-- the bench record and the words in which the item holds h
abbrev pub put_in_bench : Item → Holding → Bench → Bench
put_in_bench X h b = put_x b (x_of h)
put_in_bench (Bank i) h b = put_bank b i (bank_of h)
put_in_bench (Help i) h b = put_help b i (help_of h)
put_in_bench (Half f k) h b = b

abbrev pub put_in_words : Layout → ℕ → Item → Holding → List ℕ → List ℕ
put_in_words l w X h ws = ws
put_in_words l w (Bank i) h ws = ws
put_in_words l w (Help i) h ws = ws
put_in_words l w (Half f k) h ws = put_half ws (buffer_in l w f (word_of k)) k h.first
