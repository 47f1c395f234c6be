-- The access of a step, from the places that were taken out for it: X, one place of Bank and one of Help.
-- Inner: the code is held against it. The one to believe is `Accesses.access_of`, over the bench; `AccessLaws` proves
-- them equal.
use Rattle.std.specs.Prelude.{ℕ, List, Bool, false, get_or}
use Rattle.model.specs.declared.BufferNumber.{BufferNumber}
use Rattle.model.specs.declared.SequenceNumber.{SequenceNumber}
use Rattle.llsc.specs.declared.ProcessNumber.{ProcessNumber}
use Rattle.model.specs.declared.XContent.{XContent}
use Rattle.model.specs.declared.HelpContent.{HelpContent}
use Rattle.model.specs.declared.Process.{Process}
use Rattle.model.specs.Places.{XPlace, HelpPlace, linked}
use Rattle.model.specs.Tables.{next, helped}
use Rattle.model.specs.Words.{buffer_word, return_word, offer_word, word_of, half}
use Rattle.model.specs.Points.{Point, idle, line1, line2, line3, line4, line5, line6, line7, line7copy, line8, line9, line10, line11}
use Rattle.model.specs.Points.{line12, line12valid, line13, line14, line14valid, line15, line17, line18, line19, line23}
use Rattle.taken.specs.declared.Taken.{Taken}
use Rattle.doings.specs.declared.Item.TheVariants as item
use Rattle.access.specs.declared.Values.{Values}
use Rattle.access.specs.declared.Values.TheVariants.{X, Bank, Help, Half}
use Rattle.access.specs.declared.Act.{Act}
use Rattle.access.specs.declared.Act.TheVariants.{Read, Write, Ll, Sc, Vl}
use Rattle.access.specs.declared.Access.{Access}

-- an act on each kind of item, with the values that are read or written
abbrev pub x_access : ℕ → (Values → Act) → XContent → Access
x_access line act v = record { line = line; act = act (X v) }

abbrev pub bank_access : ℕ → SequenceNumber → (Values → Act) → BufferNumber → Access
bank_access line i act v = record { line = line; act = act (Bank i v) }

abbrev pub help_access : ℕ → ProcessNumber → (Values → Act) → HelpContent → Access
help_access line i act v = record { line = line; act = act (Help i v) }

abbrev pub half_access : ℕ → BufferNumber → ℕ → (Values → Act) → ℕ → Access
half_access line f k act v = record { line = line; act = act (Half f k v) }

-- VL(X): it names no values
abbrev pub vl_of_x : ℕ → Bool → Access
vl_of_x line t = record { line = line; act = Vl t item.X }

-- what stands for no access: a VL(X) of no line
abbrev pub no_access : Access
no_access = vl_of_x 0 false

-- LL(X), of the place x
abbrev pub ll_of_x : ℕ → XPlace → Access
ll_of_x line x = x_access line Ll x.content

-- LL(Help[i]), of the place h
abbrev pub ll_of_help : ℕ → ProcessNumber → HelpPlace → Access
ll_of_help line i h = help_access line i Ll h.content

-- p's SC(Help[i], (0, v)), of the place h
abbrev pub sc_of_help : ℕ → ProcessNumber → ProcessNumber → BufferNumber → HelpPlace → Access
sc_of_help line i p v h = help_access line i (Sc (linked h.links p)) (record { flag = 0; buf = v })

-- a half word of BUF[f] is read, at the word place; w is W
abbrev pub read_half : ℕ → BufferNumber → ℕ → Process → List ℕ → Access
read_half line f w q ws = half_access line f q.word Read (half q.word (get_or ws (buffer_word w f (word_of q.word)) 0))

-- a half of the word at `from` is written to BUF[mybuf], at the word place
abbrev pub write_half : ℕ → ℕ → Process → List ℕ → Access
write_half line from q ws = half_access line q.mybuf q.word Write (half q.word (get_or ws from 0))

-- Figure 2, point by point as in `access_of`: p is the process that steps, n stands for N and w for W, t are the places
-- taken out (`taken`'s `taken_from`), q is p's record, ws are the lent words.
unfoldable pub access_on : Point → ProcessNumber → ℕ → ℕ → Taken → Process → List ℕ → Access
access_on idle p n w t q ws = no_access
access_on line1 p n w t q ws = help_access 1 p Write (record { flag = 1; buf = q.mybuf })
access_on line2 p n w t q ws = ll_of_x 2 t.x
access_on line3 p n w t q ws = read_half 3 q.x.buf w q ws
access_on line4 p n w t q ws = ll_of_help 4 p t.help
access_on line5 p n w t q ws = ll_of_x 5 t.x
access_on line6 p n w t q ws = read_half 6 q.x.buf w q ws
access_on line7 p n w t q ws = vl_of_x 7 (linked t.x.links p)
access_on line7copy p n w t q ws = read_half 7 q.b w q ws
access_on line8 p n w t q ws = ll_of_help 8 p t.help
access_on line9 p n w t q ws = sc_of_help 9 p p q.c t.help
access_on line10 p n w t q ws = help_access 10 p Read t.help.content
access_on line11 p n w t q ws = write_half 11 (return_word n w p (word_of q.word)) q ws
access_on line12 p n w t q ws = bank_access 12 q.x.seq Ll t.bank.content
access_on line12valid p n w t q ws = vl_of_x 12 (linked t.x.links p)
access_on line13 p n w t q ws = bank_access 13 q.x.seq (Sc (linked t.bank.links p)) q.x.buf
access_on line14 p n w t q ws = ll_of_help 14 (helped n q.x.seq) t.help
access_on line14valid p n w t q ws = vl_of_x 14 (linked t.x.links p)
access_on line15 p n w t q ws = sc_of_help 15 (helped n q.x.seq) p q.mybuf t.help
access_on line17 p n w t q ws = write_half 17 (offer_word n w p (word_of q.word)) q ws
access_on line18 p n w t q ws = bank_access 18 (next n q.x.seq) Read t.bank.content
access_on line19 p n w t q ws = x_access 19 (Sc (linked t.x.links p)) (record { buf = q.mybuf; seq = next n q.x.seq })
access_on line23 p n w t q ws = vl_of_x 23 (linked t.x.links p)
