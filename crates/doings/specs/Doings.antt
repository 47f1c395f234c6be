-- What a command does (CR 13): nothing shared, or one act on one shared item, after which its process goes on by what
-- it saw there.
use Rattle.std.specs.Prelude.{◌≡◌, ◌≢◌, ◌⊎◌, ℕ, ◌+◌, List, Bool, true, false, cond, eqb, get_or}
use Rattle.model.specs.declared.BufferNumber.{BufferNumber}
use Rattle.model.specs.declared.SequenceNumber.{SequenceNumber}
use Rattle.llsc.specs.declared.ProcessNumber.{ProcessNumber}
use Rattle.model.specs.declared.XContent.{XContent}
use Rattle.model.specs.declared.Bench.{Bench}
use Rattle.model.specs.declared.Process.{Process}
use Rattle.llsc.specs.declared.Order.{Order}
use Rattle.llsc.specs.declared.Order.TheVariants.{StartLl, StartSc, StartVl, Step}
use Rattle.model.specs.declared.Reply.{Reply}
use Rattle.model.specs.declared.Reply.TheVariants.{Accepted, ScAnswered, VlAnswered}
use Rattle.model.specs.declared.WordStep.{WordStep}
use Rattle.model.specs.declared.Moved.{Moved}
use Rattle.model.specs.Places.{no_links, linked, link}
use Rattle.model.specs.Tables.{next, helped}
use Rattle.model.specs.Sizes.{halves}
use Rattle.model.specs.Words.{Layout, word_of, half}
use Rattle.model.specs.Points.{Point, point_of, idle, line1, line2, line3, line4, line5, line6, line7, line7copy}
use Rattle.model.specs.Points.{line8, line9, line10, line11, line12, line12valid, line13, line14, line14valid}
use Rattle.model.specs.Points.{line15, line17, line18, line19, line23}
use Rattle.model.specs.Records.{to, rest, begin, with_x, with_mybuf, with_b, with_c, with_d, with_e}
use Rattle.model.specs.Lines.{do_word, do_line11}
use Rattle.doings.specs.declared.Item.{Item}
use Rattle.doings.specs.declared.Item.TheVariants.{X, Bank, Help, Half}
use Rattle.doings.specs.Items.{Holding, item_in, put_half, put_in_bench, put_in_words}
use Rattle.doings.specs.Own.{Own, put_areas}

-- an act on an item; an SC and a write with the values that they bring
pub data Act : Type 0 where
  read ll vl : Act
  sc write : ℕ → ℕ → Act

-- "LL (its own link apart), VL and plain reads only look; the write of line 1, word writes and every SC, successful or
-- not, alter."
abbrev pub looks : Act → Bool
looks read = true
looks ll = true
looks vl = true
looks (sc v u) = false
looks (write v u) = false

-- the values v and u, and no link set
abbrev pub cleared : ℕ → ℕ → Holding
cleared v u = record { first = v; second = u; links = no_links }

-- what p's act leaves in an item that held h (01, "Links")
abbrev pub acted : Act → ProcessNumber → Holding → Holding
acted read p h = h
acted ll p h = record { first = h.first; second = h.second; links = link h.links p }
acted vl p h = h
acted (sc v u) p h = cond (linked h.links p) (cleared v u) h
acted (write v u) p h = cleared v u

-- what p can see of it: the values, and its own link
pub record Seen : Type 0 where
  pub first : ℕ
  pub second : ℕ
  pub linked : Bool

abbrev pub seen : ProcessNumber → Holding → Seen
seen p h = record { first = h.first; second = h.second; linked = linked h.links p }

-- An act on one item, and how its process goes on: from what it saw there, its reply and what it has for itself. I is
-- the type of items, P of process records.
pub record Doing (I P : Type 0) : Type 0 where
  pub item : I
  pub act : Act
  pub next : Seen → Reply × Own P

pub data Touching (I P : Type 0) : Type 0 where
  nothing : Reply × Own P → Touching I P
  one : Doing I P → Touching I P

-- it touches the item i
abbrev pub Touches : {I P : Type 0} → Touching I P → I → Type 0
Touches (nothing out) i = ⊥
Touches (one d) i = d.item ≡ i

-- two that are "with no item in common or both only looking"
abbrev pub Apart : {I P : Type 0} → Touching I P → Touching I P → Type 0
Apart (nothing out) u = Unit {0}
Apart (one d) (nothing out) = Unit {0}
Apart (one d) (one e) = (d.item ≢ e.item) ⊎ ((looks d.act ≡ true) × (looks e.act ≡ true))

-- the values seen, as numbers of their kinds
abbrev pub x_seen : Seen → XContent
x_seen s = record { buf = record { 0 = s.first }; seq = record { 0 = s.second } }

abbrev pub first_buffer : Seen → BufferNumber
first_buffer s = record { 0 = s.first }

abbrev pub second_buffer : Seen → BufferNumber
second_buffer s = record { 0 = s.second }

module _ (o : Own Process) where
  -- the process goes on with the record q, its areas as they are
  abbrev pub replies : Reply → Process → Reply × Own Process
  replies r q = (r, record { process = q; returned = o.returned; offered = o.offered })

  -- the half word seen goes into the return area, at the word place
  abbrev pub takes : WordStep → Seen → Reply × Own Process
  takes step s = (
    step.reply,
    record {
      process = step.process;
      returned = put_half o.returned (word_of o.process.word) o.process.word s.first;
      offered = o.offered;
    },
  )

  -- an act on a place of each kind; the process goes on by what was seen
  abbrev pub on_x : Act → (Seen → Process → Process) → Touching Item Process
  on_x a f = one (record { item = X; act = a; next = λ s. replies Accepted (f s o.process) })

  -- an act on X with which a call is answered: the reply has the count of own steps, and the process rests
  abbrev pub answering : Act → (Seen → ℕ → Reply) → (Seen → Process → Process) → Touching Item Process
  answering a r f = one (record {
    item = X;
    act = a;
    next = λ s. replies (r s (o.process.count + 1)) (rest (f s o.process));
  })

  abbrev pub on_bank : SequenceNumber → Act → (Seen → Process → Process) → Touching Item Process
  on_bank i a f = one (record { item = Bank i; act = a; next = λ s. replies Accepted (f s o.process) })

  abbrev pub on_help : ProcessNumber → Act → (Seen → Process → Process) → Touching Item Process
  on_help i a f = one (record { item = Help i; act = a; next = λ s. replies Accepted (f s o.process) })

  -- a half word of BUF[f] is read, or one of BUF[mybuf] is written from an area, at the word place
  abbrev pub reading : BufferNumber → WordStep → Touching Item Process
  reading f step = one (record { item = Half f o.process.word; act = read; next = takes step })

  abbrev pub writing : List ℕ → WordStep → Touching Item Process
  writing area step = one (record {
    item = Half o.process.mybuf o.process.word;
    act = write (half o.process.word (get_or area (word_of o.process.word) 0)) 0;
    next = λ s. replies step.reply step.process;
  })

-- Figure 2, point by point, from N, W and the own process alone: n and w stand for N and W, p is the process that
-- steps. To be held against `model`'s `stepped_in`, which it is proved equal to (`step_follows`).
unfoldable pub doing_at : Point → ℕ → ℕ → ProcessNumber → Own Process → Touching Item Process
-- an idle process is never stepped (row 6)
doing_at idle n w p o = nothing (replies o Accepted o.process)
-- Line 1: Help[p] = (1, mybuf).
doing_at line1 n w p o = on_help o p (write 1 o.process.mybuf.0) (λ s q. to line2 q)
-- Line 2: x = LL(X).
doing_at line2 n w p o = on_x o ll (λ s q. to line3 (with_x (x_seen s) q))
-- Line 3: a half word of BUF[x.buf].
doing_at line3 n w p o = reading o o.process.x.buf (do_word (halves w) line4 o.process)
-- Line 4: if LL(Help[p]) = (0, b).
doing_at line4 n w p o =
    on_help o p ll (λ s q. cond (eqb s.first 0) (to line5 (with_b (second_buffer s) q)) (to line8 q))
-- Line 5: x = LL(X).
doing_at line5 n w p o = on_x o ll (λ s q. to line6 (with_x (x_seen s) q))
-- Line 6: a half word of BUF[x.buf].
doing_at line6 n w p o = reading o o.process.x.buf (do_word (halves w) line7 o.process)
-- Line 7: if not VL(X), and then a half word of BUF[b].
doing_at line7 n w p o = on_x o vl (λ s q. cond s.linked (to line8 q) (to line7copy q))
doing_at line7copy n w p o = reading o o.process.b (do_word (halves w) line8 o.process)
-- Line 8: if LL(Help[p]) = (1, c).
doing_at line8 n w p o =
    on_help o p ll (λ s q. cond (eqb s.first 1) (to line9 (with_c (second_buffer s) q)) (to line10 q))
-- Line 9: SC(Help[p], (0, c)).
doing_at line9 n w p o = on_help o p (sc 0 o.process.c.0) (λ s q. to line10 q)
-- Line 10: mybuf = Help[p].buf.
doing_at line10 n w p o = on_help o p read (λ s q. to line11 (with_mybuf (second_buffer s) q))
-- Line 11: a half word of the return area into BUF[mybuf].
doing_at line11 n w p o = writing o o.returned (do_line11 (halves w) o.process)
-- Line 12: if LL(Bank[x.seq]) /= x.buf, and then VL(X).
doing_at line12 n w p o =
    on_bank o o.process.x.seq ll (λ s q. cond (eqb s.first q.x.buf.0) (to line14 q) (to line12valid q))
doing_at line12valid n w p o = on_x o vl (λ s q. cond s.linked (to line13 q) (to line14 q))
-- Line 13: SC(Bank[x.seq], x.buf).
doing_at line13 n w p o = on_bank o o.process.x.seq (sc o.process.x.buf.0 0) (λ s q. to line14 q)
-- Line 14: if LL(Help[x.seq mod N]) = (1, d), and then VL(X).
doing_at line14 n w p o =
    on_help o (helped n o.process.x.seq) ll
    (λ s q. cond (eqb s.first 1) (to line14valid (with_d (second_buffer s) q)) (to line17 q))
doing_at line14valid n w p o = on_x o vl (λ s q. cond s.linked (to line15 q) (to line17 q))
-- Lines 15 and 16: if SC(Help[x.seq mod N], (0, mybuf)) then mybuf = d.
doing_at line15 n w p o =
    on_help o (helped n o.process.x.seq) (sc 0 o.process.mybuf.0)
    (λ s q. to line17 (cond s.linked (with_mybuf q.d q) q))
-- Line 17: a half word of the offer area into BUF[mybuf].
doing_at line17 n w p o = writing o o.offered (do_word (halves w) line18 o.process)
-- Line 18: e = Bank[(x.seq + 1) mod 2N].
doing_at line18 n w p o = on_bank o (next n o.process.x.seq) read (λ s q. to line19 (with_e (first_buffer s) q))
-- Lines 19 to 22: if SC(X, (mybuf, (x.seq + 1) mod 2N)) then mybuf = e; the answer.
doing_at line19 n w p o =
    answering o (sc o.process.mybuf.0 (next n o.process.x.seq).0)
    (λ s k. ScAnswered s.linked k) (λ s q. cond s.linked (with_mybuf q.e q) q)
-- Line 23: return VL(X).
doing_at line23 n w p o = answering o vl (λ s k. VlAnswered s.linked k) (λ s q. q)

-- An order. "A start touches none."
unfoldable pub doing : Order → ℕ → ℕ → ProcessNumber → List ℕ → Own Process → Touching Item Process
doing StartLl n w p value o = nothing (replies o Accepted (begin line1 o.process))
doing StartSc n w p value o =
    nothing (Accepted, record { process = begin line12 o.process; returned = o.returned; offered = value })
doing StartVl n w p value o = nothing (replies o Accepted (begin line23 o.process))
doing Step n w p value o = doing_at (point_of o.process.line) n w p o

-- What it makes of a record's bench b and words ws, which lie as l says, and of its process p: the item is as the act
-- leaves it, the process goes on by what it saw, and nothing else changes.
module _ (l : Layout) (p : ProcessNumber) where
  abbrev pub bench_after : Touching Item Process → Bench → List ℕ → Bench
  bench_after (nothing out) b ws = b
  bench_after (one d) b ws = put_in_bench d.item (acted d.act p (item_in l d.item b ws)) b

  abbrev pub words_after : Touching Item Process → Bench → List ℕ → List ℕ
  words_after (nothing out) b ws = ws
  words_after (one d) b ws = put_in_words l b.w d.item (acted d.act p (item_in l d.item b ws)) ws

  abbrev pub outcome : Touching Item Process → Bench → List ℕ → Reply × Own Process
  outcome (nothing out) b ws = out
  outcome (one d) b ws = d.next (seen p (item_in l d.item b ws))

  abbrev pub effect : Touching Item Process → Bench → List ℕ → Moved × List ℕ
  effect t b ws = (
    record { bench = bench_after t b ws; process = (outcome t b ws).1.process; reply = (outcome t b ws).0 },
    put_areas l b.w p (outcome t b ws).1 (words_after t b ws),
  )
