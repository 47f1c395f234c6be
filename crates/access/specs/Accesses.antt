-- The access that a trace shows of a step: what the step does (`doing_at` of crate `doings`, which reads Figure 2), told
-- with the values that its item holds.
use Rattle.std.specs.Prelude.{ℕ, List, false}
use Rattle.llsc.specs.declared.ProcessNumber.{ProcessNumber}
use Rattle.model.specs.declared.Bench.{Bench}
use Rattle.model.specs.declared.Process.{Process}
use Rattle.model.specs.Words.{one_record}
use Rattle.model.specs.Points.{Point, idle, line1, line2, line3, line4, line5, line6, line7, line7copy, line8, line9, line10, line11}
use Rattle.model.specs.Points.{line12, line12valid, line13, line14, line14valid, line15, line17, line18, line19, line23}
use Rattle.doings.specs.declared.Item.{Item}
use Rattle.doings.specs.declared.Item.TheVariants.{X, Bank, Help, Half}
use Rattle.doings.specs.Items.{item_at}
use Rattle.doings.specs.Own.{own_in}
use Rattle.doings.specs.Doings
use Rattle.doings.specs.Doings.{read, ll, vl, sc, write, Seen, seen, Touching, nothing, one, doing_at}
use Rattle.access.specs.declared.Values.{Values}
use Rattle.access.specs.declared.Values.TheVariants as of
use Rattle.access.specs.declared.Act.{Act}
use Rattle.access.specs.declared.Act.TheVariants.{Read, Write, Ll, Sc, Vl}
use Rattle.access.specs.declared.Access.{Access}

-- The item with the values v and u: X and a place of Help have both, a place of Bank and a half word the first alone.
abbrev pub values_of : Item → ℕ → ℕ → Values
values_of X v u = of.X (record { buf = record { 0 = v }; seq = record { 0 = u } })
values_of (Bank i) v u = of.Bank i (record { 0 = v })
values_of (Help i) v u = of.Help i (record { flag = v; buf = record { 0 = u } })
values_of (Half f k) v u = of.Half f k v

-- the item alone, and that of an act
abbrev pub item_with : Values → Item
item_with (of.X v) = X
item_with (of.Bank i v) = Bank i
item_with (of.Help i v) = Help i
item_with (of.Half f k v) = Half f k

abbrev pub item_of : Act → Item
item_of (Read v) = item_with v
item_of (Write v) = item_with v
item_of (Ll v) = item_with v
item_of (Sc t v) = item_with v
item_of (Vl t i) = i

-- the act, with the values read, or those brought; a VL names none. It tells the own link, and so does an SC, which
-- writes if it is set.
abbrev pub shown_act : Item → Doings.Act → Seen → Act
shown_act i read s = Read (values_of i s.first s.second)
shown_act i ll s = Ll (values_of i s.first s.second)
shown_act i vl s = Vl s.linked i
shown_act i (sc v u) s = Sc s.linked (values_of i v u)
shown_act i (write v u) s = Write (values_of i v u)

-- p does t, from the bench b and the words ws, at this line of Figure 2; what stands for no access is a VL(X) of no
-- line
abbrev pub shown : ℕ → ProcessNumber → Touching Item Process → Bench → List ℕ → Access
shown line p (nothing out) b ws = record { line = 0; act = Vl false X }
shown line p (one d) b ws = record { line = line; act = shown_act d.item d.act (seen p (item_at d.item b ws)) }

-- the paper's number of a point's line
abbrev pub paper_line : Point → ℕ
paper_line idle = 0
paper_line line1 = 1
paper_line line2 = 2
paper_line line3 = 3
paper_line line4 = 4
paper_line line5 = 5
paper_line line6 = 6
paper_line line7 = 7
paper_line line7copy = 7
paper_line line8 = 8
paper_line line9 = 9
paper_line line10 = 10
paper_line line11 = 11
paper_line line12 = 12
paper_line line12valid = 12
paper_line line13 = 13
paper_line line14 = 14
paper_line line14valid = 14
paper_line line15 = 15
paper_line line17 = 17
paper_line line18 = 18
paper_line line19 = 19
paper_line line23 = 23

-- what a step of p at the point y does: b is the bench, q p's record, ws the lent words
abbrev pub doing_now : Point → ProcessNumber → Bench → Process → List ℕ → Touching Item Process
doing_now y p b q ws = doing_at y b.n b.w p (own_in (one_record b.n) b.w p q ws)

unfoldable pub access_of : Point → ProcessNumber → Bench → Process → List ℕ → Access
access_of y p b q ws = shown (paper_line y) p (doing_now y p b q ws) b ws
