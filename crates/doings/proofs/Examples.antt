-- The items that Figure 2 names, by computation, at N = 2 and W = 1: process 0 steps, with x = (5, 3) and mybuf 4.
use mathlib.Core.Path.{◌≡◌, refl}
use mathlib.Core.Bool.{true, false}
use mathlib.Core.List.{List, [], ◌∷◌, map}
use Prim.Native.Nat.{ℕ}
use Rattle.llsc.specs.declared.ProcessNumber.{ProcessNumber}
use Rattle.model.specs.declared.Process.{Process}
use Rattle.model.specs.Words.{one_record}
use Rattle.model.specs.Points.{Point, busy_points, line1, line3, line7, line7copy, line11, line12, line12valid, line13, line14, line15, line17, line18, line19}
use Rattle.doings.specs.declared.Item.{Item}
use Rattle.doings.specs.declared.Item.TheVariants.{X, Bank, Help, Half}
use Rattle.doings.specs.Own.{own_in}
use Rattle.doings.specs.Doings.{Act, read, ll, vl, sc, write, looks, Touching, nothing, one, Touches, doing_at}

abbrev p : ProcessNumber
p = record { 0 = 0 }

-- the second half of a word is next
abbrev q : Process
q = record {
  mybuf = record { 0 = 4 };
  x = record { buf = record { 0 = 5 }; seq = record { 0 = 3 } };
  line = 0;
  word = 1;
  count = 0;
  answered = true;
  b = record { 0 = 2 };
  c = record { 0 = 0 };
  d = record { 0 = 1 };
  e = record { 0 = 0 };
}

-- six buffers, the return areas of 0 and 1, the offer areas of 0 and 1; the high halves are 7 and 8 in process 0's
abbrev words : List ℕ
words = 0 ∷ 0 ∷ 0 ∷ 0 ∷ 0 ∷ 0 ∷ 30064771072 ∷ 0 ∷ 34359738368 ∷ 0 ∷ []

abbrev does : Point → Touching Item Process
does y = doing_at y 2 1 p (own_in (one_record 2) 1 p q words)

abbrev brings : Act → Touching Item Process → Type 0
brings a (nothing out) = ⊥
brings a (one d) = d.act ≡ a

-- Help[p], Help[3 mod 2], Bank[3], Bank[4 mod 4], X
line_1 : Touches (does line1) (Help (record { 0 = 0 }))
unfolding doing_at
line_1 = refl

line_14 : Touches (does line14) (Help (record { 0 = 1 }))
unfolding doing_at
line_14 = refl

line_15 : Touches (does line15) (Help (record { 0 = 1 }))
unfolding doing_at
line_15 = refl

line_12 : Touches (does line12) (Bank (record { 0 = 3 }))
unfolding doing_at
line_12 = refl

line_13 : Touches (does line13) (Bank (record { 0 = 3 }))
unfolding doing_at
line_13 = refl

line_18 : Touches (does line18) (Bank (record { 0 = 0 }))
unfolding doing_at
line_18 = refl

line_7 : Touches (does line7) X
unfolding doing_at
line_7 = refl

line_12_valid : Touches (does line12valid) X
unfolding doing_at
line_12_valid = refl

line_19 : Touches (does line19) X
unfolding doing_at
line_19 = refl

-- half words of BUF[x.buf], BUF[b] and BUF[mybuf]
line_3 : Touches (does line3) (Half (record { 0 = 5 }) 1)
unfolding doing_at
line_3 = refl

line_7_copy : Touches (does line7copy) (Half (record { 0 = 2 }) 1)
unfolding doing_at
line_7_copy = refl

line_11 : Touches (does line11) (Half (record { 0 = 4 }) 1)
unfolding doing_at
line_11 = refl

-- line 11 brings the return area's half, line 17 the offer area's
line_11_brings : brings (write 7 0) (does line11)
unfolding doing_at
line_11_brings = refl

line_17_brings : brings (write 8 0) (does line17)
unfolding doing_at
line_17_brings = refl

-- the kind of an act, by a number: 1 a read, 2 an LL, 3 a VL, 4 an SC, 5 a write; 0 where nothing is touched
abbrev kind_of : Act → ℕ
kind_of read = 1
kind_of ll = 2
kind_of vl = 3
kind_of (sc v u) = 4
kind_of (write v u) = 5

abbrev kind_in : Touching Item Process → ℕ
kind_in (nothing out) = 0
kind_in (one d) = kind_of d.act

-- Figure 2's own words for lines 1 to 15, 17, 18, 19 and 23, then the copy of line 7 and the VL(X) of lines 12 and 14
acts : map (λ (y : Point). kind_in (does y)) busy_points
    ≡ 5 ∷ 2 ∷ 1 ∷ 2 ∷ 2 ∷ 1 ∷ 3 ∷ 2 ∷ 4 ∷ 1 ∷ 5 ∷ 2 ∷ 4 ∷ 2 ∷ 4 ∷ 5 ∷ 1 ∷ 4 ∷ 3 ∷ 1 ∷ 3 ∷ 3 ∷ []
unfolding doing_at
acts = refl

-- "LL (its own link apart), VL and plain reads only look"
who_looks : map looks (read ∷ ll ∷ vl ∷ sc 0 0 ∷ write 0 0 ∷ []) ≡ true ∷ true ∷ true ∷ false ∷ false ∷ []
who_looks = refl
