-- What a message shows of a text.
use Rattle.std.specs.Prelude.{ℕ, min, List, Bool, true, ◌&&◌, cond, eqb, leb, length, get_or}
use Rattle.std.specs.List.{take_while}
use Rattle.positions.specs.Positions.{is_digit}

-- the bytes of an item that is no group (01: "a process number and directly `l`, `v`, `.`, `!`, or `s` with a number")
abbrev pub is_mark : ℕ → Bool
is_mark b = cond (eqb b 108) true (cond (eqb b 118) true (cond (eqb b 46) true (cond (eqb b 33) true (eqb b 115))))

abbrev pub in_item : ℕ → Bool
in_item b = cond (is_digit b) true (is_mark b)

-- how many such bytes stand at the front
abbrev pub item_length : List ℕ → ℕ
item_length bs = length (take_while in_item bs)

-- of an item no more than 24 bytes are shown
abbrev pub item_shown : List ℕ → ℕ
item_shown bs = min 24 (item_length bs)

-- the three bytes EF, BB, BF hex, with which some editors begin a text
abbrev pub is_order_mark : List ℕ → Bool
is_order_mark bs =
    leb 3 (length bs) && (eqb (get_or bs 0 0) 239 && (eqb (get_or bs 1 0) 187 && eqb (get_or bs 2 0) 191))
