-- What a byte is to the notation, and what a mark orders.
use Rattle.std.specs.Prelude.{ℕ, ◌-◌, Bool, true, false, cond, eqb, leb}
use Rattle.listing.specs.Quoted.{byte}
use Rattle.notation.specs.declared.Mark.{Mark}
use Rattle.notation.specs.declared.Mark.TheVariants.{Ll, Vl, One, All}
use Rattle.notation.specs.declared.Kind.{Kind}
use Rattle.notation.specs.declared.Kind.TheVariants.{Digit, Gap, Marked, Offer, Open, Close, Other}
use Rattle.notation.specs.declared.Entry.{Entry}
use Rattle.notation.specs.declared.Entry.TheVariants.{StartLl, StartVl, Step, Finish}

-- 01: "one space between"
abbrev pub space : ℕ
space = byte " "

-- 01: "then a line feed"
abbrev pub line_feed : ℕ
line_feed = byte "\n"

-- a decimal digit, a space or line feed, one of `l` `v` `.` `!`, `s`, `(`, `)`, or none of these
unfoldable pub kind_of : ℕ → Kind
kind_of b =
    cond (leb (byte "0") b) (cond (leb b (byte "9")) (Digit (b - byte "0"))
    (cond (eqb b (byte "l")) (Marked Ll) (cond (eqb b (byte "v")) (Marked Vl) (cond (eqb b (byte "s")) Offer Other))))
    (cond (eqb b space) Gap (cond (eqb b line_feed) Gap (cond (eqb b (byte ".")) (Marked One) (cond (eqb b (byte "!")) (Marked All)
    (cond (eqb b (byte "(")) Open (cond (eqb b (byte ")")) Close Other))))))

abbrev pub is_digit : Kind → Bool
is_digit (Digit d) = true
is_digit Gap = false
is_digit (Marked m) = false
is_digit Offer = false
is_digit Open = false
is_digit Close = false
is_digit Other = false

abbrev pub is_gap : Kind → Bool
is_gap (Digit d) = false
is_gap Gap = true
is_gap (Marked m) = false
is_gap Offer = false
is_gap Open = false
is_gap Close = false
is_gap Other = false

-- 01: "a process number and directly `l`, `v`, `.`, `!`"; "`.` is one step; `!` is steps until the call answers"
abbrev pub entry_of : Mark → ℕ → Entry
entry_of Ll p = StartLl p
entry_of Vl p = StartVl p
entry_of One p = Step p
entry_of All p = Finish p
