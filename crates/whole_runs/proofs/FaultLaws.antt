-- A fault of a text is 10 or 11, so that its number fits the last line.
use mathlib.Core.Path.{ap}
use mathlib.Core.Bool.{Bool, true, false, cond}
use mathlib.Core.List.{List, [], ◌∷◌, ◌++◌}
use Prim.Native.Nat.{ℕ, zero, suc, ◌≤◌}
use native.Mathlib.Omega.{arith}
use lib.ListN.{length, drop}
use Rattle.notation.specs.declared.Entry.{Entry}
use Rattle.notation.specs.Bytes.{kind_of}
use Rattle.notation.specs.Grammar.{count_ok, times}
use Rattle.notation.specs.Scan.{Mode, between, num, offer, offer_num, done, Move, to, enter, leave, bad, move, said, Frame, Verdict, end, shut, fault, at_end, go, scan}
use Rattle.notation.specs.Groups.{ItemsBroken}

-- the number of a fault, 0 for none
abbrev number_in : Verdict → ℕ
number_in (end es) = 0
number_in (shut es l) = 0
number_in (fault k left) = k

end_small : (m : Mode) (stack : List Frame) (es : List Entry) → number_in (at_end m stack es) ≤ 11
unfolding at_end
end_small (between e) [] es = omega arith
end_small (num v) [] es = omega arith
end_small (offer p) [] es = omega arith
end_small (offer_num p v) [] es = omega arith
end_small done [] es = omega arith
end_small m (f ∷ stack) es = omega arith

opened_small : (t : Bool) (v : Verdict) (left : ℕ) → number_in v ≤ 11 → number_in (cond t v (fault 10 left)) ≤ 11
opened_small true v left h = h
opened_small false v left h = omega arith

go_small : (k : Mode → List Frame → List Entry → ℕ → Verdict) (l : List ℕ) (mv : Move) (stack : List Frame) (es : List Entry) (room : ℕ)
    → ((m : Mode) (stack : List Frame) (es : List Entry) (room : ℕ) → number_in (k m stack es room) ≤ 11) → number_in (go k l mv stack es room) ≤ 11
unfolding go
go_small k l (to m) stack es room h = h m stack es room
go_small k l (enter n) stack es zero h = opened_small (count_ok n) (fault 11 (suc (length l))) (suc (length l)) (omega arith)
go_small k l (enter n) stack es (suc r) h =
    opened_small (count_ok n) (k (between false) (record { count = n; before = es; room = suc r } ∷ stack) [] r)
    (suc (length l)) (h (between false) (record { count = n; before = es; room = suc r } ∷ stack) [] r)
go_small k l leave [] es room h = omega arith
go_small k l leave (f ∷ stack) es room h = h done stack (f.before ++ times f.count es) f.room
go_small k l bad stack es room h = omega arith

scan_small : (l : List ℕ) (m : Mode) (stack : List Frame) (es : List Entry) (room : ℕ) → number_in (scan l m stack es room) ≤ 11
unfolding scan
scan_small [] m stack es room = end_small m stack es
scan_small (b ∷ l) m stack es room = go_small (scan l) l (move m (kind_of b)) stack (es ++ said m (kind_of b)) room (λ m stack es room. scan_small l m stack es room)

pub broken_small : {s : List ℕ} {at d k place : ℕ} → ItemsBroken s at d k place → k ≤ 15
broken_small {s} {at} {d} b = omega (arith, ap number_in b.same, scan_small (drop at s) (between false) [] [] d)
