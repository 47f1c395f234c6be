-- The words that name a call in a message.
use Rattle.std.specs.Prelude.{ℕ, ◌++◌, List, cond, eqb, codes}
use Rattle.std.specs.Fmt.{decimal}
use Rattle.judging.specs.declared.heads.Head.{Head}

-- CR 1's kinds of calls; one of another kind is told as a call
abbrev pub kind_text : ℕ → List ℕ
kind_text k = cond (eqb k 1) (codes "LL") (cond (eqb k 2) (codes "SC") (cond (eqb k 3) (codes "VL") (codes "call")))

-- "process 1's LL"
abbrev pub name_text : Head → List ℕ
name_text c = codes "process " ++ decimal c.process ++ codes "'s " ++ kind_text c.kind

-- "process 1's LL from 2048 to 9216"
abbrev pub span_text : Head → List ℕ
span_text c = name_text c ++ codes " from " ++ decimal c.start ++ codes " to " ++ decimal c.answer
