-- The lines of open calls, one after another.
use Rattle.std.proofs.Common.{◌≡◌, ℕ, ◌+◌, ◌<◌, List, [], ◌∷◌, ◌++◌, length, take, get_or, arith, append_assoc, ap, sym, ◌∙◌}
use Rattle.std.proofs.lemmas.List.{append-nil, take_more}
use Rattle.std.proofs.Math.ListN.{length-take}
use Rattle.std.specs.Prelude.{Option}
use Rattle.messages.specs.declared.calls.Call.{Call}
use Rattle.messages.specs.declared.calls.Method.{Method}
use Rattle.messages.specs.OpenLines.{open_line, open_lines}
use Rattle.messages.proofs.Appending.{appends_none, appends_on}

-- one line more
pub lines_more : (m : Method) (p : ℕ) (cs : List (Option Call)) (c : Option Call)
    → open_lines m p (cs ++ (c ∷ [])) ≡ open_lines m p cs ++ open_line m (p + length cs) c
unfolding open_lines
lines_more m p [] c = append-nil (open_line m p c) ∙ ap (λ k. open_line m k c) (omega arith)
lines_more m p (x ∷ cs) c =
    ap (λ l. open_line m p x ++ l) (lines_more m (p + 1) cs c)
    ∙ ap (λ k. open_line m p x ++ (open_lines m (p + 1) cs ++ open_line m k c)) (omega arith)
    ∙ sym (append_assoc (open_line m p x) (open_lines m (p + 1) cs) (open_line m (p + length (x ∷ cs)) c))

-- the line of one process more
pub lines_on : (m : Method) (cs : List (Option Call)) (i : ℕ) (d : Option Call) → i < length cs
    → open_lines m 0 (take (i + 1) cs) ≡ open_lines m 0 (take i cs) ++ open_line m i (get_or cs i d)
lines_on m cs i d h =
    let all : 0 + length (take i cs) ≡ i = simp length-take (omega arith) in
    ap (open_lines m 0) (take_more cs i d h)
    ∙ lines_more m 0 (take i cs) (get_or cs i d)
    ∙ ap (λ k. open_lines m 0 (take i cs) ++ open_line m k (get_or cs i d)) all

-- what `open_below` rests on
pub ruleset below_laws = (appends_none, appends_on, lines_on)
