-- A writer that is written to twice.
use Rattle.std.proofs.Common.{ℕ, List, [], ◌++◌, append_assoc, ap, sym, ◌∙◌}
use Rattle.std.proofs.lemmas.List.{append-nil}
use Rattle.std.specs.Prelude.{Option, None, Some}
use Rattle.std.specs.Io.KnownBytes.{Appends}

-- nothing is written
pub appends_none : (a : Option (List ℕ)) → Appends a a []
appends_none None = tt
appends_none (Some u) = sym (append-nil u)

-- one text after another
pub appends_on : (a b c : Option (List ℕ)) (xs ys : List ℕ) → Appends a b xs → Appends b c ys → Appends a c (xs ++ ys)
appends_on None b c xs ys h h' = tt
appends_on (Some u) None c xs ys h h' = elim h [ ]
appends_on (Some u) (Some v) None xs ys h h' = elim h' [ ]
appends_on (Some u) (Some v) (Some w) xs ys h h' = h' ∙ ap (λ l. l ++ ys) h ∙ append_assoc u xs ys
