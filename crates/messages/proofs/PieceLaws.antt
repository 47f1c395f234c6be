-- A message's pieces, one after another, and two messages by computation.
use Rattle.std.proofs.Common.{◌≡◌, refl, ℕ, ◌+◌, ◌<◌, List, [], ◌∷◌, ◌++◌, length, take, get_or, ap, sym, ◌∙◌}
use Rattle.std.proofs.lemmas.List.{take_more, flat_map_more}
use Rattle.std.specs.Borrow.{Bor}
use Rattle.std.specs.Fmt.{digits as Fmt·digits}
use Rattle.std.specs.Prelude.{Some, codes}
use Rattle.listing.specs.Decimal.{digits, decimal}
use Rattle.llsc.specs.declared.calls.CallKind.TheVariants.{Ll}
use Rattle.messages.specs.declared.calls.Figure.TheVariants.{Two}
use Rattle.messages.specs.declared.calls.Moves.TheVariants.{Halves}
use Rattle.messages.specs.declared.pieces.Piece.{Piece}
use Rattle.messages.specs.declared.pieces.Piece.TheVariants.{Text, Number, Byte, Call}
use Rattle.messages.specs.Pieces.{piece_text, pieces_text}
use Rattle.messages.proofs.Appending.{appends_none, appends_on}

-- one piece more
pub pieces_on : (ps : List Piece) (i : ℕ) (d : Piece) → i < length ps
    → pieces_text (take (i + 1) ps) ≡ pieces_text (take i ps) ++ piece_text (get_or ps i d)
pieces_on ps i d h =
    ap pieces_text (take_more ps i d h) ∙ sym (flat_map_more piece_text [] (take i ps) (get_or ps i d))

-- what `say` rests on
pub ruleset piece_laws = (appends_none, appends_on, pieces_on)

-- bytes that are lent
abbrev lent : List ℕ → Bor (List ℕ)
lent bytes = record { ref_ptr = (0, 0); now = bytes }

-- words, a number and a byte
fault : pieces_text (Text (lent (codes "refused ")) ∷ Number 10 ∷ Text (lent (codes "; here is ")) ∷ Byte (record { 0 = 9 }) ∷ [])
    ≡ codes "refused 10; here is a tab"
unfolding decimal digits
fault = refl

-- an open call
busy : pieces_text (Text (lent (codes " is busy: "))
    ∷ Call (record { call = record { kind = Ll; line = 3; moves = Some Halves; place = 0; count = 2 }; method = record { figure = Two; w = 1 } }) ∷ [])
    ≡ codes " is busy: LL, line 3 of Figure 2, word 0 of 1, low half next, 2 own steps so far"
unfolding Fmt·digits
busy = refl
