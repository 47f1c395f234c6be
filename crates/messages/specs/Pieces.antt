-- What a message shows, piece by piece. Which pieces tell of a refusal is not said here.
use Rattle.std.specs.Prelude.{ℕ, List, flat_map}
use Rattle.listing.specs.Decimal.{decimal}
use Rattle.messages.specs.declared.pieces.Piece.{Piece}
use Rattle.messages.specs.declared.pieces.Piece.TheVariants.{Text, Number, Byte, Call}
use Rattle.messages.specs.OpenLines.{told_text}
use Rattle.saying.specs.Told.{byte_name}

-- bytes as they stand, a number in decimal, a byte by its name, an open call in its words
abbrev pub piece_text : Piece → List ℕ
piece_text (Text bytes) = bytes.now
piece_text (Number n) = decimal n
piece_text (Byte b) = byte_name b.0
piece_text (Call t) = told_text t

-- "refused 10: line 3, column 14: ": the pieces one after another
abbrev pub pieces_text : List Piece → List ℕ
pieces_text = flat_map piece_text
