-- `listing::Writer::words`: the words passed are written.
use lib.ListN.{take}
use Rattle.listing.specs.Lines.{words_of}
use Rattle.listing.specs.Writing.{Writes}
use Rattle.listing.proofs.Writer.words.Given as goal

abbrev pub invariant-loop-word : goal.invariant-loop-word
invariant-loop-word l = Writes l.initial.self (words_of (take l.word-index l.ws)) l.self
