-- `listing::Writer::words`: the words passed are written.
use native.Mathlib.Omega.{arith}
use Rattle.listing.proofs.LineLaws.{word_written}
use Rattle.listing.proofs.Writer.words.Goals as goal

pub loop-word-preserved : goal.loop-word-preserved
loop-word-preserved c = word_written _ _ (omega arith) c.loop-word.invariant c.put.ensures c.number.ensures
