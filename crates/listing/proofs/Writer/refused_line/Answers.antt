-- `listing::Writer::refused_line`: its parts, one after another.
use Rattle.std.proofs.Common.{rules}
use Rattle.listing.specs.Lines.{refused_line}
use Rattle.listing.proofs.WritingLaws.{writes_then}
use Rattle.listing.proofs.Writer.refused_line.Goals as goal

pub returns : goal.returns
unfolding refused_line
returns c = search (rules, writes_then)
