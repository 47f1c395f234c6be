-- `notation::reader::Reader::begin`: a number, and what the byte after it makes of it.
use Rattle.std.specs.Prelude.{Ok}
use mathlib.Core.Path.{refl, sym, ◌∙◌}
use Rattle.notation.proofs.ReaderLaws.{item_signed}
use Rattle.notation.proofs.reader.Reader.begin.Goals as goal

pub returns-in-Marked : goal.returns-in-Marked
returns-in-Marked c =
    let n = c.in_ok-v.ensures in
    rw c.entry_of.ensures (record { same = n.same; says = item_signed n.same n.says c.in_ok-sign.ensures c.in-Marked.is refl })

pub returns-in_ok-k-in-Offer : goal.returns-in_ok-k-in-Offer
returns-in_ok-k-in-Offer c =
    let n = c.in_ok-v.ensures in
    let k = c.in_ok-k-in-Offer.ensures in
    record { same = k.same ∙ n.same; says = item_signed n.same n.says c.in_ok-sign.ensures c.in-Offer.is (record { number = Ok (_, _); is = k.says; same = refl }) }

pub returns-else-not-is_count : goal.returns-else-not-is_count
returns-else-not-is_count c =
    let n = c.in_ok-v.ensures in
    let few = sym c.is_count.ensures ∙ c.if-not-is_count.false in
    record { same = n.same; says = item_signed n.same n.says c.in_ok-sign.ensures c.in-Open.is (simp few) }
