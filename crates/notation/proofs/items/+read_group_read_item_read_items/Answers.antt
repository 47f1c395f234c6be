-- `notation::items::read_group`, `read_item` and `read_on`: each entry read is kept.
use mathlib.Core.Path.{refl, ◌∙◌}
use Rattle.notation.proofs.PlaceLaws.{places_skip, places_none, places_more, places_closed, places_ended}
use Rattle.notation.proofs.ItemLaws.{begun_as, follows_as}
use Rattle.notation.proofs.GroupLaws.{none_yet, no_items, items_end, items_shut, items_on}
use Rattle.notation.proofs.ItemsLaws.{items_as, keeps_none, keeps_once, keeps_then, keeps_turns}
use Rattle.notation.proofs.CursorLaws.{kept_to, ends_in, here_in, item_in, follow_in}
use Rattle.notation.proofs.items.+read_group_read_item_read_items.Goals as goal

pub read_group-returns-in-Closed : goal.read_group-returns-in-Closed
read_group-returns-in-Closed t c =
    let x = c.in_ok-first.ensures in
    let y = kept_to x.stand c.in-Closed.is (items_as x.says c.in-Closed.is) in
    let r = c.repeat.ensures in
    record {
      stay = record { text = x.stay.text; list = r.same ∙ x.stay.list };
      says = record { is = λ at b. record { is = keeps_turns _ c.args.entries.now.inside b y c.if-depth-eq0.false r.repeated } };
    }

pub read_item-returns-in-Some-Single : goal.read_item-returns-in-Some-Single
read_item-returns-in-Some-Single t c =
    let x = c.in-Some-Single.ensures in
    let once = begun_as c.requires.0 x.says.begins c.in-Some-Single.field-0-is in
    let k = c.keep.ensures in
    record { stay = record { text = x.same; list = k.same }; says = record { is = keeps_once _ once k.lists } }

pub read_on-returns-then-reader : goal.read_on-returns-then-reader
read_on-returns-then-reader t c =
    let k = c.skip.ensures in
    let l = ends_in k.same c.if-reader.true in
    record {
      stay = record { text = k.same; list = refl };
      says = record { are = keeps_none c.args.entries.now.inside (no_items _ k.skipped l) (places_none k.skipped l) };
      stand = tt;
    }

pub read_on-loop-reader-init : goal.read_on-loop-reader-init
read_on-loop-reader-init t c =
    let k = c.skip.ensures in
    let l = here_in k.same c.if-reader.false in
    record { stay = record { text = k.same; list = refl }; keeps = keeps_none c.args.entries.now.inside (none_yet _ k.skipped l) (places_skip k.skipped) }

pub read_on-loop-reader-preserved : goal.read_on-loop-reader-preserved
read_on-loop-reader-preserved t c =
    let i = c.loop-reader.invariant in
    let x = c.in_ok-read_item.ensures in
    let y = c.in-Some-Item.ensures in
    let s = x.stay.text ∙ i.stay.text in
    let w = follows_as (follow_in s y.says) c.in-Some-Item.field-0-is in
    record {
      stay = record { text = y.same ∙ s; list = x.stay.list ∙ i.stay.list };
      keeps = keeps_then c.args.entries.now.inside i.keeps (item_in i.stay.text x.says).is (λ es fs f j. items_on f j w) (λ ps qs f j. places_more f j w.places);
    }

pub read_on-returns-in-Some-End : goal.read_on-returns-in-Some-End
read_on-returns-in-Some-End t c =
    let i = c.loop-reader.invariant in
    let x = c.in_ok-read_item.ensures in
    let y = c.in-Some-End.ensures in
    let s = x.stay.text ∙ i.stay.text in
    let w = follows_as (follow_in s y.says) c.in-Some-End.field-0-is in
    record {
      stay = record { text = y.same ∙ s; list = x.stay.list ∙ i.stay.list };
      says = record { are = keeps_then c.args.entries.now.inside i.keeps (item_in i.stay.text x.says).is (λ es fs f j. items_end f j w) (λ ps qs f j. places_ended f j w.places) };
      stand = tt;
    }

pub read_on-returns-in-Some-Shut : goal.read_on-returns-in-Some-Shut
read_on-returns-in-Some-Shut t c =
    let i = c.loop-reader.invariant in
    let x = c.in_ok-read_item.ensures in
    let y = c.in-Some-Shut.ensures in
    let s = x.stay.text ∙ i.stay.text in
    let w = follows_as (follow_in s y.says) c.in-Some-Shut.field-0-is in
    record {
      stay = record { text = y.same ∙ s; list = x.stay.list ∙ i.stay.list };
      says = record { are = keeps_then c.args.entries.now.inside i.keeps (item_in i.stay.text x.says).is (λ es fs f j. items_shut f j w) (λ ps qs f j. places_closed f j w.places) };
      stand = (refl, refl);
    }
