-- `station_setup::words_at_set_up` meets its contract: one record after another, then the areas.
use mathlib.Core.Path.{◌≡◌, ap, ◌∙◌}
use Prim.Native.Nat.{◌*◌, ◌-◌}
use native.Mathlib.Omega.{arith}
use lib.ListN.{length}
use lib.Seq.{sets, length-sets}
use Rattle.model.specs.Sizes.{buffers}
use Rattle.station.specs.Station.{station_words}
use Rattle.station_setup.proofs.StationSetUpLaws.{many_areas, blocks_are, value_fits, areas_fit, block_fits}
use Rattle.station_setup.proofs.words_at_set_up.Goals as goal

pub block_at_set_up-requires : goal.block_at_set_up-requires
block_at_set_up-requires c =
    let h = c.requires in
    let same : length c.loop-j.words ≡ length c.args.words.now = ap length c.loop-j.invariant ∙ simp length-sets in
    rw c.buffers.ensures (omega (arith, block_fits h c.loop-j.j (omega arith), same), value_fits h)

pub fill-requires : goal.fill-requires
fill-requires c =
    let fit = areas_fit c.requires in
    let same : length c.loop-j.words ≡ length c.args.words.now = ap length c.loop-j.invariant ∙ simp length-sets in
    rw (c.buffers.ensures, c.station_words.ensures) (fit.0, omega (arith, fit.1, same))

pub returns : goal.returns
returns c =
    let a = c.args in
    let each = buffers a.n * a.w in
    let all : c.loop-j.j ≡ a.r = omega arith in
    let areas = many_areas each a.value.now (value_fits c.requires) a.words.now a.r (station_words a.n a.w a.r - a.r * each) in
    let are = ap (sets a.words.now 0) (blocks_are a.n a.w a.r a.value.now c.requires.value_words) in
    c.fill.ensures ∙ simp (c.station_words.ensures, c.buffers.ensures, c.loop-j.invariant, all) (areas ∙ are)
