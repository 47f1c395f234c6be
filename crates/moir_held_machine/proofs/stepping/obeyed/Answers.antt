-- `moir_held_machine::stepping::obeyed` meets its contract: what no row refuses can be obeyed.
use Prim.Native.Nat.{◌<◌}
use native.Mathlib.Omega.{arith}
use Rattle.moir_held_rows.proofs.NearRowLaws.{near_admits}
use Rattle.moir_held_machine.proofs.ObeyLaws.{p_in}
use Rattle.moir_held_machine.proofs.SteppingLaws.{step_done}
use Rattle.moir_held_machine.proofs.stepping.obeyed.Goals as goal

pub obey-reply-requires : goal.obey-reply-requires
obey-reply-requires c = let a = c.args in near_admits a.held.now a.p a.order a.value.now c.requires

pub overflow_cast-p : goal.overflow_cast-p
overflow_cast-p c =
    let a = c.args in
    let z : a.p < 16 = p_in a.held.now a.p a.order a.value.now (near_admits a.held.now a.p a.order a.value.now c.requires) in
    omega (arith, z)

pub told-requires : goal.told-requires
told-requires c =
    let a = c.args in
    let z = near_admits a.held.now a.p a.order a.value.now c.requires in
    rw (c.size_at-n.ensures, c.size_at-w.ensures) (z.list.n_high, (z.list.w_high, p_in a.held.now a.p a.order a.value.now z))

pub returns : goal.returns
returns c =
    step_done c.obey-reply.result c.requires c.obey-reply.ensures.done (rw (c.size_at-n.ensures, c.size_at-w.ensures) at c.told.ensures) c.obey-reply.ensures.marks
