use Rattle.std.proofs.Common.{arith, ◌≤◌, length}
use Rattle.certificate.proofs.Sorted.{sorted_from_steps}
use Rattle.certificate.proofs.instance.are_sorted.Goals as goal

pub returns-clause-yes : goal.returns-clause-yes
returns-clause-yes c yes' =
    let long : length c.args.arcs.now ≤ c.loop-i.i = omega (arith, c.loop-i-test.false) in
    sorted_from_steps c.args.arcs.now c.loop-i.i long c.loop-i.invariant
