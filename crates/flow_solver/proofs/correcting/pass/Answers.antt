use Rattle.std.proofs.Common.{ap, arith, length}
use Rattle.flow_model.specs.declared.instance.Arc.{Arc}
use Rattle.flow_solver.proofs.Tries.{pass_settled}
use Rattle.flow_solver.proofs.correcting.pass.Goals as goal

pub returns-clause-settled : goal.returns-clause-settled
returns-clause-settled c f = pass_settled c.args.residual.now c.args.potentials.now c.args.labels.now c.loop-i.labels c.loop-i.parents c.loop-i.changed c.loop-i.i c.loop-i.invariant (let h = ap (length {A = Arc}) c.arcs.ensures.value in let t = c.loop-i-test.false in let l = c.arcs.ensures.bounds.good.ranges.few_arcs in omega (arith, h, t, l)) f
