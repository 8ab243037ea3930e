use Rattle.std.proofs.Common.{heap_items}
use Rattle.flow_solver.proofs.Carried.{met_from_queues}
use Rattle.flow_solver.proofs.meeting.meet.Goals as goal

pub returns-in-Some-clause-met : goal.returns-in-Some-clause-met
returns-in-Some-clause-met c =
    let two = c.loop-radius.invariant.two in
    met_from_queues c.args.residual.now c.args.potentials.now c.loop-radius.source.labels c.loop-radius.destination.labels c.loop-radius.source.parents.items c.loop-radius.destination.parents.items (heap_items c.loop-radius.source.heap) (heap_items c.loop-radius.destination.heap) c.loop-radius.meeting.best c.loop-radius.meeting.node c.in-Some.radius c.requires.residual two.tree two.back two.queue two.back_queue two.meeting c.in-Some.ensures.most c.in-Some.ensures.source c.in-Some.ensures.destination
