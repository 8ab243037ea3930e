use Rattle.flow_solver.specs.Turned.{turned, against}
use Rattle.flow_solver.proofs.Queues.{queue_bound}
use Rattle.flow_solver.proofs.Carried.{meeting_turned}
use Rattle.flow_solver.proofs.meeting.expand_one.Goals as goal

pub returns-then-is_empty-clause-two : goal.returns-then-is_empty-clause-two
returns-then-is_empty-clause-two c =
    let after = c.in_ok-expand.ensures in
    let two = c.requires.two in
    record {
      tree = after.tree;
      heap = after.heap;
      queue = after.queue;
      back = two.back;
      back_heap = two.back_heap;
      back_queue = queue_bound (turned c.args.residual.now) (against c.args.potentials.now) _ _ _ _ after.best two.back_queue;
      meeting = after.meeting;
    }

pub returns-then-source-destination-clause-two : goal.returns-then-source-destination-clause-two
returns-then-source-destination-clause-two c =
    let after = c.in_ok-expand-2.ensures in
    let two = c.requires.two in
    record {
      tree = after.tree;
      heap = after.heap;
      queue = after.queue;
      back = two.back;
      back_heap = two.back_heap;
      back_queue = queue_bound (turned c.args.residual.now) (against c.args.potentials.now) _ _ _ _ after.best two.back_queue;
      meeting = after.meeting;
    }

pub returns-clause-two : goal.returns-clause-two
returns-clause-two c =
    let after = c.in_ok-expand-3.ensures in
    let two = c.requires.two in
    record {
      tree = two.tree;
      heap = two.heap;
      queue = queue_bound c.args.residual.now c.args.potentials.now _ _ _ _ after.best two.queue;
      back = after.tree;
      back_heap = after.heap;
      back_queue = after.queue;
      meeting = meeting_turned _ _ _ _ _ after.meeting;
    }
