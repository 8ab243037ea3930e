use Rattle.std.proofs.Common.{ap, false}
use Rattle.std.specs.Prelude.{set, slice_index_or}
use Rattle.flow_model.specs.Instance.{no_arc}
use Rattle.residual_net.proofs.Pushed.{pushing_turn, pushing_room, room_forward, room_backward}
use Rattle.flow_solver.proofs.flow_net.push_steps.Goals as goal

pub moved-requires-clause-forward : goal.moved-requires-clause-forward
moved-requires-clause-forward c =
    let h = pushing_room _ _ _ _ _ _ (0, false) c.loop-step-test.true c.loop-step.invariant in
    room_forward _ _ _ _ h.1 (c.requires.rooms _ no_arc h.0) (c.type_inv.flow _).fits

pub moved-requires-clause-backward : goal.moved-requires-clause-backward
moved-requires-clause-backward c =
    let h = pushing_room _ _ _ _ _ _ (0, false) c.loop-step-test.true c.loop-step.invariant in
    room_backward _ _ _ _ h.1

pub loop-step-preserved : goal.loop-step-preserved
loop-step-preserved c = pushing_turn _ _ _ _ _ _ _ (0, false) c.loop-step-test.true (ap (set c.loop-step.flow (slice_index_or c.args.path.now c.loop-step.step-index (0, false)).0) c.moved.ensures) c.loop-step.invariant
