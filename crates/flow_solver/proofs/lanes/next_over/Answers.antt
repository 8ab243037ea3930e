use Rattle.std.proofs.Common.{ap, sym, subst, subst₂}
use Rattle.flow_solver.specs.Heads.{HasNoNext, IsOnlyNext}
use Rattle.flow_solver.specs.Lanes.{first_of}
use Rattle.flow_solver.specs.Meeting.{IsStepOf}
use Rattle.flow_solver.specs.declared.steps.NextStep.{NextStep}
use Rattle.flow_solver.proofs.Fitting.{first_step_is, unused_none}
use Rattle.flow_solver.proofs.lanes.next_over.Goals as goal

pub returns-then-back-clause-none : goal.returns-then-back-clause-none
returns-then-back-clause-none c =
    let residual = c.args.residual.now in
    subst (HasNoNext residual.net.arcs residual.flow (first_of residual.net.arcs c.args.lane.first)) (sym c.if-back.true) (unused_none residual c.args.node c.args.lane c.arcs-arcs.ensures.bounds c.requires.order c.requires.lane c.if-lane.false)

pub returns-clause-step : goal.returns-clause-step
returns-clause-step c = subst (IsStepOf c.args.residual.now) (sym c.first_step.ensures) (first_step_is c.args.residual.now c.args.node c.args.lane c.arcs-arcs.ensures.bounds c.requires.order c.requires.lane c.if-lane.false).0

pub returns-clause-only : goal.returns-clause-only
returns-clause-only c =
    let residual = c.args.residual.now in
    subst₂ (λ b i. IsOnlyNext residual.net.arcs residual.flow (first_of residual.net.arcs c.args.lane.first) b i) (sym c.if-back.false) (sym (ap (λ (s : NextStep). s.arc) c.first_step.ensures)) (first_step_is residual c.args.node c.args.lane c.arcs-arcs.ensures.bounds c.requires.order c.requires.lane c.if-lane.false).1
