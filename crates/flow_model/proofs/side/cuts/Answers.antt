use Rattle.std.proofs.Common.{◌≤◌}
use Rattle.std.proofs.lemmas.List.Elements.{All-weaker}
use Rattle.plan_base.specs.declared.amount.TheConstants.{MAX}
use Rattle.flow_model.specs.Instance.{IsGoodArc}
use Rattle.flow_model.proofs.Costs.{room_fits}
use Rattle.flow_model.proofs.side.cuts.Goals as goal

pub leaving_room-requires-clause-fits : goal.leaving_room-requires-clause-fits
leaving_room-requires-clause-fits c = rw c.arcs.ensures.value (room_fits c.args.side.now c.args.instance.now.arcs (All-weaker IsGoodArc (λ a. a.room ≤ MAX) (λ a h. h.most_room) _ c.arcs.ensures.bounds.ranges.good_arcs) c.arcs.ensures.bounds.ranges.few_arcs)
