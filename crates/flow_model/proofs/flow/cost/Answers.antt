use Rattle.flow_model.proofs.flow.cost.Goals as goal
use Rattle.flow_model.proofs.Costs.{cost_fits}

pub sum_of_costs-requires : goal.sum_of_costs-requires
sum_of_costs-requires c = rw (c.arcs.ensures.value, c.list.ensures) (cost_fits c.args.instance.now c.args.flow.now c.arcs.ensures.bounds c.requires.long c.requires.fits)
