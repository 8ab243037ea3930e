use Rattle.std.proofs.Common.{◌<◌, length, sym, subst}
use Rattle.residual_net.specs.Residual.{ResidualNet}
use Rattle.residual_net.proofs.Loads.{fits_at}
use Rattle.flow_solver.proofs.flow_net.FlowNet.room.Goals as goal

pub room_of-requires-clause-fits : goal.room_of-requires-clause-fits
room_of-requires-clause-fits c = rw (c.as_slice.ensures.value, c.arcs.ensures.value) (fits_at _ c.args.arc c.self.invariant (subst (λ (r : ResidualNet). c.args.arc < length r.net.arcs) (sym c.self.view_is) c.requires))
