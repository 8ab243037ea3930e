-- The units of a feasible flow are at most the greatest amount.
use Rattle.std.proofs.Common.{ℕ, ◌≤◌, List, arith}
use Rattle.std.specs.Prelude.{All, slice_index, ℤ}
use Rattle.plan_base.specs.declared.amount.TheConstants.{MAX}
use Rattle.flow_model.specs.declared.instance.Arc.{Arc}
use Rattle.flow_model.specs.Instance.{Net, IsInstance, arc_at, no_arc}
use Rattle.flow_model.specs.Potentials.{ShowsCheapest}
use Rattle.residual_net.proofs.Loads.{at_from_zip, get_or-any}

pub units_small : (net : Net) (flow : List ℕ) (p : List ℤ) → IsInstance net → ShowsCheapest net flow p → All (λ units. units ≤ MAX) flow
units_small net flow p good shows k d l =
    let long = shows.feasible.long in
    let fits : slice_index flow k ≤ (arc_at net.arcs k).room = at_from_zip (λ (x : Arc × ℕ). x.1 ≤ x.0.room) net.arcs flow k long (omega (arith, l, long)) shows.feasible.fits in
    let room = (good.ranges.good_arcs k no_arc (omega (arith, l, long))).most_room in
    let e = get_or-any flow k d 0 l in
    omega (arith, fits, room, e)
