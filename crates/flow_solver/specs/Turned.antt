-- A network seen from the destination: each arc turned around; these words serve private clauses only. A search back from
-- the destination is a search forward in it.
use Rattle.std.specs.Prelude.{List, map, Bool, true, false, ℤ, pos, ◌-ℤ◌}
use Rattle.flow_model.specs.declared.instance.Arc.{Arc}
use Rattle.flow_model.specs.Instance.{Net}
use Rattle.residual_net.specs.Residual.{ResidualNet}

abbrev pub turn : Arc → Arc
turn a = record { from = a.to; to = a.from; room = a.room; cost = a.cost; dir = a.dir }

abbrev pub turned_net : Net → Net
turned_net net = record { nodes = net.nodes; source = net.destination; destination = net.source; demand = net.demand; arcs = map turn net.arcs }

abbrev pub turned : ResidualNet → ResidualNet
turned residual = record { net = turned_net residual.net; flow = residual.flow }

abbrev pub against : List ℤ → List ℤ
against p = map (λ z. pos 0 -ℤ z) p

-- the network and the potentials, as they are or turned around
abbrev pub seen : Bool → ResidualNet → ResidualNet
seen true residual = turned residual
seen false residual = residual

abbrev pub seen_potentials : Bool → List ℤ → List ℤ
seen_potentials true p = against p
seen_potentials false p = p
