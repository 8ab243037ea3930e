use Rattle.std.proofs.Common.{List, length, subst, sym}
use Rattle.flow_model.specs.declared.instance.Arc.{Arc}
use Rattle.flow_model.specs.Instance.{IsInstance}
use Rattle.flow_solver.specs.Heads.{HasHeads}
use Rattle.flow_solver.proofs.Firsts.{heads_instance}
use Rattle.flow_solver.proofs.heads.heads_of.Goals as goal

pub new-requires : goal.new-requires
new-requires c =
    let arcs = c.in_ok-arcs.arcs.items in
    let net = c.args.instance.now in
    let heads = subst (λ (xs : List Arc). HasHeads xs arcs (length xs)) c.arcs.ensures.value c.in_ok-arcs.ensures in
    let it = heads_instance net arcs c.nodes.ensures.bounds heads in
    let with_demand = subst (λ d. IsInstance (record { nodes = net.nodes; source = net.source; destination = net.destination; demand = d; arcs = arcs })) (sym c.demand.ensures) it in
    let with_end = subst (λ t. IsInstance (record { nodes = net.nodes; source = net.source; destination = t; demand = c.demand.result; arcs = arcs })) (sym c.destination.ensures) with_demand in
    let with_source = subst (λ s. IsInstance (record { nodes = net.nodes; source = s; destination = c.destination.result; demand = c.demand.result; arcs = arcs })) (sym c.source.ensures) with_end in
    subst (λ n. IsInstance (record { nodes = n; source = c.source.result; destination = c.destination.result; demand = c.demand.result; arcs = arcs })) (sym c.nodes.ensures.value) with_source
