-- A network for tests; these words serve private clauses only. The cheapest path of one unit leads over the arc in the
-- middle, and the cheapest flow of two units goes around it.
use Rattle.std.specs.Prelude.{ℕ, List, [], ◌∷◌}
use Rattle.flow_model.specs.declared.instance.Arc.{Arc}
use Rattle.flow_model.specs.Instance.{Net}

abbrev pub detour_arcs : List Arc
detour_arcs =
    record { from = 0; to = 1; room = 1; cost = 1; dir = 0 }
    ∷ record { from = 0; to = 2; room = 1; cost = 10; dir = 1 }
    ∷ record { from = 1; to = 2; room = 1; cost = 1; dir = 2 }
    ∷ record { from = 1; to = 3; room = 1; cost = 10; dir = 3 }
    ∷ record { from = 2; to = 3; room = 1; cost = 1; dir = 4 }
    ∷ []

abbrev pub detour_net : ℕ → Net
detour_net demand = record { nodes = 4; source = 0; destination = 3; demand = demand; arcs = detour_arcs }
