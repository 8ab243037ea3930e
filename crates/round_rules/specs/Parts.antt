-- The parts of a round.
use Rattle.std.specs.Prelude.{ℕ, ◌≤◌, ◌≡◌, List, length, All, sum_by}
use Rattle.flow_model.specs.Instance.{Net}
use Rattle.flow_model.specs.Flow.{flow_of, room_of}
use Rattle.path_split.specs.declared.part.Part.{Part}
use Rattle.path_split.specs.Path.{IsPath}
use Rattle.path_split.specs.Parts.{IsSplit, units_on}

-- the flow that the parts make: each direction's units fill its arcs in order
abbrev pub flow_in : Net → List Part → List ℕ
flow_in net parts = flow_of (λ dir. units_on dir parts) net.arcs

-- paths from the source to the destination, with at least one unit each; together they send the demand, and over each
-- direction at most what its arcs have room for; their order, their number and how many parts a path has are those of
-- a split
pub record AreGoodParts (net : Net) (size : ℕ) (parts : List Part) : Type 0 where
  pub paths : All (λ (p : Part). IsPath net.arcs net.source p.path net.destination) parts
  pub short : All (λ (p : Part). length p.path ≤ net.nodes) parts
  pub some : All (λ (p : Part). 1 ≤ p.units) parts
  pub sent : sum_by (λ (p : Part). p.units) parts ≡ net.demand
  pub fits : (dir : ℕ) → units_on dir parts ≤ room_of dir net.arcs
  pub split : IsSplit net (flow_in net parts) size parts
