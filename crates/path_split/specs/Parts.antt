-- Parts of a flow: paths with units.
use Rattle.std.specs.Prelude.{ℕ, ◌+◌, ◌-◌, ◌/◌, ◌%◌, ◌<◌, ◌≤◌, ◌≡◌, ◌≢◌, List, [], ◌∷◌, ◌++◌, length, All, AllPairs, sum_by, cond, nat_eq, replicate}
use Rattle.std.specs.List.{list_any}
use Rattle.std.specs.Int.{div_ceil}
use Rattle.plan_base.specs.declared.amount.TheConstants.{MAX}
use Rattle.flow_model.specs.Instance.{Net}
use Rattle.flow_model.specs.Flow.{loads, units_of}
use Rattle.path_split.specs.declared.part.Part.{Part}
use Rattle.path_split.specs.Path.{IsPath, IsBefore}

-- the units of the parts whose path contains the direction
abbrev pub units_on : ℕ → List Part → ℕ
units_on dir parts = sum_by (λ (p : Part). cond (list_any (nat_eq dir) p.path) p.units 0) parts

-- the paths are distinct and ascending, and each has all its units: together they send the demand, and over each
-- direction what the flow carries there; there are at most as many paths as directions that carry units
pub record IsDecomposition (net : Net) (flow : List ℕ) (paths : List Part) : Type 0 where
  pub leads : All (λ (p : Part). IsPath net.arcs net.source p.path net.destination) paths
  pub some : All (λ (p : Part). 1 ≤ p.units) paths
  pub most : All (λ (p : Part). p.units ≤ MAX) paths
  pub short : All (λ (p : Part). length p.path ≤ net.nodes) paths
  pub order : AllPairs (λ (a b : Part). IsBefore a.path b.path) paths
  pub over : (dir : ℕ) → units_on dir paths ≡ units_of dir (loads net flow)
  pub sent : sum_by (λ (p : Part). p.units) paths ≡ net.demand
  -- distinct directions that carry units, at least as many as there are paths
  pub carriers : List ℕ
  pub distinct : AllPairs (λ a b. a ≢ b) carriers
  pub carry : All (λ dir. 0 < units_of dir (loads net flow)) carriers
  pub few : length paths ≤ length carriers

-- the parts of one path: as few as the size allows, with equal units but for one more unit on each of the first parts
-- if the units don't divide evenly
abbrev pub parts_of_path : ℕ → Part → List Part
parts_of_path size p =
    let count = div_ceil p.units size in
    let more = p.units % count in
    replicate more (record { path = p.path; units = p.units / count + 1 }) ++ replicate (count - more) (record { path = p.path; units = p.units / count })

-- the parts of each path, one path after another
abbrev pub parts_of_paths : ℕ → List Part → List Part
parts_of_paths size [] = []
parts_of_paths size (p ∷ paths) = parts_of_path size p ++ parts_of_paths size paths

-- the parts are those of a decomposition of the flow into paths
pub record IsSplit (net : Net) (flow : List ℕ) (size : ℕ) (parts : List Part) : Type 0 where
  pub paths : List Part
  pub are : IsDecomposition net flow paths
  pub cut : parts ≡ parts_of_paths size paths
