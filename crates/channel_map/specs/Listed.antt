-- Looking a direction up in a list.
use Rattle.std.specs.Prelude.{List, [], ◌∷◌, Option, Some, None, if◌then◌else◌}
use Rattle.plan_base.specs.Dir.{Direction, same_dir}
use Rattle.channel_map.specs.declared.edge.Edge.{Edge}

-- the listed edge of a direction
abbrev pub edge_for : Direction → List Edge → Option Edge
edge_for dir [] = None
edge_for dir (edge ∷ edges) = if same_dir edge.dir dir then Some edge else edge_for dir edges
