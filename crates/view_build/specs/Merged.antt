-- Serves private clauses only: two ascending lists of directions as one.
use Rattle.std.specs.Prelude.{List, [], ◌∷◌, ◌++◌, if◌then◌else◌}
use Rattle.std.specs.Ordering.{is_lt}
use Rattle.plan_base.specs.Dir.{Direction, dir_order}
use Rattle.channel_map.specs.declared.edge.Edge.{Edge}

-- the first directions, as long as they are below another one
abbrev pub below : Direction → List Edge → List Edge
below dir [] = []
below dir (edge ∷ edges) = if is_lt (dir_order edge.dir dir) then edge ∷ below dir edges else []

-- the directions after those
abbrev pub from_dir : Direction → List Edge → List Edge
from_dir dir [] = []
from_dir dir (edge ∷ edges) = if is_lt (dir_order edge.dir dir) then from_dir dir edges else edge ∷ edges

abbrev pub merged : List Edge → List Edge → List Edge
merged [] others = others
merged (edge ∷ edges) others = below edge.dir others ++ edge ∷ merged edges (from_dir edge.dir others)
