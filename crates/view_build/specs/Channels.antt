-- Serves private clauses only: the directions that layers create.
use Rattle.std.specs.Prelude.{ℕ, ◌==◌, ◌&&◌, not, List, Bool, false, cond, Option, Some, None, option_map}
use Rattle.std.specs.List.{find}
use Rattle.std.specs.Option.{is_some}
use Rattle.std.specs.Ordering.{nat_cmp}
use Rattle.std.specs.BTreeMap.{BTreeMap, get}
use Rattle.plan_base.specs.Dir.{Direction}
use Rattle.channel_map.specs.declared.edge.Edge.{Edge}
use Rattle.channel_map.specs.Listed.{edge_for}
use Rattle.layer.specs.declared.records.Created.{Created}
use Rattle.layer.specs.declared.records.Update.{Update}
use Rattle.view_build.specs.Rules.{created_edge}

-- the first channel of an id
abbrev pub channel_in : ℕ → List Created → Option Created
channel_in scid channels = find (λ (channel : Created). channel.scid == scid) channels

abbrev pub channel_at : BTreeMap ℕ Created → ℕ → Option Created
channel_at map scid = get nat_cmp map scid

abbrev pub is_enabled : Option Bool → Bool
is_enabled None = false
is_enabled (Some enabled) = enabled

-- the created direction of given fields: only if they enable it, since it begins disabled, and only if the map lacks it
abbrev pub created_for : BTreeMap ℕ Created → List Edge → Direction → Update → Option Edge
created_for channels map dir fields = cond (is_enabled fields.enabled && not (is_some (edge_for dir map))) (option_map (created_edge dir.side) (channel_at channels dir.scid)) None
