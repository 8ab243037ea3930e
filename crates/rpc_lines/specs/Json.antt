-- JSON values of whole numbers and ids.
use Rattle.std.specs.Prelude.{ℕ, List}
use Rattle.serde_json.specs.Data.{Data, number, unsigned, string}
use Rattle.plan_base.specs.Dir.{Direction, dir_text}
use Rattle.plan_base.specs.NodeId.{node_id_text}
use Rattle.plan_base.specs.Scid.{scid_text}

-- a whole number that is not below 0
abbrev pub whole : ℕ → Data
whole n = number (unsigned n)

-- the text of a direction
abbrev pub dir_data : Direction → Data
dir_data dir = string (dir_text dir)

-- the text of a short channel id
abbrev pub scid_data : ℕ → Data
scid_data scid = string (scid_text scid)

-- the text of a node id
abbrev pub node_data : List ℕ → Data
node_data node = string (node_id_text node)
