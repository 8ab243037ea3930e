-- The nodes of the workload.
use Rattle.std.specs.Prelude.{ℕ, ◌+◌, ◌-◌, ◌%◌, List, ◌∷◌, ◌++◌, replicate}
use Rattle.std.specs.Int.{w64, to_be_bytes}
use Rattle.plan_base.specs.NodeId.{node_id_text}

-- the id of a node: the byte 2, 24 zero bytes, and the node's number plus 1 in eight bytes, the most significant first
unfoldable pub node_bytes : ℕ → List ℕ
node_bytes node = 2 ∷ (replicate 24 0 ++ to_be_bytes w64 (node + 1))

-- the text of that id
abbrev pub node_text : ℕ → List ℕ
node_text node = node_id_text (node_bytes node)

-- the node other than this one that a number chooses
abbrev pub other_node : ℕ → ℕ → ℕ → ℕ
other_node nodes node number = (node + 1 + number % (nodes - 1)) % nodes
