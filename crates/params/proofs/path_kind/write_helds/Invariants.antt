use Rattle.std.proofs.Common.{◌≡◌, map, take, drop, ◌++◌, option_map}
use Rattle.serde_json.specs.View.{view, items_of}
use Rattle.params.specs.Kinds.{helds_of}
use Rattle.params.specs.Printed.{held_data}
use Rattle.params.proofs.path_kind.write_helds.Given as goal

abbrev pub invariant-loop-held : goal.invariant-loop-held
invariant-loop-held l =
    (map view l.values.items ≡ map held_data (take l.held-index l.path))
    × (helds_of (items_of (map held_data l.path))
    ≡ option_map (λ others. take l.held-index l.path ++ others) (helds_of (items_of (map held_data (drop l.held-index l.path)))))
