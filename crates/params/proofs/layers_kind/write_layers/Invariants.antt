use Rattle.std.proofs.Common.{◌≡◌, map, take, drop, ◌++◌, option_map}
use Rattle.serde_json.specs.View.{view, items_of}
use Rattle.params.specs.Kinds.{all_asked}
use Rattle.params.specs.Printed.{asked_data}
use Rattle.params.proofs.layers_kind.write_layers.Given as goal

abbrev pub invariant-loop-asked : goal.invariant-loop-asked
invariant-loop-asked l =
    (map view l.values.items ≡ map asked_data (take l.asked-index l.layers))
    × (all_asked (items_of (map asked_data l.layers))
    ≡ option_map (λ others. take l.asked-index l.layers ++ others) (all_asked (items_of (map asked_data (drop l.asked-index l.layers)))))
