use Rattle.std.proofs.Common.{◌≡◌, ◌≤◌, [], length, drop, option_map}
use Rattle.std.specs.Prelude.{All}
use Rattle.std.specs.List.{IsDistinct}
use Rattle.serde_json.specs.View.{items_view}
use Rattle.layer.specs.Ask.{IsGoodAsked, same_asked}
use Rattle.params.specs.Kinds.{all_asked, each_once}
use Rattle.params.proofs.layers_kind.read_layers.Given as goal

abbrev pub invariant-loop-value : goal.invariant-loop-value
invariant-loop-value l =
    (option_map (each_once []) (all_asked (items_view l.values))
    ≡ option_map (each_once l.layers.items) (all_asked (items_view (drop l.value-index l.values))))
    × (length l.layers.items ≤ l.value-index)
    × All IsGoodAsked l.layers.items
    × IsDistinct same_asked l.layers.items
