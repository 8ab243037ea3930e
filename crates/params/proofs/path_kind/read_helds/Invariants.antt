use Rattle.std.proofs.Common.{◌≡◌, length, drop, ◌++◌, option_map}
use Rattle.std.specs.Prelude.{All}
use Rattle.serde_json.specs.View.{items_view}
use Rattle.plan_base.specs.Held.{IsGoodHeld}
use Rattle.params.specs.Kinds.{helds_of}
use Rattle.params.proofs.path_kind.read_helds.Given as goal

abbrev pub invariant-loop-value : goal.invariant-loop-value
invariant-loop-value l =
    (helds_of (items_view l.values)
    ≡ option_map (λ others. l.path ++ others) (helds_of (items_view (drop l.value-index l.values))))
    × (length l.path ≡ l.value-index)
    × All IsGoodHeld l.path
