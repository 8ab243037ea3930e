-- The layers of an ask, in its order, with the automatic ones.
use Rattle.std.specs.Prelude.{List, [], ◌∷◌}
use Rattle.layer.specs.Layer.{LayerLists}
use Rattle.layer.specs.declared.ask.Auto.TheVariants.{LocalChans, SourceFree, NoMpp}
use Rattle.layer.specs.declared.ask.Asked.{Asked}
use Rattle.layer.specs.declared.ask.Asked.TheVariants.{Auto, Named}

-- the local layer stands at its place; the other automatic layers have no entries; each name takes the next of the layers
abbrev pub expanded_layers : LayerLists → List Asked → List LayerLists → List LayerLists
expanded_layers local [] layers = []
expanded_layers local (Auto LocalChans ∷ asked) layers = local ∷ expanded_layers local asked layers
expanded_layers local (Auto SourceFree ∷ asked) layers = expanded_layers local asked layers
expanded_layers local (Auto NoMpp ∷ asked) layers = expanded_layers local asked layers
expanded_layers local (Named name ∷ asked) [] = []
expanded_layers local (Named name ∷ asked) (lists ∷ layers) = lists ∷ expanded_layers local asked layers
