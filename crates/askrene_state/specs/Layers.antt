-- The layers, each with its name, in order of creation.
use Rattle.std.specs.Prelude.{ℕ, List, ◌∷◌, ◌++◌, [], Bool, Option, nat_eq}
use Rattle.std.specs.Cmp.Lexicographic.{pointwise}
use Rattle.std.specs.Map.{lookup, set_value, remove_entry}
use Rattle.layer.specs.Layer.{LayerLists, no_lists}

abbrev pub NamedLayers : Type 0
NamedLayers = List (List ℕ × LayerLists)

-- whether a layer has this name
abbrev pub has_name : List ℕ → List ℕ → Bool
has_name name other = pointwise nat_eq name other

-- the layer with this name
abbrev pub layer_in : NamedLayers → List ℕ → Option LayerLists
layer_in layers name = lookup (has_name name) layers

-- an empty layer is appended
abbrev pub with_new_layer : NamedLayers → List ℕ → NamedLayers
with_new_layer layers name = layers ++ (name, no_lists) ∷ []

-- the layer is removed; the others keep their order
abbrev pub without_layer : NamedLayers → List ℕ → NamedLayers
without_layer layers name = remove_entry (has_name name) layers

-- the layer has these lists instead, at its own position
abbrev pub with_lists : NamedLayers → List ℕ → LayerLists → NamedLayers
with_lists layers name lists = set_value (has_name name) layers lists
