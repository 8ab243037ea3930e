-- The search for the layers of an ask.
use Rattle.std.proofs.Common.{◌≡◌, ℕ, suc, List, [], ◌∷◌, ◌++◌, length, Option, Some, None, Result, Ok, Err, refl, ap}
use Rattle.layer.specs.Layer.{LayerLists}
use Rattle.askrene_state.specs.Layers.{NamedLayers, layer_in}
use Rattle.askrene_state.specs.RoutesStep.{before_later, asked_layers}

-- layers before what was found of later ones
abbrev pub after : {A E : Type 0} → List A → Result (List A) E → Result (List A) E
after found (Ok later) = Ok (found ++ later)
after found (Err missing) = Err missing

found_one : (name : List ℕ) (found : Option LayerLists) (later : Result (List LayerLists) (List ℕ)) (count : ℕ) (all : List LayerLists)
    → ((layers : List LayerLists) → later ≡ Ok layers → length layers ≡ count) → before_later name found later ≡ Ok all → length all ≡ suc count
found_one name None later count all rest is = cc
found_one name (Some lists) (Ok layers) count all rest is =
    let same : lists ∷ layers ≡ all = cc in
    rw (← same) (ap suc (rest layers refl))
found_one name (Some lists) (Err missing) count all rest is = cc

-- one layer is found for each name
pub one_each : (layers : NamedLayers) (names : List (List ℕ)) (found : List LayerLists) → asked_layers layers names ≡ Ok found → length found ≡ length names
one_each layers [] found is = let same : [] ≡ found = cc in rw (← same) refl
one_each layers (name ∷ names) found is = found_one name (layer_in layers name) (asked_layers layers names) (length names) found (one_each layers names) is
