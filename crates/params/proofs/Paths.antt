-- A path that is written is read back, where each of its items is.
use Rattle.std.proofs.Common.{◌≡◌, suc, true, List, [], ◌∷◌, length, map, Some, refl, ap, ◌∙◌}
use Rattle.std.proofs.lemmas.Bool.{le-leb}
use Rattle.std.proofs.lemmas.List.{length-map}
use Rattle.serde_json.specs.Data.{Data}
use Rattle.serde_json.specs.Events.{items_len}
use Rattle.serde_json.specs.View.{items_of}
use Rattle.plan_base.specs.declared.held.Held.{Held}
use Rattle.askrene_command.specs.Command.{IsGoodPath}
use Rattle.askrene_command.specs.declared.command.TheConstants.{PATH_MAX}
use Rattle.params.specs.Kinds.{helds_of, is_path_length, path_value}
use Rattle.params.specs.Printed.{held_data, path_data}

pub count_of_items : (values : List Data) → items_len (items_of values) ≡ length values
count_of_items [] = refl
count_of_items (value ∷ values) = ap suc (count_of_items values)

good_length : (path : List Held) → IsGoodPath path → is_path_length (items_len (items_of (map held_data path))) ≡ true
good_length path good =
    let count : items_len (items_of (map held_data path)) ≡ length path = count_of_items (map held_data path) ∙ length-map path held_data in
    rw (count, le-leb 1 (length path) good.some, le-leb (length path) PATH_MAX good.few) refl

pub path_back : (path : List Held) → IsGoodPath path → helds_of (items_of (map held_data path)) ≡ Some path
    → path_value (path_data path) ≡ Some path
unfolding path_value
path_back path good back = rw (good_length path good) back
