-- The outline that a leaf stands for.
use Rattle.serde_json.specs.Data as spec
use Rattle.serde_json.specs.Data.{Data, boolean, number, string, array, object, no_items, no_members}
use Rattle.serde_json.specs.View.{number_view}
use Rattle.json_pass.specs.declared.leaf.Leaf.{Leaf}
use Rattle.json_pass.specs.declared.leaf.Leaf.TheVariants.{Null, Bool, Number, Text, Array, Object}

abbrev pub leaf_data : Leaf → Data
leaf_data Null = spec.null
leaf_data (Bool b) = boolean b
leaf_data (Number n) = number (number_view n)
leaf_data (Text s) = string s.now
leaf_data Array = array no_items
leaf_data Object = object no_members
