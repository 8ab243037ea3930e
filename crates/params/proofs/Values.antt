-- From what the JSON crate says to the words of parameters.
use Rattle.std.proofs.Common.{◌≡◌, List, length, sym}
use Rattle.serde_json.specs.Events.{items_len}
use Rattle.serde_json.specs.View.{items_view}
use Rattle.serde_json.specs.declared.value.Value.{Value}
use Rattle.serde_json.proofs.Views.{items_len-items_view}

pub count_of_items : (values : List Value) → length values ≡ items_len (items_view values)
count_of_items values = sym (items_len-items_view values)
