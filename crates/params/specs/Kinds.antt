-- The good values of each kind of parameter.
use Rattle.std.specs.Prelude.{ℕ, ◌&&◌, ℤ, pos, negsuc, List, [], ◌∷◌, ◌++◌, Bool, nat_le, int_le, codes, bytes_eq, Option, Some, None, option_map, option_and_then, if◌then◌else◌}
use Rattle.std.specs.List.{list_any}
use Rattle.serde_json.specs.Data.{Data, string, Items, no_items, item}
use Rattle.serde_json.specs.Events.{items_len}
use Rattle.serde_json.specs.Find.{get, as_array, as_bool, as_number, as_str, as_u64, as_i64}
use Rattle.plan_base.specs.Amount.{at_most_max, msat_of}
use Rattle.plan_base.specs.Dir.{Direction, dir_of}
use Rattle.plan_base.specs.Scid.{scid_of}
use Rattle.plan_base.specs.NodeId.{node_id_of}
use Rattle.plan_base.specs.declared.held.Held.{Held}
use Rattle.layer.specs.Name.{is_good_name}
use Rattle.layer.specs.Ask.{same_asked}
use Rattle.layer.specs.declared.ask.TheConstants.{ASKED_MAX, PARTS_MAX}
use Rattle.layer.specs.declared.ask.Asked.{Asked}
use Rattle.layer.specs.declared.ask.Asked.TheVariants.{Auto, Named}
use Rattle.layer.specs.declared.ask.Auto.TheVariants.{LocalChans, SourceFree, NoMpp}
use Rattle.askrene_command.specs.declared.command.TheConstants.{PATH_MAX}
use Rattle.askrene_command.specs.declared.command.Inform.{Inform}
use Rattle.askrene_command.specs.declared.command.Inform.TheVariants.{Constrained, Unconstrained, Succeeded}
use Rattle.params.specs.declared.names.TheConstants as names

-- the name of a layer: a string of 1 to 64 bytes that does not begin with `auto.`
abbrev pub name_of : List ℕ → Option (List ℕ)
name_of text = if is_good_name text then Some text else None

unfoldable pub name_value : Data → Option (List ℕ)
name_value value = option_and_then name_of (as_str value)

-- the text of a node id
unfoldable pub node_value : Data → Option (List ℕ)
node_value value = option_and_then node_id_of (as_str value)

-- the text of a direction
unfoldable pub dir_value : Data → Option Direction
dir_value value = option_and_then dir_of (as_str value)

-- the text of a short channel id
unfoldable pub scid_value : Data → Option ℕ
scid_value value = option_and_then scid_of (as_str value)

-- an inform: one of three words
abbrev pub inform_of : List ℕ → Option Inform
inform_of text =
    if bytes_eq text (codes "constrained") then Some Constrained
    else if bytes_eq text (codes "unconstrained") then Some Unconstrained
    else if bytes_eq text (codes "succeeded") then Some Succeeded
    else None

unfoldable pub inform_value : Data → Option Inform
inform_value value = option_and_then inform_of (as_str value)

-- true or false
unfoldable pub flag_value : Data → Option Bool
flag_value value = as_bool value

-- an integer that fits u64
unfoldable pub whole_value : Data → Option ℕ
whole_value value = option_and_then as_u64 (as_number value)

abbrev pub at_most : ℕ → ℕ → Option ℕ
at_most limit n = if nat_le n limit then Some n else None

-- an integer from 0 to a limit
unfoldable pub whole_up_to : ℕ → Data → Option ℕ
whole_up_to limit value = option_and_then (at_most limit) (whole_value value)

-- an amount: an integer, or the text of an amount
unfoldable pub amount_value : Data → Option ℕ
amount_value (string text) = msat_of text
amount_value value = option_and_then at_most_max (whole_value value)

-- an amount of at most a limit
unfoldable pub amount_up_to : ℕ → Data → Option ℕ
amount_up_to limit value = option_and_then (at_most limit) (amount_value value)

-- an amount of at least 1
abbrev pub at_least_one : ℕ → Option ℕ
at_least_one n = if nat_le 1 n then Some n else None

unfoldable pub positive_value : Data → Option ℕ
positive_value value = option_and_then at_least_one (amount_value value)

-- an integer from 1 to PARTS_MAX
abbrev pub parts_of : ℕ → Option ℕ
parts_of n = if nat_le 1 n && nat_le n PARTS_MAX then Some n else None

unfoldable pub parts_value : Data → Option ℕ
parts_value value = option_and_then parts_of (whole_value value)

-- an integer from -100 to 100
abbrev pub percent_of : ℤ → Option ℤ
percent_of z = if int_le (negsuc 99) z && int_le z (pos 100) then Some z else None

unfoldable pub percent_value : Data → Option ℤ
percent_value value = option_and_then percent_of (option_and_then as_i64 (as_number value))

-- an item of a path: an object with a direction and an amount; other members are ignored
abbrev pub held_from : Option Direction → Option ℕ → Option Held
held_from (Some dir) (Some amount) = Some (record { dir = dir; amount = amount })
held_from _ _ = None

unfoldable pub held_value : Data → Option Held
held_value value =
    held_from (option_and_then dir_value (get (codes "short_channel_id_dir") value))
    (option_and_then amount_value (get (codes "amount_msat") value))

-- the items of a list, if all are good
abbrev pub in_front : {A : Type 0} → Option A → Option (List A) → Option (List A)
in_front (Some good) (Some others) = Some (good ∷ others)
in_front _ _ = None

unfoldable pub helds_of : Items → Option (List Held)
helds_of no_items = Some []
helds_of (item value values) = in_front (held_value value) (helds_of values)

-- a path: an array of 1 to PATH_MAX items, all of them good
abbrev pub is_path_length : ℕ → Bool
is_path_length count = nat_le 1 count && nat_le count PATH_MAX

abbrev pub path_of : Items → Option (List Held)
path_of values = if is_path_length (items_len values) then helds_of values else None

unfoldable pub path_value : Data → Option (List Held)
path_value value = option_and_then path_of (as_array value)

-- a layer of an ask: an automatic layer, or the name of a layer
abbrev pub asked_of : List ℕ → Option Asked
asked_of text =
    if bytes_eq text names.LOCAL_CHANS.now then Some (Auto LocalChans)
    else if bytes_eq text names.SOURCE_FREE.now then Some (Auto SourceFree)
    else if bytes_eq text names.NO_MPP.now then Some (Auto NoMpp)
    else option_map Named (name_of text)

unfoldable pub asked_value : Data → Option Asked
asked_value value = option_and_then asked_of (as_str value)

unfoldable pub all_asked : Items → Option (List Asked)
all_asked no_items = Some []
all_asked (item value values) = in_front (asked_value value) (all_asked values)

-- whether a layer stands among those before it
abbrev pub is_among : List Asked → Asked → Bool
is_among seen asked = list_any (λ other. same_asked other asked) seen

-- layers that are repeated count once, at their first place
abbrev pub each_once : List Asked → List Asked → List Asked
each_once seen [] = seen
each_once seen (asked ∷ later) = each_once (if is_among seen asked then seen else seen ++ asked ∷ []) later

-- the layers of an ask: an array of at most ASKED_MAX texts, all of them good
abbrev pub layers_of : Items → Option (List Asked)
layers_of values = if nat_le (items_len values) ASKED_MAX then option_map (each_once []) (all_asked values) else None

unfoldable pub layers_value : Data → Option (List Asked)
layers_value value = option_and_then layers_of (as_array value)
