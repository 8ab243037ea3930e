-- The methods: the command that the parameters of each give. The first refusal in this order names the parameter at fault:
-- too many items, then the first parameter of the table that is missing or bad, then the method's own rule, then an unknown
-- name.
use Rattle.std.specs.Prelude.{ℕ, List, [], false, get_or, bytes_eq, Bool, Option, Some, None, Result, unwrap_or, nat_eq, if◌then◌else◌}
use Rattle.std.specs.Cmp.Lexicographic.{pointwise}
use Rattle.serde_json.specs.Data.{Data}
use Rattle.plan_base.specs.Dir.{Direction}
use Rattle.plan_base.specs.declared.held.Held.{Held}
use Rattle.layer.specs.declared.ask.TheConstants.{PARTS_MAX}
use Rattle.askrene_command.specs.Command.{is_impossible}
use Rattle.askrene_command.specs.declared.command.Command.{Command}
use Rattle.askrene_command.specs.declared.command.Command.TheVariants.{CreateLayer, RemoveLayer, ListLayers, CreateChannel, UpdateChannel, InformChannel, BiasChannel, DisableNode, Age, Reserve, Unreserve, ListReservations, GetRoutes}
use Rattle.params.specs.declared.names.TheConstants as names
use Rattle.params.specs.Tables.{layer_table, channel_table, update_table, inform_table, bias_table, node_table, age_table, path_table, empty_table, routes_table}
use Rattle.params.specs.Parameters.{needs, may_have, unless_long, refused_if, if_known}
use Rattle.params.specs.Kinds.{name_value, node_value, dir_value, scid_value, inform_value, flag_value, whole_value, whole_up_to, amount_value, amount_up_to, percent_value, path_value, positive_value, parts_value, layers_value}

-- the maximum base fee, proportional fee and CLTV delta of a direction (BOLT 7)
abbrev pub fee_max : ℕ
fee_max = 4294967295

abbrev pub delay_max : ℕ
delay_max = 65535

-- the greatest delay of a part, if an ask gives none
abbrev pub default_delay : ℕ
default_delay = 2016

abbrev pub same_node : List ℕ → List ℕ → Bool
same_node a b = pointwise nat_eq a b

-- the methods whose first parameters are a layer, or a layer and a direction
abbrev pub on_layer : List (List ℕ) → Data → (List ℕ → Result Command (List ℕ)) → Result Command (List ℕ)
on_layer table params next = unless_long table params (needs table params 0 name_value next)

abbrev pub on_direction : List (List ℕ) → Data → (List ℕ → Direction → Result Command (List ℕ)) → Result Command (List ℕ)
on_direction table params next = on_layer table params (λ layer. needs table params 1 dir_value (next layer))

-- a command on one layer
unfoldable pub layer_command : (List ℕ → Command) → Data → Result Command (List ℕ)
layer_command make params =
    on_layer layer_table params (λ layer. if_known layer_table params (make layer))

unfoldable pub list_layers_command : Data → Result Command (List ℕ)
list_layers_command params =
    unless_long layer_table params (may_have layer_table params 0 name_value (λ layer. if_known layer_table params (ListLayers layer)))

unfoldable pub create_channel_command : Data → Result Command (List ℕ)
create_channel_command params =
    on_layer channel_table params (λ layer.
    needs channel_table params 1 node_value (λ source.
    needs channel_table params 2 node_value (λ destination.
    needs channel_table params 3 scid_value (λ scid.
    needs channel_table params 4 positive_value (λ capacity.
    refused_if (same_node source destination) (get_or channel_table 2 []) (
    if_known channel_table params (CreateChannel layer (record {
      scid = scid;
      source = source;
      destination = destination;
      capacity = capacity;
    }))))))))

unfoldable pub update_channel_command : Data → Result Command (List ℕ)
update_channel_command params =
    on_direction update_table params (λ layer dir.
    may_have update_table params 2 flag_value (λ enabled.
    may_have update_table params 3 amount_value (λ htlc_min.
    may_have update_table params 4 amount_value (λ htlc_max.
    may_have update_table params 5 (amount_up_to fee_max) (λ base.
    may_have update_table params 6 (whole_up_to fee_max) (λ ppm.
    may_have update_table params 7 (whole_up_to delay_max) (λ delay.
    if_known update_table params (UpdateChannel layer (record {
      dir = dir;
      enabled = enabled;
      htlc_min = htlc_min;
      htlc_max = htlc_max;
      base = base;
      ppm = ppm;
      delay = delay;
    })))))))))

unfoldable pub inform_channel_command : Data → Result Command (List ℕ)
inform_channel_command params =
    on_direction inform_table params (λ layer dir.
    needs inform_table params 2 amount_value (λ amount.
    needs inform_table params 3 inform_value (λ kind.
    refused_if (is_impossible kind amount) (get_or inform_table 2 []) (
    if_known inform_table params (InformChannel layer dir amount kind)))))

unfoldable pub bias_channel_command : Data → Result Command (List ℕ)
bias_channel_command params =
    on_direction bias_table params (λ layer dir.
    needs bias_table params 2 percent_value (λ bias.
    if_known bias_table params (BiasChannel layer (record { dir = dir; bias = bias }))))

unfoldable pub disable_node_command : Data → Result Command (List ℕ)
disable_node_command params =
    on_layer node_table params (λ layer. needs node_table params 1 node_value (λ node. if_known node_table params (DisableNode layer node)))

unfoldable pub age_command : Data → Result Command (List ℕ)
age_command params =
    on_layer age_table params (λ layer. needs age_table params 1 whole_value (λ cutoff. if_known age_table params (Age layer cutoff)))

-- a command on a path
unfoldable pub path_command : (List Held → Command) → Data → Result Command (List ℕ)
path_command make params =
    unless_long path_table params (needs path_table params 0 path_value (λ path. if_known path_table params (make path)))

unfoldable pub list_reservations_command : Data → Result Command (List ℕ)
list_reservations_command params = unless_long empty_table params (if_known empty_table params ListReservations)

unfoldable pub get_routes_command : Data → Result Command (List ℕ)
get_routes_command params =
    unless_long routes_table params (
    needs routes_table params 0 node_value (λ source.
    needs routes_table params 1 node_value (λ destination.
    needs routes_table params 2 positive_value (λ amount.
    needs routes_table params 3 layers_value (λ layers.
    needs routes_table params 4 amount_value (λ maxfee.
    needs routes_table params 5 (whole_up_to delay_max) (λ final_cltv.
    may_have routes_table params 6 (whole_up_to delay_max) (λ maxdelay.
    may_have routes_table params 7 parts_value (λ maxparts.
    may_have routes_table params 8 flag_value (λ certificate.
    refused_if (same_node source destination) (get_or routes_table 1 []) (
    if_known routes_table params (GetRoutes (record {
      source = source;
      destination = destination;
      amount = amount;
      layers = layers;
      maxfee = maxfee;
      final_cltv = final_cltv;
      maxdelay = unwrap_or maxdelay default_delay;
      maxparts = unwrap_or maxparts PARTS_MAX;
      certificate = unwrap_or certificate false;
    })))))))))))))

-- The command of a method and its parameters, or the name of the parameter that is refused. None: no such method exists.
unfoldable pub command_in : List ℕ → Data → Option (Result Command (List ℕ))
command_in method params =
    if bytes_eq method names.CREATE_LAYER.now then Some (layer_command CreateLayer params)
    else if bytes_eq method names.REMOVE_LAYER.now then Some (layer_command RemoveLayer params)
    else if bytes_eq method names.LIST_LAYERS.now then Some (list_layers_command params)
    else if bytes_eq method names.CREATE_CHANNEL.now then Some (create_channel_command params)
    else if bytes_eq method names.UPDATE_CHANNEL.now then Some (update_channel_command params)
    else if bytes_eq method names.INFORM_CHANNEL.now then Some (inform_channel_command params)
    else if bytes_eq method names.BIAS_CHANNEL.now then Some (bias_channel_command params)
    else if bytes_eq method names.DISABLE_NODE.now then Some (disable_node_command params)
    else if bytes_eq method names.AGE.now then Some (age_command params)
    else if bytes_eq method names.RESERVE.now then Some (path_command Reserve params)
    else if bytes_eq method names.UNRESERVE.now then Some (path_command Unreserve params)
    else if bytes_eq method names.LIST_RESERVATIONS.now then Some (list_reservations_command params)
    else if bytes_eq method names.GET_ROUTES.now then Some (get_routes_command params)
    else None
