-- The named parameters of a command.
use Rattle.std.specs.Prelude.{ℕ, ℤ, List, [], ◌∷◌, map, codes, Option, Some, None, option_map}
use Rattle.serde_json.specs.Data.{Data, number, string, boolean, array, object, Members, no_members, member, put}
use Rattle.serde_json.specs.Find.{of_integer}
use Rattle.serde_json.specs.View.{items_of}
use Rattle.plan_base.specs.Dir.{Direction}
use Rattle.plan_base.specs.declared.held.Held.{Held}
use Rattle.rpc_lines.specs.Json.{whole, dir_data, node_data, scid_data}
use Rattle.layer.specs.declared.records.Bias.{Bias}
use Rattle.layer.specs.declared.records.Created.{Created}
use Rattle.layer.specs.declared.records.Update.{Update}
use Rattle.layer.specs.declared.ask.Ask.{Ask}
use Rattle.layer.specs.declared.ask.Asked.{Asked}
use Rattle.layer.specs.declared.ask.Asked.TheVariants.{Auto, Named}
use Rattle.layer.specs.declared.ask.Auto.TheVariants.{LocalChans, SourceFree, NoMpp}
use Rattle.askrene_command.specs.declared.command.Command.{Command}
use Rattle.askrene_command.specs.declared.command.Command.TheVariants.{CreateLayer, RemoveLayer, ListLayers, CreateChannel, UpdateChannel, InformChannel, BiasChannel, DisableNode, Age, Reserve, Unreserve, ListReservations, GetRoutes}
use Rattle.askrene_command.specs.declared.command.Inform.{Inform}
use Rattle.askrene_command.specs.declared.command.Inform.TheVariants.{Constrained, Unconstrained, Succeeded}
use Rattle.params.specs.declared.names.TheConstants as names
use Rattle.params.specs.Tables.{layer_table, channel_table, update_table, inform_table, bias_table, node_table, age_table, path_table, empty_table, routes_table}

-- the word of an inform
abbrev pub inform_word : Inform → List ℕ
inform_word Constrained = codes "constrained"
inform_word Unconstrained = codes "unconstrained"
inform_word Succeeded = codes "succeeded"

abbrev pub inform_data : Inform → Data
inform_data kind = string (inform_word kind)

abbrev pub percent_data : ℤ → Data
percent_data z = number (of_integer z)

-- the members, with one more if its value is given; `put` keeps names in ascending order
abbrev pub put_given : List ℕ → Option Data → Members → Members
put_given name None members = members
put_given name (Some value) members = put name value members

-- the members, with each given value under its name in the table
unfoldable pub put_all : List (List ℕ) → List (Option Data) → Members → Members
put_all (name ∷ names) (value ∷ values) members = put_all names values (put_given name value members)
put_all _ _ members = members

-- the parameters of a table with these values
abbrev pub named : List (List ℕ) → List (Option Data) → Data
named table values = object (put_all table values no_members)

-- an item of a path, and a path
abbrev pub held_data : Held → Data
held_data held =
    object (member (codes "amount_msat") (whole held.amount)
    (member (codes "short_channel_id_dir") (dir_data held.dir) no_members))

abbrev pub path_data : List Held → Data
path_data path = array (items_of (map held_data path))

-- the text of a layer of an ask, and the layers
abbrev pub asked_text : Asked → List ℕ
asked_text (Auto LocalChans) = names.LOCAL_CHANS.now
asked_text (Auto SourceFree) = names.SOURCE_FREE.now
asked_text (Auto NoMpp) = names.NO_MPP.now
asked_text (Named name) = name

abbrev pub asked_data : Asked → Data
asked_data asked = string (asked_text asked)

abbrev pub layers_data : List Asked → Data
layers_data layers = array (items_of (map asked_data layers))

-- the values of the methods with more than two parameters
abbrev pub channel_values : List ℕ → Created → List (Option Data)
channel_values layer channel =
    Some (string layer) ∷ Some (node_data channel.source) ∷ Some (node_data channel.destination)
    ∷ Some (scid_data channel.scid) ∷ Some (whole channel.capacity) ∷ []

abbrev pub update_values : List ℕ → Update → List (Option Data)
update_values layer change =
    Some (string layer) ∷ Some (dir_data change.dir) ∷ option_map boolean change.enabled
    ∷ option_map whole change.htlc_min ∷ option_map whole change.htlc_max ∷ option_map whole change.base
    ∷ option_map whole change.ppm ∷ option_map whole change.delay ∷ []

abbrev pub inform_values : List ℕ → Direction → ℕ → Inform → List (Option Data)
inform_values layer dir amount kind =
    Some (string layer) ∷ Some (dir_data dir) ∷ Some (whole amount) ∷ Some (inform_data kind) ∷ []

abbrev pub bias_values : List ℕ → Bias → List (Option Data)
bias_values layer bias = Some (string layer) ∷ Some (dir_data bias.dir) ∷ Some (percent_data bias.bias) ∷ []

-- all nine parameters of an ask
abbrev pub ask_values : Ask → List (Option Data)
ask_values ask =
    Some (node_data ask.source) ∷ Some (node_data ask.destination) ∷ Some (whole ask.amount) ∷ Some (layers_data ask.layers)
    ∷ Some (whole ask.maxfee) ∷ Some (whole ask.final_cltv) ∷ Some (whole ask.maxdelay) ∷ Some (whole ask.maxparts)
    ∷ Some (boolean ask.certificate) ∷ []

-- the method of a command and its parameters; an absent one is left out
abbrev pub request_data : Command → List ℕ × Data
request_data (CreateLayer layer) = (names.CREATE_LAYER.now, named layer_table (Some (string layer) ∷ []))
request_data (RemoveLayer layer) = (names.REMOVE_LAYER.now, named layer_table (Some (string layer) ∷ []))
request_data (ListLayers layer) = (names.LIST_LAYERS.now, named layer_table (option_map string layer ∷ []))
request_data (CreateChannel layer channel) = (names.CREATE_CHANNEL.now, named channel_table (channel_values layer channel))
request_data (UpdateChannel layer change) = (names.UPDATE_CHANNEL.now, named update_table (update_values layer change))
request_data (InformChannel layer dir amount kind) = (names.INFORM_CHANNEL.now, named inform_table (inform_values layer dir amount kind))
request_data (BiasChannel layer bias) = (names.BIAS_CHANNEL.now, named bias_table (bias_values layer bias))
request_data (DisableNode layer node) = (names.DISABLE_NODE.now, named node_table (Some (string layer) ∷ Some (node_data node) ∷ []))
request_data (Age layer cutoff) = (names.AGE.now, named age_table (Some (string layer) ∷ Some (whole cutoff) ∷ []))
request_data (Reserve path) = (names.RESERVE.now, named path_table (Some (path_data path) ∷ []))
request_data (Unreserve path) = (names.UNRESERVE.now, named path_table (Some (path_data path) ∷ []))
request_data ListReservations = (names.LIST_RESERVATIONS.now, named empty_table [])
request_data (GetRoutes ask) = (names.GET_ROUTES.now, named routes_table (ask_values ask))

abbrev pub method_of : Command → List ℕ
method_of command = (request_data command).0

abbrev pub params_data : Command → Data
params_data command = (request_data command).1
