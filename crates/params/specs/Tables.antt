-- The parameters of each method, by their names in the order of an array.
use Rattle.std.specs.Prelude.{ℕ, List, [], ◌∷◌, map}
use Rattle.params.specs.declared.names.TheConstants as names
use Rattle.params.specs.declared.names.TheConstants.{LAYER_TABLE, CHANNEL_TABLE, UPDATE_TABLE, INFORM_TABLE, BIAS_TABLE, NODE_TABLE, AGE_TABLE, PATH_TABLE, EMPTY_TABLE, ROUTES_TABLE}

abbrev pub layer_table : List (List ℕ)
layer_table = map (λ name. name.now) LAYER_TABLE.now

abbrev pub channel_table : List (List ℕ)
channel_table = map (λ name. name.now) CHANNEL_TABLE.now

abbrev pub update_table : List (List ℕ)
update_table = map (λ name. name.now) UPDATE_TABLE.now

abbrev pub inform_table : List (List ℕ)
inform_table = map (λ name. name.now) INFORM_TABLE.now

abbrev pub bias_table : List (List ℕ)
bias_table = map (λ name. name.now) BIAS_TABLE.now

abbrev pub node_table : List (List ℕ)
node_table = map (λ name. name.now) NODE_TABLE.now

abbrev pub age_table : List (List ℕ)
age_table = map (λ name. name.now) AGE_TABLE.now

abbrev pub path_table : List (List ℕ)
path_table = map (λ name. name.now) PATH_TABLE.now

abbrev pub empty_table : List (List ℕ)
empty_table = map (λ name. name.now) EMPTY_TABLE.now

abbrev pub routes_table : List (List ℕ)
routes_table = map (λ name. name.now) ROUTES_TABLE.now

-- all methods, all tables and all automatic layers
abbrev pub method_names : List (List ℕ)
method_names =
    names.CREATE_LAYER.now ∷ names.REMOVE_LAYER.now ∷ names.LIST_LAYERS.now ∷ names.CREATE_CHANNEL.now ∷ names.UPDATE_CHANNEL.now ∷ names.INFORM_CHANNEL.now
    ∷ names.BIAS_CHANNEL.now ∷ names.DISABLE_NODE.now ∷ names.AGE.now ∷ names.RESERVE.now ∷ names.UNRESERVE.now
    ∷ names.LIST_RESERVATIONS.now ∷ names.GET_ROUTES.now ∷ []

abbrev pub tables : List (List (List ℕ))
tables = layer_table ∷ channel_table ∷ update_table ∷ inform_table ∷ bias_table ∷ node_table ∷ age_table ∷ path_table ∷ empty_table ∷ routes_table ∷ []

abbrev pub automatic_names : List (List ℕ)
automatic_names = names.LOCAL_CHANS.now ∷ names.SOURCE_FREE.now ∷ names.NO_MPP.now ∷ []
