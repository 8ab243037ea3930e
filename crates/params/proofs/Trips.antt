-- The parameters that are written for a command are read back as that command.
use Rattle.std.proofs.Common.{◌≡◌, ◌≢◌, ℕ, Bool, true, false, List, [], ◌∷◌, Option, Some, Result, Ok, refl}
use Rattle.std.specs.Prelude.{get_or, bytes_eq, option_map, is_some}
use Rattle.std.specs.List.{list_any, list_all}
use Rattle.std.proofs.lemmas.Bool.Decides.{Decides-eqb}
use Rattle.std.proofs.lemmas.Slice.Eq.{slice_eq-Decides}
use Rattle.serde_json.specs.Data.{Data, string, boolean}
use Rattle.serde_json.specs.Find.{as_null}
use Rattle.rpc_lines.specs.Json.{whole, dir_data, node_data, scid_data}
use Rattle.plan_base.specs.Dir.{Direction}
use Rattle.plan_base.specs.declared.held.Held.{Held}
use Rattle.layer.specs.declared.records.Created.{Created}
use Rattle.layer.specs.declared.records.Update.{Update}
use Rattle.layer.specs.declared.ask.Ask.{Ask}
use Rattle.layer.specs.declared.records.Bias.{Bias}
use Rattle.askrene_command.specs.Command.{is_impossible}
use Rattle.askrene_command.specs.declared.command.Command.{Command}
use Rattle.askrene_command.specs.declared.command.Command.TheVariants.{ListLayers, CreateChannel, UpdateChannel, InformChannel, BiasChannel, DisableNode, Age, ListReservations, GetRoutes}
use Rattle.askrene_command.specs.declared.command.Inform.{Inform}
use Rattle.params.specs.Parameters.{given, required, optional, needs, may_have, refused_if, if_known, is_too_long, unknown_name}
use Rattle.params.specs.Kinds.{name_value, node_value, dir_value, scid_value, positive_value, parts_value, layers_value, inform_value, flag_value, whole_value, whole_up_to, amount_value, amount_up_to, percent_value, path_value}
use Rattle.params.specs.Tables.{layer_table, channel_table, update_table, inform_table, bias_table, node_table, age_table, path_table, routes_table}
use Rattle.params.specs.Methods.{fee_max, delay_max, same_node, layer_command, list_layers_command, create_channel_command, get_routes_command, update_channel_command, inform_channel_command, bias_channel_command, disable_node_command, age_command, path_command, list_reservations_command}
use Rattle.params.specs.Printed.{named, put_all, inform_data, percent_data, path_data, layers_data, channel_values, ask_values, update_values, inform_values, bias_values, params_data}
use Rattle.params.proofs.Members.{are_distinct, value_at, found, none_unknown_in}

-- each step of reading the parameters that a table and values give
needs_back : {A B : Type 0} {value : Data} {good : A} {all : Result B (List ℕ)}
    → (table : List (List ℕ)) (values : List (Option Data)) (place : ℕ) (reads : Data → Option A) (next : A → Result B (List ℕ)) → are_distinct table ≡ true
    → value_at (get_or table place []) table values ≡ Some value → required reads (Some value) ≡ Some good → next good ≡ all
    → needs table (named table values) place reads next ≡ all
unfolding given
needs_back table values place reads next distinct at back rest = rw (found (get_or table place []) table values distinct, at, back) rest

may_have_back : {A B : Type 0} {value : Option Data} {good : Option A} {all : Result B (List ℕ)}
    → (table : List (List ℕ)) (values : List (Option Data)) (place : ℕ) (reads : Data → Option A) (next : Option A → Result B (List ℕ)) → are_distinct table ≡ true
    → value_at (get_or table place []) table values ≡ value → optional reads value ≡ Some good → next good ≡ all
    → may_have table (named table values) place reads next ≡ all
unfolding given
may_have_back table values place reads next distinct at back rest = rw (found (get_or table place []) table values distinct, at, back) rest

refused_if_back : {B : Type 0} {broken : Bool} {rest all : Result B (List ℕ)} → (name : List ℕ) → broken ≡ false → rest ≡ all → refused_if broken name rest ≡ all
refused_if_back name kept same = rw kept same

if_known_back : {B : Type 0} {good : B} → (table : List (List ℕ)) (values : List (Option Data)) → list_all (λ name. list_any (bytes_eq name) table) table ≡ true
    → if_known table (named table values) good ≡ Ok good
unfolding unknown_name
if_known_back table values listed = rw (none_unknown_in table values listed) refl

not_true : (b : Bool) → (b ≡ true → ⊥) → b ≡ false
not_true true never = absurd (never refl)
not_true false never = refl

-- nodes with different ids are not the same
pub apart_nodes : (a b : List ℕ) → a ≢ b → same_node a b ≡ false
apart_nodes a b apart = not_true (same_node a b) (λ same. apart ((slice_eq-Decides Decides-eqb a b (same_node a b) refl).0 same))

-- the methods
pub layer_trip : (make : List ℕ → Command) (layer : List ℕ) → required name_value (Some (string layer)) ≡ Some layer
    → layer_command make (named layer_table (Some (string layer) ∷ [])) ≡ Ok (make layer)
unfolding layer_command is_too_long
layer_trip make layer b0 =
    let v = Some (string layer) ∷ [] in needs_back layer_table v 0 _ _ refl refl b0 (if_known_back layer_table v refl)

pub list_layers_trip : (layer : Option (List ℕ)) → optional name_value (option_map string layer) ≡ Some layer
    → list_layers_command (params_data (ListLayers layer)) ≡ Ok (ListLayers layer)
unfolding list_layers_command is_too_long
list_layers_trip layer b0 =
    let v = option_map string layer ∷ [] in may_have_back layer_table v 0 _ _ refl refl b0 (if_known_back layer_table v refl)

pub create_channel_trip : (layer : List ℕ) (channel : Created) → required name_value (Some (string layer)) ≡ Some layer
    → required node_value (Some (node_data channel.source)) ≡ Some channel.source
    → required node_value (Some (node_data channel.destination)) ≡ Some channel.destination
    → required scid_value (Some (scid_data channel.scid)) ≡ Some channel.scid
    → required positive_value (Some (whole channel.capacity)) ≡ Some channel.capacity
    → same_node channel.source channel.destination ≡ false
    → create_channel_command (params_data (CreateChannel layer channel)) ≡ Ok (CreateChannel layer channel)
unfolding create_channel_command is_too_long
create_channel_trip layer channel b0 b1 b2 b3 b4 apart =
    let t = channel_table in let v = channel_values layer channel in
    needs_back t v 0 _ _ refl refl b0 (needs_back t v 1 _ _ refl refl b1 (needs_back t v 2 _ _ refl refl b2 (needs_back t v 3 _ _ refl refl b3
    (needs_back t v 4 _ _ refl refl b4 (refused_if_back _ apart (if_known_back t v refl))))))

pub update_channel_trip : (layer : List ℕ) (change : Update)
    → required name_value (Some (string layer)) ≡ Some layer
    → required dir_value (Some (dir_data change.dir)) ≡ Some change.dir
    → optional flag_value (option_map boolean change.enabled) ≡ Some change.enabled
    → optional amount_value (option_map whole change.htlc_min) ≡ Some change.htlc_min
    → optional amount_value (option_map whole change.htlc_max) ≡ Some change.htlc_max
    → optional (amount_up_to fee_max) (option_map whole change.base) ≡ Some change.base
    → optional (whole_up_to fee_max) (option_map whole change.ppm) ≡ Some change.ppm
    → optional (whole_up_to delay_max) (option_map whole change.delay) ≡ Some change.delay
    → update_channel_command (params_data (UpdateChannel layer change)) ≡ Ok (UpdateChannel layer change)
unfolding update_channel_command is_too_long
update_channel_trip layer change b0 b1 b2 b3 b4 b5 b6 b7 =
    let t = update_table in let v = update_values layer change in
    needs_back t v 0 _ _ refl refl b0 (needs_back t v 1 _ _ refl refl b1 (may_have_back t v 2 _ _ refl refl b2 (may_have_back t v 3 _ _ refl refl b3
    (may_have_back t v 4 _ _ refl refl b4 (may_have_back t v 5 _ _ refl refl b5 (may_have_back t v 6 _ _ refl refl b6
    (may_have_back t v 7 _ _ refl refl b7 (if_known_back t v refl))))))))

pub inform_channel_trip : (layer : List ℕ) (dir : Direction) (amount : ℕ) (kind : Inform) → required name_value (Some (string layer)) ≡ Some layer
    → required dir_value (Some (dir_data dir)) ≡ Some dir → required amount_value (Some (whole amount)) ≡ Some amount
    → required inform_value (Some (inform_data kind)) ≡ Some kind → is_impossible kind amount ≡ false
    → inform_channel_command (params_data (InformChannel layer dir amount kind)) ≡ Ok (InformChannel layer dir amount kind)
unfolding inform_channel_command is_too_long
inform_channel_trip layer dir amount kind b0 b1 b2 b3 possible =
    let t = inform_table in let v = inform_values layer dir amount kind in
    needs_back t v 0 _ _ refl refl b0 (needs_back t v 1 _ _ refl refl b1 (needs_back t v 2 _ _ refl refl b2 (needs_back t v 3 _ _ refl refl b3
    (refused_if_back _ possible (if_known_back t v refl)))))

pub bias_channel_trip : (layer : List ℕ) (bias : Bias) → required name_value (Some (string layer)) ≡ Some layer
    → required dir_value (Some (dir_data bias.dir)) ≡ Some bias.dir → required percent_value (Some (percent_data bias.bias)) ≡ Some bias.bias
    → bias_channel_command (params_data (BiasChannel layer bias)) ≡ Ok (BiasChannel layer bias)
unfolding bias_channel_command is_too_long
bias_channel_trip layer bias b0 b1 b2 =
    let t = bias_table in let v = bias_values layer bias in
    needs_back t v 0 _ _ refl refl b0 (needs_back t v 1 _ _ refl refl b1 (needs_back t v 2 _ _ refl refl b2 (if_known_back t v refl)))

pub disable_node_trip : (layer node : List ℕ) → required name_value (Some (string layer)) ≡ Some layer → required node_value (Some (node_data node)) ≡ Some node
    → disable_node_command (params_data (DisableNode layer node)) ≡ Ok (DisableNode layer node)
unfolding disable_node_command is_too_long
disable_node_trip layer node b0 b1 =
    let v = Some (string layer) ∷ Some (node_data node) ∷ [] in
    needs_back node_table v 0 _ _ refl refl b0 (needs_back node_table v 1 _ _ refl refl b1 (if_known_back node_table v refl))

pub age_trip : (layer : List ℕ) (cutoff : ℕ) → required name_value (Some (string layer)) ≡ Some layer → required whole_value (Some (whole cutoff)) ≡ Some cutoff
    → age_command (params_data (Age layer cutoff)) ≡ Ok (Age layer cutoff)
unfolding age_command is_too_long
age_trip layer cutoff b0 b1 =
    let v = Some (string layer) ∷ Some (whole cutoff) ∷ [] in
    needs_back age_table v 0 _ _ refl refl b0 (needs_back age_table v 1 _ _ refl refl b1 (if_known_back age_table v refl))

pub path_trip : (make : List Held → Command) (path : List Held) → required path_value (Some (path_data path)) ≡ Some path
    → path_command make (named path_table (Some (path_data path) ∷ [])) ≡ Ok (make path)
unfolding path_command is_too_long
path_trip make path b0 =
    let v = Some (path_data path) ∷ [] in needs_back path_table v 0 _ _ refl refl b0 (if_known_back path_table v refl)

-- a value that is given is read as such
given_back : {A : Type 0} (reads : Data → Option A) (value : Data) (good : A) → is_some (as_null value) ≡ false → required reads (Some value) ≡ Some good
    → optional reads (Some value) ≡ Some (Some good)
unfolding required optional
given_back reads value good there back = rw (there, back) refl

pub get_routes_trip : (ask : Ask)
    → required node_value (Some (node_data ask.source)) ≡ Some ask.source
    → required node_value (Some (node_data ask.destination)) ≡ Some ask.destination
    → required positive_value (Some (whole ask.amount)) ≡ Some ask.amount
    → required layers_value (Some (layers_data ask.layers)) ≡ Some ask.layers
    → required amount_value (Some (whole ask.maxfee)) ≡ Some ask.maxfee
    → required (whole_up_to delay_max) (Some (whole ask.final_cltv)) ≡ Some ask.final_cltv
    → required (whole_up_to delay_max) (Some (whole ask.maxdelay)) ≡ Some ask.maxdelay
    → required parts_value (Some (whole ask.maxparts)) ≡ Some ask.maxparts
    → required flag_value (Some (boolean ask.certificate)) ≡ Some ask.certificate
    → same_node ask.source ask.destination ≡ false
    → get_routes_command (params_data (GetRoutes ask)) ≡ Ok (GetRoutes ask)
unfolding get_routes_command is_too_long
get_routes_trip ask b0 b1 b2 b3 b4 b5 b6 b7 b8 apart =
    let t = routes_table in let v = ask_values ask in
    needs_back t v 0 _ _ refl refl b0 (needs_back t v 1 _ _ refl refl b1 (needs_back t v 2 _ _ refl refl b2 (needs_back t v 3 _ _ refl refl b3
    (needs_back t v 4 _ _ refl refl b4 (needs_back t v 5 _ _ refl refl b5 (may_have_back t v 6 _ _ refl refl (given_back _ _ _ refl b6)
    (may_have_back t v 7 _ _ refl refl (given_back _ _ _ refl b7) (may_have_back t v 8 _ _ refl refl (given_back _ _ _ refl b8)
    (refused_if_back _ apart (if_known_back t v refl))))))))))

pub list_reservations_trip : list_reservations_command (params_data ListReservations) ≡ Ok ListReservations
unfolding list_reservations_command put_all is_too_long unknown_name
list_reservations_trip = refl
