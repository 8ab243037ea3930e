-- The JSON values of the records of a layer and of reservations. Keys are in ascending byte order. Amounts are numbers in
-- msat, ids are strings.
use Rattle.std.specs.Prelude.{ℕ, ◌-◌, List, map, Option, Some, None, codes}
use Rattle.serde_json.specs.Data.{Data, Members, number, string, boolean, array, object, member, no_members}
use Rattle.serde_json.specs.Find.{of_integer}
use Rattle.serde_json.specs.View.{items_of}
use Rattle.plan_base.specs.Scid.{scid_text}
use Rattle.plan_base.specs.declared.held.Reservation.{Reservation}
use Rattle.rpc_lines.specs.Json.{whole, dir_data, node_data}
use Rattle.layer.specs.Layer.{LayerLists}
use Rattle.layer.specs.declared.records.Created.{Created}
use Rattle.layer.specs.declared.records.Update.{Update}
use Rattle.layer.specs.declared.records.Bound.{Bound}
use Rattle.layer.specs.declared.records.Bound.TheVariants.{Max, Min}
use Rattle.layer.specs.declared.records.Constraint.{Constraint}
use Rattle.layer.specs.declared.records.Bias.{Bias}

-- the members, with one more if its value is given
abbrev pub member_if : {T : Type 0} → List ℕ → (T → Data) → Option T → Members → Members
member_if key prints None rest = rest
member_if key prints (Some value) rest = member key (prints value) rest

unfoldable pub bias_data : Bias → Data
bias_data bias =
    object (member (codes "bias") (number (of_integer bias.bias)) (member (codes "short_channel_id_dir") (dir_data bias.dir) no_members))

-- the direction, and the fields that are given
unfoldable pub update_data : Update → Data
update_data change =
    object (member_if (codes "cltv_expiry_delta") whole change.delay
    (member_if (codes "enabled") boolean change.enabled
    (member_if (codes "fee_base_msat") whole change.base
    (member_if (codes "fee_proportional_millionths") whole change.ppm
    (member_if (codes "htlc_maximum_msat") whole change.htlc_max
    (member_if (codes "htlc_minimum_msat") whole change.htlc_min
    (member (codes "short_channel_id_dir") (dir_data change.dir) no_members)))))))

-- the first key of a constraint
abbrev pub bound_key : Bound → List ℕ
bound_key Max = codes "maximum_msat"
bound_key Min = codes "minimum_msat"

unfoldable pub constraint_data : Constraint → Data
constraint_data constraint =
    object (member (bound_key constraint.bound) (whole constraint.amount)
    (member (codes "short_channel_id_dir") (dir_data constraint.dir)
    (member (codes "timestamp") (whole constraint.moment) no_members)))

unfoldable pub created_data : Created → Data
created_data channel =
    object (member (codes "capacity_msat") (whole channel.capacity)
    (member (codes "destination") (node_data channel.destination)
    (member (codes "short_channel_id") (string (scid_text channel.scid))
    (member (codes "source") (node_data channel.source) no_members))))

-- a reservation, listed at `now`; if the clock went backwards, its age is 0
unfoldable pub reservation_data : ℕ → Reservation → Data
reservation_data now reservation =
    object (member (codes "age_in_seconds") (whole (now - reservation.moment))
    (member (codes "amount_msat") (whole reservation.amount)
    (member (codes "caller") (whole reservation.caller)
    (member (codes "short_channel_id_dir") (dir_data reservation.dir) no_members))))

-- a list of values, in the same order
abbrev pub list_data : {T : Type 0} → (T → Data) → List T → Data
list_data prints list = array (items_of (map prints list))

-- a layer with its name
unfoldable pub layer_data : List ℕ → LayerLists → Data
layer_data name lists =
    object (member (codes "biases") (list_data bias_data lists.biases)
    (member (codes "channel_updates") (list_data update_data lists.updates)
    (member (codes "constraints") (list_data constraint_data lists.constraints)
    (member (codes "created_channels") (list_data created_data lists.created)
    (member (codes "disabled_nodes") (list_data node_data lists.disabled)
    (member (codes "layer") (string name) no_members))))))
