-- No value that a reply is made of contains a floating-point number.
use Rattle.std.proofs.Common.{◌≡◌, ℕ, ℤ, pos, negsuc, ◌^◌, Bool, true, List, [], ◌∷◌, Option, Some, None, false, refl}
use Rattle.std.specs.Prelude.{codes, cond, decimal, nat_lt}
use Rattle.serde_json.specs.Data.{Data, Members, boolean, string}
use Rattle.serde_json.specs.Find.{of_integer, is_float}
use Rattle.serde_json.specs.Written.{has_float, members_have_float}
use Rattle.rpc_lines.specs.Json.{whole, node_data}
use Rattle.plan_base.specs.declared.held.Reservation.{Reservation}
use Rattle.layer.specs.declared.records.Created.{Created}
use Rattle.layer.specs.declared.records.Update.{Update}
use Rattle.layer.specs.declared.records.Constraint.{Constraint}
use Rattle.layer.specs.declared.records.Bias.{Bias}
use Rattle.layer.specs.Layer.{LayerLists}
use Rattle.askrene_command.specs.declared.reply.Listed.{Listed}
use Rattle.plan_answer.specs.Records.{member_if, list_data, bias_data, update_data, constraint_data, created_data, reservation_data, layer_data}
use Rattle.plan_answer.specs.EventReply.{listed_data, at_place}
use Rattle.fee_backward.specs.declared.hop.Hop.{Hop}
use Rattle.path_split.specs.declared.part.Part.{Part}
use Rattle.layer.specs.declared.ask.Ask.{Ask}
use Rattle.view_build.specs.View.{ViewParts}
use Rattle.round_rules.specs.declared.round.Cap.{Cap}
use Rattle.round_rules.specs.declared.round.Fault.{Fault}
use Rattle.round_rules.specs.declared.round.Fault.TheVariants as Faults
use Rattle.round_rules.specs.declared.round.Round.{Round}
use Rattle.round_rules.specs.declared.round.Route.{Route}
use Rattle.round_rules.specs.Amounts.{carried_of}
use Rattle.plan_answer.specs.RouteRecords.{fee_data, indexed_dir_data, indexed_node_data, cap_data, part_data, fault_data, round_data, hop_data, route_data}

list_none : {T : Type 0} (prints : T → Data) → ((x : T) → has_float (prints x) ≡ false) → (list : List T) → has_float (list_data prints list) ≡ false
list_none prints each [] = refl
list_none prints each (x ∷ xs) = rw (each x) (list_none prints each xs)

given_none : {T : Type 0} (key : List ℕ) (prints : T → Data) → ((x : T) → has_float (prints x) ≡ false) → (given : Option T) (rest : Members)
    → members_have_float rest ≡ false → members_have_float (member_if key prints given rest) ≡ false
given_none key prints each None rest e = e
given_none key prints each (Some x) rest e = rw (each x) e

integer_none : (n : ℤ) → is_float (of_integer n) ≡ false
integer_none (pos n) = refl
integer_none (negsuc n) = refl

bias_none : (bias : Bias) → has_float (bias_data bias) ≡ false
unfolding bias_data
bias_none bias = rw (integer_none bias.bias) refl

update_none : (change : Update) → has_float (update_data change) ≡ false
unfolding update_data
update_none change =
    given_none _ whole (λ n. refl) change.delay _
    (given_none _ boolean (λ b. refl) change.enabled _
    (given_none _ whole (λ n. refl) change.base _
    (given_none _ whole (λ n. refl) change.ppm _
    (given_none _ whole (λ n. refl) change.htlc_max _
    (given_none _ whole (λ n. refl) change.htlc_min _ refl)))))

constraint_none : (constraint : Constraint) → has_float (constraint_data constraint) ≡ false
unfolding constraint_data
constraint_none constraint = refl

created_none : (channel : Created) → has_float (created_data channel) ≡ false
unfolding created_data
created_none channel = refl

reservation_none : (now : ℕ) (reservation : Reservation) → has_float (reservation_data now reservation) ≡ false
unfolding reservation_data
reservation_none now reservation = refl

layer_none : (name : List ℕ) (lists : LayerLists) → has_float (layer_data name lists) ≡ false
unfolding layer_data
layer_none name lists =
    rw (
      list_none bias_data bias_none lists.biases,
      list_none update_data update_none lists.updates,
      list_none constraint_data constraint_none lists.constraints,
      list_none created_data created_none lists.created,
      list_none node_data (λ n. refl) lists.disabled,
    ) refl

listed_none : (listed : Listed) → has_float (listed_data listed) ≡ false
unfolding listed_data
listed_none listed = layer_none listed.name listed.layer

pub constraints_none : (constraints : List Constraint) → has_float (list_data constraint_data constraints) ≡ false
constraints_none constraints = list_none constraint_data constraint_none constraints

pub layers_none : (layers : List Listed) → has_float (list_data listed_data layers) ≡ false
layers_none layers = list_none listed_data listed_none layers

pub reservations_none : (now : ℕ) (list : List Reservation) → has_float (list_data (reservation_data now) list) ≡ false
reservations_none now list = list_none (reservation_data now) (reservation_none now) list

fee_none : (fee : ℕ) → has_float (fee_data fee) ≡ false
unfolding fee_data
fee_none fee = by (nat_lt fee (2 ^ 64))
  where
    by : (b : Bool) → has_float (cond b (whole fee) (string (decimal fee))) ≡ false
    by true = refl
    by false = refl

dir_none : (view : ViewParts) (d : ℕ) → has_float (indexed_dir_data view d) ≡ false
unfolding indexed_dir_data
dir_none view d = refl

node_none : (view : ViewParts) (v : ℕ) → has_float (indexed_node_data view v) ≡ false
unfolding indexed_node_data
node_none view v = refl

cap_none : (view : ViewParts) (cap : Cap) → has_float (cap_data view cap) ≡ false
unfolding cap_data
cap_none view cap = rw (dir_none view cap.dir) refl

part_none : (view : ViewParts) (part : Part) → has_float (part_data view part) ≡ false
unfolding part_data
part_none view part = rw (list_none (indexed_dir_data view) (dir_none view) part.path) refl

fault_none : (view : ViewParts) (fault : Fault) → has_float (fault_data view fault) ≡ false
unfolding fault_data
fault_none view Faults.None = refl
fault_none view Faults.TooManyParts = refl
fault_none view (Faults.Directions dirs) = rw (list_none (indexed_dir_data view) (dir_none view) dirs) refl
fault_none view (Faults.Htlc dirs) = rw (list_none (indexed_dir_data view) (dir_none view) dirs) refl
fault_none view (Faults.Fee fee) = rw (fee_none fee) refl
fault_none view (Faults.Delay part delay) = refl
fault_none view Faults.NoFlow = refl

round_none : (view : ViewParts) (r : Round) → has_float (round_data view r) ≡ false
unfolding round_data
round_none view r =
    rw (
      list_none (cap_data view) (cap_none view) r.caps,
      fault_none view r.fault,
      list_none (part_data view) (part_none view) r.parts,
    ) refl

hop_none : (view : ViewParts) (l : ℕ × Hop) → has_float (hop_data view l) ≡ false
unfolding hop_data
hop_none view l = rw (node_none view _, dir_none view l.0) refl

route_none : (view : ViewParts) (ask : Ask) (route : Route) → has_float (route_data view ask route) ≡ false
unfolding route_data
route_none view ask route = rw (list_none (hop_data view) (hop_none view) (carried_of route)) refl

pub rounds_none : (view : ViewParts) (rounds : List Round) → has_float (list_data (round_data view) rounds) ≡ false
rounds_none view rounds = list_none (round_data view) (round_none view) rounds

pub routes_none : (view : ViewParts) (ask : Ask) (routes : List Route) → has_float (list_data (route_data view ask) routes) ≡ false
routes_none view ask routes = list_none (route_data view ask) (route_none view ask) routes

pub nodes_none : (view : ViewParts) (nodes : List ℕ) → has_float (list_data (indexed_node_data view) nodes) ≡ false
nodes_none view nodes = list_none (indexed_node_data view) (node_none view) nodes

-- an object with a place, a text that may be given, and other members
pub certified_none : (at : ℕ) (certificate : Option (List ℕ)) (rest : Members) → members_have_float rest ≡ false → has_float (at_place at (member_if (codes "certificate") string certificate rest)) ≡ false
certified_none at certificate rest none = given_none (codes "certificate") string (λ text. refl) certificate rest none
