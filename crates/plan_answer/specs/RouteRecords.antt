-- The JSON values of rounds and routes. Keys are in ascending byte order. Amounts are numbers in msat, delays numbers of
-- blocks; directions and nodes are the texts of their ids.
use Rattle.std.specs.Prelude.{ℕ, ◌^◌, List, [], cond, nat_lt, slice_index_or, codes, decimal}
use Rattle.serde_json.specs.Data.{Data, string, object, member, no_members}
use Rattle.rpc_lines.specs.Json.{whole, dir_data, node_data}
use Rattle.fee_backward.specs.declared.hop.Hop.{Hop}
use Rattle.path_split.specs.declared.part.Part.{Part}
use Rattle.layer.specs.declared.ask.Ask.{Ask}
use Rattle.view_build.specs.View.{ViewParts}
use Rattle.round_rules.specs.declared.round.Cap.{Cap}
use Rattle.round_rules.specs.declared.round.Fault.{Fault}
use Rattle.round_rules.specs.declared.round.Fault.TheVariants.{None, TooManyParts, Directions, Htlc, Fee, Delay, NoFlow}
use Rattle.round_rules.specs.declared.round.Round.{Round}
use Rattle.round_rules.specs.declared.round.Route.{Route}
use Rattle.round_rules.specs.View.{dir_at}
use Rattle.round_rules.specs.Amounts.{carried_of}
use Rattle.plan_answer.specs.Records.{list_data}

-- readers of JSON lose digits of a number from 2^64 on, so such a fee is the text of its digits
unfoldable pub fee_data : ℕ → Data
fee_data fee = cond (nat_lt fee (2 ^ 64)) (whole fee) (string (decimal fee))

-- the direction at an index of the view
unfoldable pub indexed_dir_data : ViewParts → ℕ → Data
indexed_dir_data view d = dir_data (dir_at view d).dir

-- the node at an index of the view
unfoldable pub indexed_node_data : ViewParts → ℕ → Data
indexed_node_data view v = node_data (slice_index_or view.nodes v [])

unfoldable pub cap_data : ViewParts → Cap → Data
cap_data view cap =
    object (member (codes "cap") (whole cap.cap)
    (member (codes "short_channel_id_dir") (indexed_dir_data view cap.dir)
    (member (codes "times") (whole cap.times) no_members)))

-- the path has the directions from the source on
unfoldable pub part_data : ViewParts → Part → Data
part_data view part =
    object (member (codes "path") (list_data (indexed_dir_data view) part.path) (member (codes "units") (whole part.units) no_members))

-- a fault that has nothing but its kind, and one that lists directions
abbrev pub bare_fault : List ℕ → Data
bare_fault kind = object (member (codes "kind") (string kind) no_members)

abbrev pub listed_fault : List ℕ → ViewParts → List ℕ → Data
listed_fault kind view dirs =
    object (member (codes "kind") (string kind) (member (codes "short_channel_id_dirs") (list_data (indexed_dir_data view) dirs) no_members))

-- fees above the greatest fee, and the first part with a delay above the greatest delay
abbrev pub fee_fault : ℕ → Data
fee_fault fee = object (member (codes "fee_msat") (fee_data fee) (member (codes "kind") (string (codes "fee")) no_members))

abbrev pub delay_fault : ℕ → ℕ → Data
delay_fault part delay =
    object (member (codes "delay") (whole delay) (member (codes "kind") (string (codes "delay")) (member (codes "part") (whole part) no_members)))

unfoldable pub fault_data : ViewParts → Fault → Data
fault_data view None = bare_fault (codes "none")
fault_data view TooManyParts = bare_fault (codes "too_many_parts")
fault_data view (Directions dirs) = listed_fault (codes "directions") view dirs
fault_data view (Htlc dirs) = listed_fault (codes "htlc") view dirs
fault_data view (Fee fee) = fee_fault fee
fault_data view (Delay part delay) = delay_fault part delay
fault_data view NoFlow = bare_fault (codes "no_flow")

unfoldable pub round_data : ViewParts → Round → Data
round_data view r =
    object (member (codes "caps") (list_data (cap_data view) r.caps)
    (member (codes "delay_level") (whole r.delay_level)
    (member (codes "fault") (fault_data view r.fault)
    (member (codes "fee_level") (whole r.fee_level)
    (member (codes "part_max") (whole r.size)
    (member (codes "parts") (list_data (part_data view) r.parts)
    (member (codes "unit_msat") (whole r.unit) no_members)))))))

-- a direction with the hop over it: what the hop asks for, what it carries, its delay, and the node that it leads to
unfoldable pub hop_data : ViewParts → ℕ × Hop → Data
hop_data view l =
    object (member (codes "amount_msat") (whole l.1.amount)
    (member (codes "carried_msat") (whole l.1.carried)
    (member (codes "delay") (whole l.1.delay)
    (member (codes "next_node_id") (indexed_node_data view (dir_at view l.0).to)
    (member (codes "short_channel_id_dir") (indexed_dir_data view l.0) no_members)))))

-- what is delivered, the final CLTV delta of the ask, and the hops
unfoldable pub route_data : ViewParts → Ask → Route → Data
route_data view ask route =
    object (member (codes "amount_msat") (whole route.delivered)
    (member (codes "final_cltv") (whole ask.final_cltv)
    (member (codes "path") (list_data (hop_data view) (carried_of route)) no_members)))
