-- Which contents answer an ask at a position of the history: what tells that there is no view, or a run of rounds on the
-- view with its outcome.
use Rattle.std.specs.Prelude.{◌≡◌, ◌⊎◌, ℕ, pos, List, length, filter, cond, nat_lt, ◌||◌, ◌&&◌, not, Bool, Option, Some, None, codes}
use Rattle.std.specs.List.{range_with_len}
use Rattle.serde_json.specs.Data.{Data, string, object, member, no_members}
use Rattle.rpc_lines.specs.Json.{whole}
use Rattle.rpc_lines.specs.Reply.{Content, with_result, with_error}
use Rattle.channel_map.specs.declared.edge.Edge.{Edge}
use Rattle.layer.specs.Snapshot.{SnapshotParts}
use Rattle.layer.specs.declared.ask.Ask.{Ask}
use Rattle.flow_model.specs.Instance.{Net}
use Rattle.flow_model.specs.Side.{on_side}
use Rattle.certificate.specs.declared.limits.TheConstants.{CERT_ARCS_MAX, CERT_NODES_MAX}
use Rattle.certificate.specs.Certificate.{flow_certificate, cut_certificate}
use Rattle.certificate.specs.Text.{certificate_text}
use Rattle.view_build.specs.View.{ViewParts, IsGoodView}
use Rattle.view_build.specs.Built.{ViewSources, sources_of, IsView, IsViewFault}
use Rattle.view_build.specs.declared.fault.ViewFault.{ViewFault}
use Rattle.view_build.specs.declared.fault.ViewFault.TheVariants.{SourceUnknown, DestinationUnknown, NoMemory}
use Rattle.round_rules.specs.declared.round.Round.{Round}
use Rattle.round_rules.specs.declared.run.Outcome.{Outcome}
use Rattle.round_rules.specs.declared.run.Outcome.TheVariants.{Parts, NoFlow, OverFee, OverDelay}
use Rattle.round_rules.specs.Runs.{IsRun}
use Rattle.plan_answer.specs.Records.{list_data, member_if}
use Rattle.plan_answer.specs.EventReply.{at_place}
use Rattle.plan_answer.specs.RouteRecords.{fee_data, indexed_node_data, round_data, route_data}

-- an end of the ask that no direction of the view touches
abbrev pub unknown_end : List ℕ → List ℕ → ℕ → Content
unknown_end message limit at = with_error (pos 205) message (at_place at (member (codes "limit") (string limit) no_members))

-- None: out of memory is told by no content of this kind
abbrev pub view_fault_content : ℕ → ViewFault → Option Content
view_fault_content at SourceUnknown = Some (unknown_end (codes "unknown source") (codes "source") at)
view_fault_content at DestinationUnknown = Some (unknown_end (codes "unknown destination") (codes "destination") at)
view_fault_content at NoMemory = None

-- the routes with the sum of their fees and how likely they are, all rounds, and the certificate if there is one
unfoldable pub routes_content : ℕ → Option (List ℕ) → ℕ → ℕ → Data → Data → Content
routes_content at certificate fee ppm rounds routes =
    with_result (at_place at (member_if (codes "certificate") string certificate
    (member (codes "fee_msat") (fee_data fee)
    (member (codes "probability_ppm") (whole ppm)
    (member (codes "rounds") rounds
    (member (codes "routes") routes no_members))))))

-- there are routes, but the certificate that was asked for is too large
unfoldable pub too_large_content : ℕ → Net → Data → Content
too_large_content at net rounds =
    with_error (pos 309) (codes "certificate too large") (object (member (codes "arcs") (whole (length net.arcs))
    (member (codes "at") (whole at)
    (member (codes "nodes") (whole net.nodes)
    (member (codes "rounds") rounds no_members)))))

-- no flow of the last round's problem is feasible
unfoldable pub no_flow_content : ℕ → Option (List ℕ) → Data → Data → Content
no_flow_content at certificate cut rounds =
    with_error (pos 205) (codes "no flow") (at_place at (member_if (codes "certificate") string certificate
    (member (codes "cut") cut
    (member (codes "limit") (string (codes "flow"))
    (member (codes "rounds") rounds no_members)))))

-- the fees are above the greatest fee at every fee level
unfoldable pub over_fee_content : ℕ → ℕ → Data → Content
over_fee_content at fee rounds =
    with_error (pos 206) (codes "fee too high") (at_place at (member (codes "fee_msat") (fee_data fee)
    (member (codes "limit") (string (codes "maxfee"))
    (member (codes "rounds") rounds no_members))))

-- the delay of a part is above the greatest delay at every delay level
unfoldable pub over_delay_content : ℕ → ℕ → ℕ → Data → Content
over_delay_content at part delay rounds =
    with_error (pos 205) (codes "delay too high") (at_place at (member (codes "delay") (whole delay)
    (member (codes "limit") (string (codes "maxdelay"))
    (member (codes "part") (whole part)
    (member (codes "rounds") rounds no_members)))))

-- whether an instance has no certificate
abbrev pub is_too_large : Net → Bool
is_too_large net = nat_lt CERT_ARCS_MAX (length net.arcs) || nat_lt CERT_NODES_MAX net.nodes

-- the text of a certificate is there if it was asked for and its instance is not too large
abbrev pub text_if_asked : Ask → Net → List ℕ → Option (List ℕ)
text_if_asked ask net text = cond (ask.certificate && not (is_too_large net)) (Some text) None

-- the indexes of the nodes on a side, ascending
abbrev pub nodes_on : ViewParts → List Bool → List ℕ
nodes_on view side = filter (on_side side) (range_with_len 0 (length view.nodes))

-- what a run of rounds and its outcome answer
abbrev pub outcome_content : ViewParts → Ask → ℕ → List Round → Outcome → Content
outcome_content view ask at rounds (Parts routes fee ppm net flow potentials) =
    cond (ask.certificate && is_too_large net)
    (too_large_content at net (list_data (round_data view) rounds))
    (routes_content at (text_if_asked ask net (certificate_text (flow_certificate net flow potentials))) fee ppm (list_data (round_data view) rounds) (list_data (route_data view ask) routes))
outcome_content view ask at rounds (NoFlow net side) =
    no_flow_content at (text_if_asked ask net (certificate_text (cut_certificate net side))) (list_data (indexed_node_data view) (nodes_on view side)) (list_data (round_data view) rounds)
outcome_content view ask at rounds (OverFee fee) = over_fee_content at fee (list_data (round_data view) rounds)
outcome_content view ask at rounds (OverDelay part delay) = over_delay_content at part delay (list_data (round_data view) rounds)

-- the content tells why there is no view
pub record TellsViewFault (sources : ViewSources) (at : ℕ) (content : Content) : Type 0 where
  pub fault : ViewFault
  pub is_fault : IsViewFault sources fault
  pub told : Some content ≡ view_fault_content at fault

-- the content tells of a run on a view, and of its outcome
pub record TellsRunOn (view : ViewParts) (ask : Ask) (at : ℕ) (content : Content) : Type 0 where
  pub rounds : List Round
  pub outcome : Outcome
  pub is_run : IsRun view ask rounds outcome
  pub told : content ≡ outcome_content view ask at rounds outcome

-- there is a view, and the content tells of a run on it
pub record TellsRun (sources : ViewSources) (at : ℕ) (content : Content) : Type 0 where
  pub view : ViewParts
  pub is_view : IsView sources view
  pub is_good : IsGoodView view
  pub tells : TellsRunOn view sources.ask at content

-- the content answers the ask of a snapshot over the channels of a map and of a local file
abbrev pub AnswersAsk : List Edge → List Edge → SnapshotParts → ℕ → Content → Type 0
AnswersAsk channels local snapshot at content = TellsViewFault (sources_of channels local snapshot) at content ⊎ TellsRun (sources_of channels local snapshot) at content
