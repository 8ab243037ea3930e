use Rattle.std.proofs.Common.{ap, ◌∙◌, map}
use Rattle.std.proofs.lemmas.List.{map-append}
use Rattle.serde_json.specs.Data.{array}
use Rattle.serde_json.specs.View.{items_of, view}
use Rattle.serde_json.proofs.Views.{view-Array}
use Rattle.plan_answer.specs.RouteRecords.{hop_data}
use Rattle.plan_answer.proofs.Nodes.{all_hops, hop_turn}
use Rattle.plan_answer.proofs.routes.hop_list.Goals as goal

pub loop-i-preserved : goal.loop-i-preserved
loop-i-preserved c = hop_turn (hop_data c.args.view.now) c.args.path.now c.args.hops.now c.loop-i.i _ _ _ _ c.loop-i-test.true c.requires.hops c.loop-i.invariant c.in_ok-value.ensures (ap (map view) c.in_ok-push.ensures.items ∙ map-append view c.loop-i.values.items _)

pub returns : goal.returns
returns c = view-Array c.loop-i.values ∙ ap (λ values. array (items_of values)) (c.loop-i.invariant ∙ ap (map (hop_data c.args.view.now)) (all_hops c.args.path.now c.args.hops.now c.loop-i.i c.loop-i-test.false))
