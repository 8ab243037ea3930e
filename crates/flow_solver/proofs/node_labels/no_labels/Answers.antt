use Rattle.std.proofs.Common.{sym, subst}
use Rattle.flow_solver.specs.NodeLabels.{IsListed}
use Rattle.flow_solver.proofs.Listed.{listed_none}
use Rattle.flow_solver.proofs.Rows.{short_none}
use Rattle.flow_solver.proofs.node_labels.no_labels.Goals as goal

pub invariant_of-result : goal.invariant_of-result
invariant_of-result c = subst (λ labels. IsListed labels c.new.result.items) (sym (short_none _ c.args.nodes (c.in_ok-from_elem.ensures.items_if_clones_equal (λ y e. e)))) (subst (IsListed _) (sym c.new.ensures.items) (listed_none c.args.nodes))

pub returns : goal.returns
returns c = short_none _ _ (c.in_ok-from_elem.ensures.items_if_clones_equal (λ y e. e))
