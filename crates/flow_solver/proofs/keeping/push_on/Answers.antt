use Rattle.std.proofs.Common.{◌∙◌, ap, sym, subst, subst₂, length}
use Rattle.flow_model.specs.Instance.{Net}
use Rattle.flow_model.specs.declared.instance.Arc.{Arc}
use Rattle.std.specs.Prelude.{ℕ, List}
use Rattle.residual_net.specs.Residual.{ResidualNet, flow_after}
use Rattle.flow_solver.specs.Lanes.{FitsLanes}
use Rattle.flow_solver.proofs.Fitting.{IsPathMarked, lanes_pushed}
use Rattle.flow_solver.proofs.keeping.push_on.Goals as goal

pub returns-clause-lanes : goal.returns-clause-lanes
returns-clause-lanes c =
    let path = c.args.path.now in
    let new = c.mark.new.lanes.lanes.items in
    let heads = c.args.lanes.now.heads.net in
    let starts = c.args.lanes.now.starts.items in
    let arcs = c.arcs.ensures.value ∙ ap (λ (r : ResidualNet). r.net.arcs) c.push_path.ensures in
    let all = subst (λ (xs : List Arc). IsPathMarked heads.arcs starts xs path (length path) new) arcs c.mark.ensures.all in
    let fit = lanes_pushed c.args.residual.now heads starts c.args.lanes.now.lanes.items new c.args.amount path c.requires.lanes c.mark.ensures.marked all in
    let after : ResidualNet = record { net = c.args.residual.now.net; flow = flow_after c.args.residual.now.flow c.args.amount path } in
    let same = subst₂ (λ (h : Net) (ss : List ℕ). FitsLanes after h ss new) (sym (ap (λ (r : ResidualNet). r.net) c.mark.ensures.heads)) (sym c.mark.ensures.starts) fit in
    subst (λ (r : ResidualNet). FitsLanes r c.mark.new.lanes.heads.net c.mark.new.lanes.starts.items new) (sym c.push_path.ensures) same
