use Rattle.std.proofs.Common.{ap, ◌∙◌, sym, length, subst}
use Rattle.std.specs.Prelude.{All}
use Rattle.residual_net.specs.Residual.{ResidualNet, HasRoomFor, flow_after}
use Rattle.residual_net.proofs.Pushed.{residual_after_push, whole_again, length-flow_after}
use Rattle.flow_solver.proofs.flow_net.FlowNet.push_path.Goals as goal

pub invariant_of-self : goal.invariant_of-self
invariant_of-self c =
    let rooms = subst (λ (r : ResidualNet). All (HasRoomFor r.net.arcs r.flow c.args.amount) c.args.path.now) (sym c.self.view_is) c.requires.room in
    let same = c.push_steps.ensures ∙ ap (λ f. flow_after f c.args.amount c.args.path.now) c.deref_mut.ensures.value in
    let long = ap length same ∙ length-flow_after c.self.inside.flow.items c.args.amount c.args.path.now in
    let len = sym (ap length c.deref_mut.ensures.value) ∙ c.deref_mut.ensures.len in
    residual_after_push (record { net = c.self.inside.instance.now; flow = c.self.inside.flow.items }) _ c.args.amount c.args.path.now c.self.invariant rooms c.requires.distinct (whole_again _ _ _ (long ∙ len) len ∙ same)
