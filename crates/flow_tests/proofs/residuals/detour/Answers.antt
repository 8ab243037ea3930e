use Rattle.std.proofs.Common.{rules, ◌≡◌, subst, sym}
use Rattle.flow_model.specs.Instance.{IsInstance}
use Rattle.residual_net.specs.Detour.{detour_arcs}
use Rattle.residual_net.proofs.DetourIsInstance.{detour_is_instance}
use Rattle.flow_tests.proofs.residuals.detour.Goals as goal

pub new-requires : goal.new-requires
new-requires c =
    let made : c.in_ok-arcs.arcs.items ≡ detour_arcs = search rules in
    subst (λ xs. IsInstance record { nodes = 4; source = 0; destination = 3; demand = c.args.demand; arcs = xs }) (sym made) (detour_is_instance c.args.demand c.requires.some c.requires.most)
