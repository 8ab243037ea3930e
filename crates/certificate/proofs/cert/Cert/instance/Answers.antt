use Rattle.std.proofs.Common.{refl, ◌≡◌, ◌∙◌, ap, sym, subst, List}
use Rattle.flow_model.specs.declared.instance.Arc.{Arc}
use Rattle.flow_model.specs.Instance.{IsInstance}
use Rattle.certificate.specs.Cert.{arcs_in}
use Rattle.certificate.specs.Certificate.{Certificate}
use Rattle.certificate.specs.Order.{AreSorted}
use Rattle.certificate.proofs.Sorted.{sorted_instance}
use Rattle.certificate.proofs.cert.Cert.instance.Goals as goal

pub returns-then-not-are_sorted-clause-none : goal.returns-then-not-are_sorted-clause-none
returns-then-not-are_sorted-clause-none c sorted =
    let view : arcs_in c.self.inside.loads.items ≡ c.args.self.now.net.arcs = ap (λ (x : Certificate). x.net.arcs) c.self.view_is in
    let arcs : c.deref-2.result.now ≡ arcs_in c.self.inside.loads.items = c.deref-2.ensures.value ∙ c.in_ok-arcs.ensures ∙ ap arcs_in c.deref.ensures.value in
    c.if-not-are_sorted.ensures.no refl (subst AreSorted (sym (arcs ∙ view)) sorted)

pub new-requires : goal.new-requires
new-requires c =
    let made : c.in_ok-arcs.arcs.items ≡ arcs_in c.self.inside.loads.items = c.in_ok-arcs.ensures ∙ ap arcs_in c.deref.ensures.value in
    let sorted = subst AreSorted (c.deref-2.ensures.value ∙ made) (c.if-not-are_sorted.ensures.yes refl) in
    let problem = c.self.inside.problem in
    subst (λ (xs : List Arc). IsInstance (record { nodes = problem.nodes; source = problem.source; destination = problem.destination; demand = problem.demand; arcs = xs })) (sym made)
    (sorted_instance _ c.self.invariant.0 sorted)

pub returns-clause-sorted : goal.returns-clause-sorted
returns-clause-sorted c =
    let view : arcs_in c.self.inside.loads.items ≡ c.args.self.now.net.arcs = ap (λ (x : Certificate). x.net.arcs) c.self.view_is in
    let arcs : c.deref-2.result.now ≡ arcs_in c.self.inside.loads.items = c.deref-2.ensures.value ∙ c.in_ok-arcs.ensures ∙ ap arcs_in c.deref.ensures.value in
    subst AreSorted (arcs ∙ view) (c.if-not-are_sorted.ensures.yes refl)
