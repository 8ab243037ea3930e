use Rattle.std.proofs.Common.{ℕ, ◌<◌, ◌≤◌, arith, length, ap}
use Rattle.plan_base.specs.declared.amount.TheConstants.{MAX}
use Rattle.std.proofs.lemmas.List.Elements.{All-same}
use Rattle.std.proofs.lemmas.List.{length-map}
use Rattle.flow_model.specs.declared.instance.Arc.{Arc}
use Rattle.certificate.proofs.Grammar.{few_arcs}
use Rattle.certificate.proofs.Loads.{All-arcs}
use Rattle.certificate.proofs.verdict.first_gap.Goals as goal

pub check_flow-requires-clause-froms : goal.check_flow-requires-clause-froms
check_flow-requires-clause-froms c = All-same (λ l. l.0.from < c.cert.inside.problem.nodes) _ _ c.deref.ensures.value (All-arcs (λ a. a.from < c.cert.inside.problem.nodes) c.cert.inside.loads.items c.cert.invariant.0.ranges.ends.froms)

pub check_flow-requires-clause-tos : goal.check_flow-requires-clause-tos
check_flow-requires-clause-tos c = All-same (λ l. l.0.to < c.cert.inside.problem.nodes) _ _ c.deref.ensures.value (All-arcs (λ a. a.to < c.cert.inside.problem.nodes) c.cert.inside.loads.items c.cert.invariant.0.ranges.ends.tos)

pub check_cut-requires-clause-froms : goal.check_cut-requires-clause-froms
check_cut-requires-clause-froms c = All-same (λ l. l.0.from < c.cert.inside.problem.nodes) _ _ c.deref-in-Side.ensures.value (All-arcs (λ a. a.from < c.cert.inside.problem.nodes) c.cert.inside.loads.items c.cert.invariant.0.ranges.ends.froms)

pub check_cut-requires-clause-tos : goal.check_cut-requires-clause-tos
check_cut-requires-clause-tos c = All-same (λ l. l.0.to < c.cert.inside.problem.nodes) _ _ c.deref-in-Side.ensures.value (All-arcs (λ a. a.to < c.cert.inside.problem.nodes) c.cert.inside.loads.items c.cert.invariant.0.ranges.ends.tos)

pub check_cut-requires-clause-rooms : goal.check_cut-requires-clause-rooms
check_cut-requires-clause-rooms c = All-same (λ l. l.0.room ≤ MAX) _ _ c.deref-in-Side.ensures.value (All-arcs (λ a. a.room ≤ MAX) c.cert.inside.loads.items (λ k d l. (c.cert.invariant.0.ranges.good_arcs k d l).most_room))

pub check_flow-requires-clause-few : goal.check_flow-requires-clause-few
check_flow-requires-clause-few c = omega (arith, ap length c.deref.ensures.value, length-map c.cert.inside.loads.items (λ (l : Arc × ℕ). l.0), few_arcs c.cert.inside.problem.version _ c.cert.invariant.0.ranges.few_arcs)

pub check_cut-requires-clause-few : goal.check_cut-requires-clause-few
check_cut-requires-clause-few c = omega (arith, ap length c.deref-in-Side.ensures.value, length-map c.cert.inside.loads.items (λ (l : Arc × ℕ). l.0), few_arcs c.cert.inside.problem.version _ c.cert.invariant.0.ranges.few_arcs)
