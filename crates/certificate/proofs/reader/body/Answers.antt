use Rattle.std.proofs.Common.{◌<◌, ap, arith, length}
use Rattle.certificate.specs.Cert.{IsLoad}
use Rattle.certificate.proofs.Grammar.{few_arcs}
use Rattle.std.proofs.lemmas.List.Elements.{All-same}
use Rattle.certificate.proofs.Texts.{arcs_read, body_read}
use Rattle.certificate.proofs.reader.body.Goals as goal

pub evidence-requires-clause-froms : goal.evidence-requires-clause-froms
evidence-requires-clause-froms c =
    let h = arcs_read c.args.kind c.args.problem c.args.text.now c.in_ok-loads.text.now c.in_ok-loads.loads.items c.requires c.in_ok-loads.ensures.ok in
    All-same (λ l. l.0.from < c.args.problem.nodes) c.deref.result.now c.in_ok-loads.loads.items c.deref.ensures.value h.froms

pub evidence-requires-clause-tos : goal.evidence-requires-clause-tos
evidence-requires-clause-tos c =
    let h = arcs_read c.args.kind c.args.problem c.args.text.now c.in_ok-loads.text.now c.in_ok-loads.loads.items c.requires c.in_ok-loads.ensures.ok in
    All-same (λ l. l.0.to < c.args.problem.nodes) c.deref.result.now c.in_ok-loads.loads.items c.deref.ensures.value h.tos

pub evidence-requires-clause-units : goal.evidence-requires-clause-units
evidence-requires-clause-units c =
    let h = arcs_read c.args.kind c.args.problem c.args.text.now c.in_ok-loads.text.now c.in_ok-loads.loads.items c.requires c.in_ok-loads.ensures.ok in
    All-same (IsLoad c.args.kind) c.deref.result.now c.in_ok-loads.loads.items c.deref.ensures.value h.units

pub evidence-requires-clause-few : goal.evidence-requires-clause-few
evidence-requires-clause-few c =
    let h = arcs_read c.args.kind c.args.problem c.args.text.now c.in_ok-loads.text.now c.in_ok-loads.loads.items c.requires c.in_ok-loads.ensures.ok in
    omega (arith, h.long, ap length c.deref.ensures.value, few_arcs c.args.problem.version c.args.problem.arcs c.requires.few_arcs)

pub invariant_of-result : goal.invariant_of-result
invariant_of-result c =
    let loads = c.in_ok-loads.loads.items in
    let h = arcs_read c.args.kind c.args.problem c.args.text.now c.in_ok-loads.text.now loads c.requires c.in_ok-loads.ensures.ok in
    let answer = rw c.deref.ensures.value at c.in_ok-evidence.ensures.ok in
    let fits = rw c.deref.ensures.value at c.in_ok-evidence.ensures.loads in
    (body_read c.args.kind c.args.problem c.args.text.now c.in_ok-loads.text.now loads _ c.requires c.in_ok-loads.ensures.ok answer, fits, h.long)
