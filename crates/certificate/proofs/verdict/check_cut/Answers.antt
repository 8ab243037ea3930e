use Rattle.std.proofs.Common.{ℕ, ◌≤◌, arith}
use Rattle.std.proofs.lemmas.List.{length-map}
use Rattle.std.proofs.lemmas.List.Elements.{All-map}
use Rattle.plan_base.specs.declared.amount.TheConstants.{MAX}
use Rattle.flow_model.specs.declared.instance.Arc.{Arc}
use Rattle.flow_model.specs.Side.{crossing}
use Rattle.flow_model.proofs.Costs.{room_fits}
use Rattle.certificate.specs.Cert.{arcs_in}
use Rattle.certificate.proofs.Loads.{sum_map}
use Rattle.certificate.proofs.verdict.check_cut.Goals as goal

pub leaving_room-requires-clause-fits : goal.leaving_room-requires-clause-fits
leaving_room-requires-clause-fits c =
    let first = λ (l : Arc × ℕ). l.0 in
    let fits = room_fits c.args.side.now (arcs_in c.args.loads.now) (All-map (λ a. a.room ≤ MAX) first c.args.loads.now c.requires.rooms) (omega (arith, length-map c.args.loads.now first, c.requires.few)) in
    omega (arith, fits, sum_map (crossing c.args.side.now) first c.args.loads.now)
