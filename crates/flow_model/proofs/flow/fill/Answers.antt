use Rattle.std.proofs.Common.{◌∙◌, ◌<◌, ◌≤◌, ap, length}
use Rattle.std.proofs.lemmas.List.Elements.{All-weaker}
use Rattle.std.specs.Prelude.{slice_index}
use Rattle.flow_model.specs.Flow.{flow_of, room_of}
use Rattle.flow_model.proofs.Filled.{fits-filled, in_order-filled, length-flow_of, units-filled}
use Rattle.flow_model.proofs.flow.fill.Goals as goal

pub returns-clause-long : goal.returns-clause-long
returns-clause-long c = ap length (c.in_ok-units.ensures ∙ ap (flow_of (slice_index c.args.units.now)) c.arcs.ensures.value) ∙ length-flow_of (slice_index c.args.units.now) c.args.instance.now.arcs

pub returns-clause-fits : goal.returns-clause-fits
returns-clause-fits c = fits-filled c.args.instance.now (slice_index c.args.units.now) _ (c.in_ok-units.ensures ∙ ap (flow_of (slice_index c.args.units.now)) c.arcs.ensures.value)

pub returns-clause-units : goal.returns-clause-units
returns-clause-units c d l = units-filled c.args.instance.now (slice_index c.args.units.now) _ d (c.in_ok-units.ensures ∙ ap (flow_of (slice_index c.args.units.now)) c.arcs.ensures.value) (c.requires.room d l)

pub returns-clause-in_order : goal.returns-clause-in_order
returns-clause-in_order c =
    let instance = c.args.instance.now in
    let units = c.args.units.now in
    let room = All-weaker (λ a. a.dir < length units) (λ a. slice_index units a.dir ≤ room_of a.dir instance.arcs) (λ a l. c.requires.room a.dir l) instance.arcs c.requires.known in
    in_order-filled instance (slice_index units) _ (c.in_ok-units.ensures ∙ ap (flow_of (slice_index units)) c.arcs.ensures.value) room
