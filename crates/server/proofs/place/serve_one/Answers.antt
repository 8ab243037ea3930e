use Rattle.std.proofs.Common.{refl, ap, ◌∙◌, ◌++◌, ◌∷◌, []}
use Rattle.server.specs.declared.worker.Session.{Session}
use Rattle.server.proofs.Turns.{may_draw, goes_on}
use Rattle.server.proofs.place.serve_one.Goals as goal

pub draw-number-requires-clause-going : goal.draw-number-requires-clause-going
draw-number-requires-clause-going g c = may_draw _ _ _ _ _ c.requires.going

pub returns-clause-going : goal.returns-clause-going
returns-clause-going g c =
    let s : Session g.row.V-End.Denot = record { number = c.draw-number.result; caller = c.number-caller.result; end = c.serve-end.result } in
    let served = c.serve-end.ensures in
    let pass = c.in-Ok-pass.ensures in
    λ _. goes_on _ _ _ _ s _ _ _ _ _ _ _ _ c.requires.going c.draw-number.ensures.drawn (c.push_reserved.ensures.items ∙ ap (λ l. l ++ s ∷ []) c.reserve.ensures.items) refl c.if-number-connections.false c.number-caller.ensures pass.continues pass.made served.number served.made_from served.taken_in served.end c.join.ensures.joined
