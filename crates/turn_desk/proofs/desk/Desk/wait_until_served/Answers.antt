use Rattle.std.proofs.Common.{rules, ap, ◌∙◌}
use Rattle.turn_desk.proofs.Turns.{looks_allowed}
use Rattle.turn_desk.proofs.desk.Desk.wait_until_served.Goals as goal

pub load-requires : goal.load-requires
load-requires g c = let same = c.loop.invariant.1 in let o = c.requires.outside in
    (search rules, search rules, looks_allowed _ _ _ (ap (λ m. m.0.has_ticket) same ∙ c.requires.ticket.0) (ap (λ m. m.0.has_turn) same ∙ o.0) (ap (λ m. m.0.has_read) same ∙ o.1) (ap (λ m. m.0.spent) same ∙ o.2))
