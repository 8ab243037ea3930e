use Rattle.std.proofs.Common.{rules, ◌∷◌, Some, sym, ap, ◌∙◌}
use Rattle.atomic_table.specs.Table.{rest}
use Rattle.turn_desk.proofs.Turns.{draws_allowed}
use Rattle.turn_desk.proofs.Commits.{reads_told}
use Rattle.turn_desk.proofs.desk.Desk.take_turn.Goals as goal

pub fetch_add-ticket-requires : goal.fetch_add-ticket-requires
fetch_add-ticket-requires g c = let i = c.requires.idle.0 in (search rules, search rules, draws_allowed _ _ _ i.has_ticket i.has_turn i.spent c.requires.draws)

pub exchange-requires : goal.exchange-requires
exchange-requires g c = let h = c.wait_until_served.ensures.handed in let e = ap (λ m. m.1) h.is in
    (search rules, (Some (h.history, h.made), e ∙ ap (λ l. (0, Some (h.history, h.made)) ∷ rest l) (sym e)))

pub load-requires : goal.load-requires
load-requires g c = (search rules, search rules, reads_told _ _ c.args.seat.now.me _ _ _ c.fetch_add-ticket.result c.requires.idle.0.has_read c.fetch_add-ticket.ensures.2 c.wait_until_served.ensures.handed c.exchange.ensures.3)
