use Rattle.std.proofs.Common.{rules, ap, ◌∙◌}
use Rattle.turn_desk.proofs.Changes.{clash}
use Rattle.turn_desk.proofs.Joins.{joins}
use Rattle.turn_desk.proofs.Learning.{learns_allowed}
use Rattle.turn_desk.proofs.Calls.{takes_in_told}
use Rattle.turn_desk.proofs.desk.Desk.join.Goals as goal

pub join_seat-requires : goal.join_seat-requires
join_seat-requires g c = let v = c.pass.invariant.idle in let w = c.other.invariant.idle in (
  search rules,
  search rules,
  search rules,
  search rules,
  joins _ _ _ _ v.spent (λ h. absurd (clash h v.has_turn)) w.has_ticket w.has_turn w.spent,
)

pub load-pass-inside-requires : goal.load-pass-inside-requires
load-pass-inside-requires g c = (search rules, search rules, learns_allowed _ _ _ (ap (λ m. m.0.spent) c.join_seat.ensures.2 ∙ c.pass.invariant.idle.spent))

pub returns-clause-joined : goal.returns-clause-joined
returns-clause-joined g c = takes_in_told _ _ _ _ _ _ _ (ap (λ p. p.1) c.pass.view_is) (ap (λ p. p.1) c.other.view_is) c.join_seat.ensures.2 c.load-pass-inside.ensures.2.0 c.load-pass-inside.ensures.2.1.1 c.pass.invariant.idle.has_read
