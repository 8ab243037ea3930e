use Rattle.std.proofs.Common.{rules, ◌<◌, ◌≤◌, take, All, ap, ◌∙◌, subst, refl, arith}
use Rattle.turn_desk.specs.declared.limits.TheConstants.{PASSES_MAX, TURNS_MAX}
use Rattle.turn_desk.specs.Absorbing.{count_of}
use Rattle.turn_desk.proofs.Learning.{learns_in_turn_told}
use Rattle.turn_desk.proofs.Closings.{cons_of, stays_open, closes_told}
use Rattle.turn_desk.proofs.desk.Desk.close.Goals as goal

pub load-requires : goal.load-requires
load-requires g c = (search rules, search rules, learns_in_turn_told _ _ _ c.seat.inside.seat.me.0 _ _ _ c.take_turn-journal.ensures.view.1)

-- the first pass may draw one turn more
pub overflow_add-first : goal.overflow_add-first
overflow_add-first g c = let e = cons_of _ _ _ c.requires.some c.remove.ensures.value c.remove.ensures.items in
    let d = subst (λ xs. All (λ p. p.1.draws < TURNS_MAX) (take 1 xs)) e c.requires.draws 0 c.remove.result (omega arith) in let i = c.seat.invariant.draws_are in let v = ap (λ p. p.1.draws) c.seat.view_is in omega arith

pub returns-then-given-made-clause-open : goal.returns-then-given-made-clause-open
returns-then-given-made-clause-open g c = let e = cons_of _ _ _ c.requires.some c.remove.ensures.value c.remove.ensures.items in let t = c.take_turn-journal.ensures in let l = c.load.ensures.2 in let s = c.deref.ensures.value in let lt = c.if-given-made.true in let most = t.made.0 in
    stays_open _ _ _ c.remove.result _ _ _ _ _ _ _ _ _ e (search rules) refl (ap (λ p. p.1) c.seat.view_is) t.taken t.view.1 l.1 l.0 c.leave_turn.ensures.left lt (c.count-given.ensures.few (omega arith) ∙ ap count_of s)

pub returns-clause-closed : goal.returns-clause-closed
returns-clause-closed g c = let e = cons_of _ _ _ c.requires.some c.remove.ensures.value c.remove.ensures.items in let t = c.take_turn-journal.ensures in let l = c.load.ensures.2 in let s = c.deref.ensures.value in
    closes_told _ _ c.remove.result _ _ _ _ _ _ _ e (ap (λ p. p.1) c.seat.view_is) t.taken t.view.1 l.1 l.0 c.if-given-made.false t.made.0 (λ h. c.count-given.ensures.few h ∙ ap count_of s) (λ h. subst (λ l. PASSES_MAX ≤ count_of l) s (c.count-given.ensures.many h)) c.take_all_in.ensures
