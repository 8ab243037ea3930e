use Rattle.std.proofs.Common.{rules, ◌≡◌, [], ◌∷◌, ◌++◌, sym, ap, ◌∙◌, subst}
use Rattle.std.proofs.lemmas.List.{append_assoc}
use Rattle.turn_desk.specs.View.{after_join}
use Rattle.turn_desk.specs.Steps.{LearnsInTurn}
use Rattle.turn_desk.specs.Absorbing.{absorb}
use Rattle.turn_desk.proofs.Lists.{last_of, drained}
use Rattle.turn_desk.proofs.Joins.{joins}
use Rattle.turn_desk.proofs.Learning.{learns_in_turn_allowed}
use Rattle.turn_desk.proofs.Closings.{absorb_holds, absorb_more}
use Rattle.turn_desk.proofs.desk.Desk.take_all_in.Goals as goal

pub join_seat-requires : goal.join_seat-requires
join_seat-requires g c = let w = c.other.invariant.idle in let v = c.loop-other.invariant.view in let h = absorb_holds c.args.seat.now.me.0 c.loop-other.yielded in let r = c.requires.turn in (
  c.loop-other.invariant.desk ∙ (c.requires.desk.0 ∙ sym c.self.view_is),
  ap (λ p. p.0) c.other.view_is ∙ last_of (λ p. p.0 ≡ c.args.self.now) _ _ _ _ c.requires.desk.1 c.in-Some.ensures.steps.0 c.loop-other.invariant.all ∙ sym c.self.view_is,
  search rules,
  search rules,
  joins _ _ _ _ (ap (λ v. v.spent) v ∙ (h.2 ∙ r.2)) (λ _. ap (λ v. v.has_read) v ∙ (h.1 ∙ r.1)) w.has_ticket w.has_turn w.spent,
)

pub loop-other-preserved : goal.loop-other-preserved
loop-other-preserved g c = record {
  desk = search rules;
  view = ap (λ m. m.0) c.join_seat.ensures.2 ∙ ((λ i. after_join (c.loop-other.invariant.view i) ((c.other.view_is i).1)) ∙ sym (absorb_more c.args.seat.now.me.0 c.loop-other.yielded c.in-Some.other));
  all = append_assoc c.loop-other.yielded (c.in-Some.other ∷ []) _ ∙ (ap (λ l. c.loop-other.yielded ++ l) (sym c.in-Some.ensures.steps.0) ∙ c.loop-other.invariant.all);
}

pub load-requires : goal.load-requires
load-requires g c = let v = c.loop-other.invariant.view in let h = absorb_holds c.args.seat.now.me.0 c.loop-other.yielded in let r = c.requires.turn in
    (c.loop-other.invariant.desk ∙ (c.requires.desk.0 ∙ sym c.self.view_is), search rules, learns_in_turn_allowed _ _ _ (ap (λ v. v.has_turn) v ∙ (h.0 ∙ r.0)) (ap (λ v. v.has_read) v ∙ (h.1 ∙ r.1)))

pub returns : goal.returns
returns g c = let r = c.loop-other.other-iterator.rest in let all = drained _ _ _ c.loop-other.invariant.all (sym r.ok.0 ∙ c.in-None.ensures.steps.0) in
    subst LearnsInTurn (c.loop-other.invariant.view ∙ ap (λ l. absorb c.args.seat.now.me.0 l) all) c.load.ensures.2.1
