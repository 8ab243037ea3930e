use Rattle.std.proofs.Common.{◌++◌, ◌∷◌, [], sym, ap, ◌∙◌}
use Rattle.std.proofs.lemmas.List.{append_assoc}
use Rattle.turn_desk.specs.View.{kept_by}
use Rattle.server.proofs.Turns.{follows_on, follows_joined}
use Rattle.server.proofs.Gathers.{more_after}
use Rattle.server.proofs.gathering.take_back.Goals as goal

pub loop-place-preserved : goal.loop-place-preserved
loop-place-preserved g c =
    let inv = c.loop-place.invariant in
    let p = c.in-Some.place in
    let y = c.loop-place.yielded in
    let j = c.join.ensures.joined in
    record {
      rest = append_assoc y (p ∷ []) _ ∙ (ap (λ l. y ++ l) (sym c.in-Some.ensures.steps.0) ∙ inv.rest);
      desk = c.join.ensures.desk ∙ inv.desk;
      follows = follows_on _ _ _ inv.follows (follows_joined _ _ _ j);
      draws = j.draws ∙ inv.draws;
      taken_in = more_after (λ p. kept_by p.pass.1) _ _ _ y p j.taken_in inv.taken_in;
      made_from = more_after (λ p. p.pass.1.made_from) _ _ _ y p j.made_from inv.made_from;
    }
