use Rattle.std.proofs.Common.{◌≡◌, ◌++◌}
use Rattle.std.specs.List.{flat_map}
use Rattle.turn_desk.specs.View.{kept_by}
use Rattle.server.specs.Work.{Follows}
use Rattle.server.proofs.gathering.take_back.Given as goal

abbrev pub invariant-loop-place : goal.invariant-loop-place
invariant-loop-place g l = record {
  rest : l.yielded ++ l.place-iterator.rest.items ≡ l.fn.places.items;
  desk : l.pass.0 ≡ l.initial.pass.0;
  follows : Follows l.initial.pass.1 l.pass.1;
  draws : l.pass.1.draws ≡ l.initial.pass.1.draws;
  taken_in : l.pass.1.taken_in ≡ l.initial.pass.1.taken_in ++ flat_map (λ p. kept_by p.pass.1) l.yielded;
  made_from : l.pass.1.made_from ≡ l.initial.pass.1.made_from ++ flat_map (λ p. p.pass.1.made_from) l.yielded;
}
