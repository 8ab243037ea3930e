use Rattle.std.proofs.Common.{◌≡◌, ◌+◌, ◌++◌, [], length, map, All, vec_capacity}
use Rattle.server.specs.Work.{Follows}
use Rattle.server.specs.Place.{IsReady}
use Rattle.server.proofs.preparing.prepare.Given as goal

abbrev pub invariant-loop-worker : goal.invariant-loop-worker
invariant-loop-worker g l = record {
  rest : l.yielded ++ l.worker-iterator.rest.items ≡ l.fn.workers.items;
  desk : l.pass.0 ≡ l.initial.pass.0;
  on_desk : All (λ p. p.pass.0 ≡ l.fn.desk) l.places.items;
  on_counter : All (λ p. p.drawer.0 ≡ l.fn.counter) l.places.items;
  ready : All (λ p. IsReady l.initial.drawer.1.connections p.sessions.items p.drawer.1 p.pass.1 p.stop) l.places.items;
  workers : map (λ p. p.worker) l.places.items ≡ l.yielded;
  follows : Follows l.initial.pass.1 l.pass.1;
  draws : l.pass.1.draws ≡ l.initial.pass.1.draws + length l.yielded;
  taken_in : l.pass.1.taken_in ≡ l.initial.pass.1.taken_in;
  made_from : l.pass.1.made_from ≡ l.initial.pass.1.made_from ++ map (λ p. p.pass.1.number) l.places.items;
  counter : l.drawer.0 ≡ l.initial.drawer.0;
  connections : l.drawer.1.connections ≡ l.initial.drawer.1.connections;
  parts : l.drawer.1.parts ≡ 1;
  numbers : l.drawer.1.numbers ≡ [];
  splits : l.drawer.1.splits + length l.places.items ≡ l.initial.drawer.1.splits;
  count : length l.places.items ≡ length l.yielded;
  room : vec_capacity l.places ≡ vec_capacity l.initial.places;
}
