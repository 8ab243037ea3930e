use Rattle.std.proofs.Common.{◌≡◌, ◌≤◌, ◌<◌, ◌+◌, ◌++◌, length, map, vec_capacity, vec_len}
use Rattle.std.specs.List.{flat_map}
use Rattle.turn_desk.specs.Numbers.{AreDistinct}
use Rattle.turn_desk.specs.Rule.{total}
use Rattle.turn_desk.specs.View.{kept_by, numbers_of}
use Rattle.server.specs.Work.{Follows}
use Rattle.server.specs.Gathering.{faults_from}
use Rattle.server.proofs.gathering.gather.Given as goal

abbrev pub invariant-loop-place : goal.invariant-loop-place
invariant-loop-place g l = record {
  rest : l.yielded ++ l.place-iterator.rest.items ≡ l.fn.places.items;
  number : l.number ≡ length l.yielded;
  desk : l.all.pass.0 ≡ l.initial.all.pass.0;
  follows : Follows l.initial.all.pass.1 l.all.pass.1;
  draws : l.all.pass.1.draws ≡ l.initial.all.pass.1.draws;
  taken_in : l.all.pass.1.taken_in ≡ l.initial.all.pass.1.taken_in ++ flat_map (λ p. kept_by p.pass.1) l.yielded;
  made_from : l.all.pass.1.made_from ≡ l.initial.all.pass.1.made_from ++ flat_map (λ p. p.pass.1.made_from) l.yielded;
  distinct : 0 < length l.yielded → AreDistinct (numbers_of l.all.pass.1);
  counter : l.all.drawer.0 ≡ l.initial.all.drawer.0;
  connections : l.all.drawer.1.connections ≡ l.initial.all.drawer.1.connections;
  numbers : l.all.drawer.1.numbers ≡ flat_map (λ p. p.drawer.1.numbers) l.yielded;
  parts : l.all.drawer.1.parts ≡ 1 + total (λ p. p.drawer.1.parts) l.yielded;
  splits : l.initial.all.drawer.1.splits ≤ l.all.drawer.1.splits;
  sessions : l.all.sessions.items ≡ flat_map (λ p. p.sessions.items) l.yielded;
  workers : l.all.workers.items ≡ map (λ p. p.worker) l.yielded;
  faults : l.all.faults.items ≡ faults_from 0 (map (λ p. p.stop) l.yielded);
  few : vec_len l.all.faults ≤ length l.yielded;
  sessions_room : vec_capacity l.initial.all.sessions ≤ vec_capacity l.all.sessions;
  workers_room : vec_capacity l.all.workers ≡ vec_capacity l.initial.all.workers;
  faults_room : vec_capacity l.all.faults ≡ vec_capacity l.initial.all.faults;
}
