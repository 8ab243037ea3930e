use Rattle.std.proofs.Common.{◌≡◌, ◌≤◌, None, length}
use Rattle.server.specs.Place.{Going, AcceptedFrom}
use Rattle.server.specs.Work.{Follows}
use Rattle.server.proofs.place.run_worker.Given as goal

abbrev pub invariant-loop : goal.invariant-loop
invariant-loop g l = record {
  desk : l.place.pass.0 ≡ l.initial.place.pass.0;
  counter : l.place.drawer.0 ≡ l.initial.place.drawer.0;
  going : Going (g.V.Serve.relates l.fn.server) l.fn.connections l.place.sessions.items l.place.drawer.1 l.place.pass.1;
  running : l.place.stop ≡ None;
  faults : g.A.Acceptor.accept_faults l.initial.place.worker.acceptor ≤ g.A.Acceptor.accept_faults l.place.worker.acceptor;
  accepted : AcceptedFrom (g.A.Acceptor.accepted l.initial.place.worker.acceptor) (length l.place.sessions.items) (g.A.Acceptor.accepted l.place.worker.acceptor);
  follows : Follows l.initial.place.pass.1 l.place.pass.1;
}
