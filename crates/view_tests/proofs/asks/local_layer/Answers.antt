use Rattle.view_tests.proofs.Lists.{good_local}
use Rattle.view_tests.proofs.asks.local_layer.Goals as goal

pub returns-in-Ok : goal.returns-in-Ok
returns-in-Ok c = rw (c.in-Ok.ensures.ok, c.new-asked.ensures) good_local
