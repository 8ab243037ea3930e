use Rattle.view_tests.proofs.Lists.{good_none}
use Rattle.view_tests.proofs.asks.no_layer.Goals as goal

pub returns : goal.returns
returns c = rw c.new.ensures good_none
