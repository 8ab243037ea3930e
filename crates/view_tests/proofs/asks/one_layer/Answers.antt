use Rattle.std.specs.Prelude.{codes}
use Rattle.view_tests.proofs.Lists.{good_one}
use Rattle.view_tests.proofs.asks.one_layer.Goals as goal

pub returns-in-Ok-push-clause-good : goal.returns-in-Ok-push-clause-good
returns-in-Ok-push-clause-good c = rw (c.in-Ok-push.ensures.ok, c.new-asked.ensures, c.in-Ok.ensures.ok.0) (good_one (codes "x") c.in-Ok.ensures.ok.1)
