use Rattle.std.proofs.Common.{refl}
use Rattle.std.specs.Prelude.{codes}
use Rattle.view_tests.proofs.Lists.{good_two}
use Rattle.view_tests.proofs.asks.two_layers.Goals as goal

pub returns-in-Ok-push : goal.returns-in-Ok-push
returns-in-Ok-push c = rw (c.in-Ok-push.ensures.ok, c.in_ok-asked.ensures.list, c.in-Ok.ensures.ok.0) (good_two (codes "x") (codes "y") refl c.in-Ok.ensures.ok.1 refl)
