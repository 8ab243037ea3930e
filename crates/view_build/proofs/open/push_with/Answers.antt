use Rattle.std.proofs.lemmas.List.Elements.{All-push}
use Rattle.view_build.specs.Opened.{IsGoodOpen}
use Rattle.view_build.proofs.open.push_with.Goals as goal

pub returns-in-Some-clause-good : goal.returns-in-Some-clause-good
returns-in-Some-clause-good c = rw c.in_ok-push.ensures.items (All-push IsGoodOpen c.args.dirs.now.items c.in-Some.open c.requires.dirs c.in-Some.ensures.good)
