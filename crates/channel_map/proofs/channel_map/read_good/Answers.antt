use Rattle.channel_map.proofs.Good.{good_found}
use Rattle.channel_map.proofs.channel_map.read_good.Goals as goal

pub returns-clause-good : goal.returns-clause-good
returns-clause-good c = good_found _ _ c.in_ok-edges.ensures.ok
