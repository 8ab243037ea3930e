use Rattle.channel_map.proofs.Ascending.{ascending_from_sort}
use Rattle.channel_map.proofs.order.sort.Goals as goal

pub returns-clause-ascending : goal.returns-clause-ascending
returns-clause-ascending c = ascending_from_sort _ _ c.requires c.arrange.ensures.same c.arrange.ensures.sorted
