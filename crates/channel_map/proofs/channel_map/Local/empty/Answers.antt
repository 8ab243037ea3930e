use Rattle.channel_map.proofs.Search.{no_edges}
use Rattle.channel_map.proofs.channel_map.Local.empty.Goals as goal

pub invariant_of-result : goal.invariant_of-result
invariant_of-result c = no_edges _ _ c.new.ensures.items
