use Rattle.channel_map.proofs.Numbered.{no_nodes}
use Rattle.channel_map.proofs.Search.{no_edges}
use Rattle.channel_map.proofs.channel_map.ChannelMap.empty.Goals as goal

pub invariant_of-result : goal.invariant_of-result
invariant_of-result c = (no_edges _ _ c.new.ensures.items, no_nodes _ _ c.new.ensures.items c.new-2.ensures.items c.new-3.ensures.items)
