use Rattle.channel_map.proofs.channel_map.read_in_order.Goals as goal

pub returns-clause-ok : goal.returns-clause-ok
returns-clause-ok c = record {
  entries = c.in_ok-edges.edges.items;
  read_as = c.in_ok-edges.ensures.ok;
  good = c.in_ok-edges.ensures.good;
  same = c.sort.ensures.same;
  ascending = c.sort.ensures.ascending;
}
