use Rattle.std.proofs.Common.{length, ap, arith}
use Rattle.channel_map.proofs.Places.{added_names, added_places, one_more}
use Rattle.channel_map.proofs.nodes.add_ends.Goals as goal

pub add_node-requires-2 : goal.add_node-requires-2
add_node-requires-2 c = omega (arith, ap length c.in_ok-from.ensures.keys, one_more c.args.nodes.now.keys c.args.edge.now.source)

pub returns-clause-named : goal.returns-clause-named
returns-clause-named c =
    added_names c.add_node.new.nodes.keys c.add_node-2.new.nodes.keys c.args.edge.now.source c.args.edge.now.destination c.in_ok-from.from c.in_ok-to.to
    c.in_ok-to.ensures.keys c.in_ok-from.ensures.is c.in_ok-from.ensures.within c.in_ok-to.ensures.is

pub returns-clause-within : goal.returns-clause-within
returns-clause-within c =
    added_places c.add_node.new.nodes.keys c.add_node-2.new.nodes.keys c.args.edge.now.destination c.in_ok-from.from c.in_ok-to.to
    c.in_ok-to.ensures.keys c.in_ok-from.ensures.within c.in_ok-to.ensures.within
