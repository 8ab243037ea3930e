use Rattle.std.proofs.Common.{◌≡◌, ◌<◌, ◌≤◌, length, map, sym, ap, ◌∙◌, arith}
use Rattle.std.proofs.lemmas.List.Sorted.{length_permutation}
use Rattle.channel_map.specs.declared.channel_map.TheConstants.{MAP_DIRECTIONS_MAX, MAP_NODES_MAX}
use Rattle.channel_map.specs.Nodes.{ends_of}
use Rattle.channel_map.specs.Reading.{is_large_map, nodes_of, too_many}
use Rattle.channel_map.proofs.Counted.{accepted_map, are_nodes, too_many_directions, too_many_nodes}
use Rattle.channel_map.proofs.Search.{sorted_map}
use Rattle.channel_map.proofs.channel_map.read_map.Goals as goal

pub returns-then-directions-gt-MAP_DIRECTIONS_MAX-clause-err : goal.returns-then-directions-gt-MAP_DIRECTIONS_MAX-clause-err
returns-then-directions-gt-MAP_DIRECTIONS_MAX-clause-err c =
    let read = c.in_ok-edges.ensures.ok in
    let edges = c.in_ok-edges.edges.items in
    let many : MAP_DIRECTIONS_MAX < length c.in_ok-edges.edges.items = omega arith in
    let directions : length c.in_ok-edges.edges.items ≡ c.len-directions.result = omega arith in
    let nodes : length (nodes_of c.in_ok-edges.edges.items) ≡ c.in_ok-nodes.nodes = ap (λ edges. length (nodes_of edges)) (sym c.deref.ensures.value) ∙ sym c.in_ok-nodes.ensures in
    read.read_as is_large_map ∙ too_many_directions read.entries edges read.same many
    ∙ ap (λ count. too_many count (length (nodes_of edges))) directions ∙ ap (too_many c.len-directions.result) nodes

pub find_nodes-requires : goal.find_nodes-requires
find_nodes-requires c = omega (arith, ap length c.deref-2.ensures.value)

pub invariant_of-result : goal.invariant_of-result
invariant_of-result c =
    let read = c.in_ok-edges.ensures.ok in
    let few : length read.entries ≤ MAP_DIRECTIONS_MAX = omega (arith, length_permutation read.entries c.in_ok-edges.edges.items read.same) in
    let few_nodes : length c.in_ok-found.found.nodes.keys ≤ MAP_NODES_MAX = omega arith in
    let is = c.deref-2.ensures.value in (
      sorted_map _ _ _ few read.good read.same read.ascending,
      are_nodes _ _ _ _ few_nodes (c.in_ok-found.ensures.nodes ∙ ap nodes_of is) (c.in_ok-found.ensures.named ∙ ap (map ends_of) is) c.in_ok-nodes-2.ensures,
    )

pub returns-then-nodes-gt-MAP_NODES_MAX-clause-err : goal.returns-then-nodes-gt-MAP_NODES_MAX-clause-err
returns-then-nodes-gt-MAP_NODES_MAX-clause-err c =
    let read = c.in_ok-edges.ensures.ok in
    let many : MAP_NODES_MAX < length c.in_ok-found.found.nodes.keys = omega arith in
    let directions : length read.entries ≡ c.len-directions.result = omega (arith, length_permutation read.entries c.in_ok-edges.edges.items read.same) in
    let nodes : length c.in_ok-found.found.nodes.keys ≡ c.len-nodes.result = omega arith in
    read.read_as is_large_map ∙ too_many_nodes _ _ _ read.same (c.in_ok-found.ensures.nodes ∙ ap nodes_of c.deref-2.ensures.value) many
    ∙ ap (λ count. too_many count (length c.in_ok-found.found.nodes.keys)) directions ∙ ap (too_many c.len-directions.result) nodes

pub returns-clause-ok : goal.returns-clause-ok
returns-clause-ok c =
    let read = c.in_ok-edges.ensures.ok in
    let few : length read.entries ≤ MAP_DIRECTIONS_MAX = omega (arith, length_permutation read.entries c.in_ok-edges.edges.items read.same) in
    let few_nodes : length c.in_ok-found.found.nodes.keys ≤ MAP_NODES_MAX = omega arith in
    record {
      entries = read.entries;
      read_as = read.read_as is_large_map ∙ accepted_map _ _ _ read.same (c.in_ok-found.ensures.nodes ∙ ap nodes_of c.deref-2.ensures.value) few few_nodes;
      same = read.same;
      ascending = read.ascending;
    }
