use Rattle.std.proofs.Common.{◌<◌, ◌≤◌, arith, length, subst, sym, rules, slice_index_or}
use Rattle.std.proofs.lemmas.Result.{IfOk-weaker}
use Rattle.std.proofs.lemmas.List.Sorted.{IsNonDecreasingBy-from_sort_by_key}
use Rattle.path_split.specs.Walk.{whole}
use Rattle.path_split.specs.Edges.{edge_key}
use Rattle.path_split.proofs.Gathered.{sorted_gathers, gathers_merged, one_ends, whole_fits}
use Rattle.path_split.proofs.edge.edges_of.Goals as goal

pub merge_edges-requires-clause-fits : goal.merge_edges-requires-clause-fits
merge_edges-requires-clause-fits c =
    let h = sorted_gathers c.args.instance.now c.args.flow.now _ _ _ _ _ c.arcs.ensures.value c.list.ensures c.in_ok-edges.ensures c.sort_unstable_by_key.ensures.permutation c.deref.ensures.value in
    let f = whole_fits c.args.instance.now c.args.flow.now c.arcs.ensures.bounds c.requires.long c.requires.fits in
    omega (arith, h.sums whole, f)

pub merge_edges-requires-clause-sorted : goal.merge_edges-requires-clause-sorted
merge_edges-requires-clause-sorted c = subst (λ xs. (i j : _) (d : _) → i ≤ j → j < length xs → edge_key (slice_index_or xs i d) ≤ edge_key (slice_index_or xs j d)) (sym c.deref.ensures.value) (IsNonDecreasingBy-from_sort_by_key edge_key _ c.sort_unstable_by_key.ensures.sorted (λ a r q k. search rules))

pub merge_edges-requires-clause-ends : goal.merge_edges-requires-clause-ends
merge_edges-requires-clause-ends c =
    let h = sorted_gathers c.args.instance.now c.args.flow.now _ _ _ _ _ c.arcs.ensures.value c.list.ensures c.in_ok-edges.ensures c.sort_unstable_by_key.ensures.permutation c.deref.ensures.value in
    one_ends c.args.instance.now _ c.arcs.ensures.bounds h.known

pub merge_edges-requires-clause-small : goal.merge_edges-requires-clause-small
merge_edges-requires-clause-small c =
    let h = sorted_gathers c.args.instance.now c.args.flow.now _ _ _ _ _ c.arcs.ensures.value c.list.ensures c.in_ok-edges.ensures c.sort_unstable_by_key.ensures.permutation c.deref.ensures.value in
    h.small

pub returns-clause-edges : goal.returns-clause-edges
returns-clause-edges c =
    let h = sorted_gathers c.args.instance.now c.args.flow.now _ _ _ _ _ c.arcs.ensures.value c.list.ensures c.in_ok-edges.ensures c.sort_unstable_by_key.ensures.permutation c.deref.ensures.value in
    IfOk-weaker _ _ _ (λ es m. gathers_merged _ _ _ _ h m) c.merge_edges.ensures
