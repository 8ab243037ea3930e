use Rattle.std.proofs.Common.{length, sym, ap, arith}
use Rattle.std.specs.Prelude.{nat_eq}
use Rattle.std.specs.List.{flat_map}
use Rattle.std.specs.Cmp.Lexicographic.{pointwise}
use Rattle.std.proofs.lemmas.Cmp.{nat_list_eq_equiv}
use Rattle.std.proofs.lemmas.List.{length-append}
use Rattle.std.proofs.lemmas.List.Filters.{dedup_is}
use Rattle.std.proofs.lemmas.List.Kept.{Contains-dedup, IsStrictlySortedBy-dedup}
use Rattle.std.proofs.lemmas.List.Sorted.{Contains-permutation}
use Rattle.std.proofs.lemmas.Map.Text.{is_eq-slice_cmp}
use Rattle.view_build.specs.Table.{edge_ends}
use Rattle.view_build.proofs.Ids.{id_total, same_node}
use Rattle.view_build.proofs.Tables.{ends_length}
use Rattle.view_build.proofs.table.all_nodes.Goals as goal

pub returns : goal.returns
returns c =
    let sorted = c.sort_unstable.new.self.items in
    let ids = c.in_ok-ids.ensures in
    let moved = rw ids at c.sort_unstable.ensures.permutation in
    let is = dedup_is (pointwise nat_eq) sorted c.dedup.new.self.items c.dedup.ensures.filtered in
    record {
      ascend = rw is (IsStrictlySortedBy-dedup id_total (λ x y. sym (is_eq-slice_cmp x y)) sorted c.sort_unstable.ensures.sorted);
      few = omega (arith, c.dedup.ensures.bound, c.sort_unstable.ensures.len, ap length ids, length-append c.args.nodes.now (flat_map edge_ends c.args.created.now), ends_length c.args.created.now);
      all = λ node h. rw is (Contains-dedup nat_list_eq_equiv same_node sorted node (Contains-permutation _ _ node moved h));
    }
