use Rattle.std.proofs.Common.{◌≡◌, ◌++◌, ap, ◌∙◌}
use Rattle.std.specs.BTreeMap.{keys}
use Rattle.std.proofs.lemmas.List.Filters.{dedup_is}
use Rattle.std.proofs.lemmas.List.Kept.{Contains-dedup, IsStrictlySortedBy-dedup}
use Rattle.std.proofs.lemmas.List.Sorted.{Contains-permutation}
use Rattle.plan_base.specs.Dir.{same_dir}
use Rattle.channel_map.proofs.Ascending.{dir_order_total, order_of_same, same_dir_equiv}
use Rattle.view_build.proofs.Dirs.{same_is_equal}
use Rattle.view_build.proofs.affected.affected_by.Goals as goal

pub returns : goal.returns
returns c =
    let sorted = c.sort_unstable.new.self.items in
    let dirs : c.extend_from_slice.new.self.items ≡ keys c.args.given.now ++ keys c.args.known.now =
    c.in_ok-extend_from_slice.ensures.items ∙ ap (λ list. list ++ c.deref.result.now) c.in_ok-dirs.ensures ∙ ap (λ list. keys c.args.given.now ++ list) (c.deref.ensures.value ∙ c.in_ok-others.ensures) in
    let moved = rw dirs at c.sort_unstable.ensures.permutation in
    let is = dedup_is same_dir sorted c.dedup.new.self.items c.dedup.ensures.filtered in
    record {
      ascend = rw is (IsStrictlySortedBy-dedup dir_order_total order_of_same sorted c.sort_unstable.ensures.sorted);
      all = λ dir h. rw is (Contains-dedup same_dir_equiv same_is_equal sorted dir (Contains-permutation _ _ dir moved h));
    }
