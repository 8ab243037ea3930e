use Rattle.std.proofs.Common.{◌≡◌, ◌*◌, ◌≤◌, length, map, ap, subst, ◌∙◌, arith}
use Rattle.std.specs.List.{count_by}
use Rattle.view_build.specs.Ends.{AreUsed}
use Rattle.view_build.specs.Ranked.{AreRanked, is_set, with_ranks}
use Rattle.view_build.proofs.Numbering.{all_nodes, few_nodes, good_ranked, only_nodes, same_names}
use Rattle.view_build.proofs.numbered.number_dirs.Goals as goal

pub returns : goal.returns
returns c =
    let ids = c.args.ids.now in
    let dirs = c.args.dirs.items in
    let used = c.in_ok-used.used.items in
    let nodes = c.in_ok-nodes.field-0.nodes.items in
    let ranks = c.in_ok-nodes.field-0.ranks.items in
    let up = c.requires.ascend in
    let good = c.requires.good in
    let places : length used ≡ length ids = omega (arith, c.in_ok-used.ensures.places) in
    let marked = subst (λ ds. AreUsed ds used) c.deref.ensures.value c.in_ok-used.ensures.used in
    let few : count_by is_set used ≤ 2 * length dirs = omega (arith, c.in_ok-used.ensures.few, c.deref.ensures.len) in
    let are : AreRanked ids used nodes ranks = subst (λ us. AreRanked ids us nodes ranks) c.deref-2.ensures.value c.in_ok-nodes.ensures.ranked in
    let long : length ranks ≡ length ids = c.in_ok-nodes.ensures.ranks in
    let is : c.renumbered-dirs.result.items ≡ map (with_ranks ranks) dirs = c.renumbered-dirs.ensures ∙ ap (λ rs. map (with_ranks rs) dirs) c.deref-3.ensures.value in
    record {
      ascend = are.ascend;
      few = few_nodes ids dirs used nodes ranks up good places marked few are long;
      all = all_nodes ids dirs used nodes ranks up good places marked few are long;
      only = only_nodes ids dirs used nodes ranks up good places marked few are long;
      dirs = rw is (same_names ids dirs used nodes ranks up good places marked few are long);
      good = rw is (good_ranked ids dirs used nodes ranks up good places marked few are long);
    }
