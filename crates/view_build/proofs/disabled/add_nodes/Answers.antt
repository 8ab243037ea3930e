use Rattle.std.proofs.Common.{◌≡◌, ◌+◌, ◌∷◌, [], ◌++◌, take, true, cond, sym, ap, ◌∙◌}
use Rattle.std.specs.Prelude.{◌||◌, nat_eq}
use Rattle.std.specs.List.{list_any}
use Rattle.std.specs.Ordering.{nat_cmp, is_eq}
use Rattle.std.specs.Cmp.Lexicographic.{slice_cmp, pointwise}
use Rattle.std.proofs.lemmas.List.{take_more}
use Rattle.view_build.specs.Disabled.{has_node}
use Rattle.view_build.proofs.Ids.{one_more_node}
use Rattle.view_build.proofs.disabled.add_nodes.Goals as goal

pub loop-node-preserved : goal.loop-node-preserved
loop-node-preserved c node =
    let l = c.loop-node in
    let nodes = c.args.disabled.now in
    let item = c.node-item.result in
    let before = has_node c.args.nodes.now node in
    let more : take (l.node-index + 1) nodes ≡ take l.node-index nodes ++ item ∷ [] =
    take_more nodes l.node-index item c.loop-node-test.true ∙ ap (λ y. take l.node-index nodes ++ y ∷ []) (sym c.node-item.is) in
    c.in_ok-insert.ensures.updates.0 node ∙ ap (cond (is_eq (slice_cmp nat_cmp item node)) true) (l.invariant node)
    ∙ one_more_node item node before (take l.node-index nodes) ∙ ap (λ xs. before || list_any (pointwise nat_eq node) xs) (sym more)
