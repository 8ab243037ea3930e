use Rattle.std.proofs.Common.{◌≡◌, ◌+◌, ◌∷◌, [], ◌++◌, take, append_assoc, sym, ap, ◌∙◌}
use Rattle.std.specs.List.{flat_map}
use Rattle.std.proofs.lemmas.Grind.{flat_map-append}
use Rattle.std.proofs.lemmas.List.{take_more}
use Rattle.view_build.specs.Table.{edge_ends}
use Rattle.view_build.proofs.table.with_ends.Goals as goal

pub loop-edge-preserved : goal.loop-edge-preserved
loop-edge-preserved c =
    let l = c.loop-edge in
    let nodes = c.args.nodes.now in
    let created = c.args.created.now in
    let e = c.edge-item.result in
    let before = take l.edge-index created in
    let more : take (l.edge-index + 1) created ≡ before ++ e ∷ [] = take_more created l.edge-index e c.loop-edge-test.true ∙ ap (λ y. before ++ y ∷ []) (sym c.edge-item.is) in
    let items : c.push-in-loop-edge.new.self.items ≡ (l.ids.items ++ e.source ∷ []) ++ e.destination ∷ [] = c.in_ok-push-2.ensures.items ∙ ap (λ ids. ids ++ e.destination ∷ []) c.in_ok-push.ensures.items in
    items ∙ append_assoc l.ids.items (e.source ∷ []) (e.destination ∷ []) ∙ ap (λ ids. ids ++ e.source ∷ e.destination ∷ []) l.invariant
    ∙ append_assoc nodes (flat_map edge_ends before) (e.source ∷ e.destination ∷ [])
    ∙ ap (λ ids. nodes ++ ids) (sym (flat_map-append edge_ends before (e ∷ [])) ∙ ap (flat_map edge_ends) (sym more))
