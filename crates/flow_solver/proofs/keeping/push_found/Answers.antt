use Rattle.std.proofs.Common.{ℕ, List, Bool, ◌∙◌, sym, subst, subst₂, ◌<◌, ◌≡◌, ◌+◌, ◌-◌, ap, length, arith}
use Rattle.std.specs.Prelude.{All, slice_index}
use Rattle.flow_model.specs.Instance.{Net}
use Rattle.residual_net.specs.Residual.{ResidualNet, HasRoomFor, HasDistinctArcs, flow_after}
use Rattle.flow_solver.specs.declared.labels.TheConstants.{UNREACHED}
use Rattle.flow_solver.specs.Search.{IsReachedNode, IsPartialSolution, HasDepth, parent_path}
use Rattle.flow_solver.proofs.Advances.{traced, path_rooms, path_distinct, met_advanced}
use Rattle.flow_solver.proofs.keeping.push_found.Goals as goal

pub walk-requires-clause-reached : goal.walk-requires-clause-reached
walk-requires-clause-reached c =
    let carried = c.requires.carried in
    let near : slice_index c.args.search.now.source.labels c.args.residual.now.net.destination < UNREACHED = (let a = carried.short in let b = carried.reached in omega (arith, a, b)) in
    let s = c.source.ensures ∙ ap (λ (n : Net). n.source) (sym c.requires.net) in
    let t = c.destination.ensures ∙ ap (λ (n : Net). n.destination) (sym c.requires.net) in
    subst₂ (λ (ps : List (ℕ × Bool)) t. (k : ℕ) × (k < c.args.residual.now.net.nodes) × IsReachedNode c.args.residual.now ps k t) (sym c.deref.ensures.value) (sym t) (traced c.args.residual.now c.args.search.now.potentials c.args.search.now.source.labels c.args.search.now.source.parents.items c.args.sent c.requires.partial carried.tree near)

pub least_room-amount-requires-clause-rooms : goal.least_room-amount-requires-clause-rooms
least_room-amount-requires-clause-rooms c =
    let carried = c.requires.carried in
    let near : slice_index c.args.search.now.source.labels c.args.residual.now.net.destination < UNREACHED = (let a = carried.short in let b = carried.reached in omega (arith, a, b)) in
    let s = c.source.ensures ∙ ap (λ (n : Net). n.source) (sym c.requires.net) in
    let t = c.destination.ensures ∙ ap (λ (n : Net). n.destination) (sym c.requires.net) in
    let arcs = c.args.residual.now.net.arcs in
    let parents = c.args.search.now.source.parents.items in
    let path = c.in_ok-path.path.items in
    let chain = subst₂ (λ s t. HasDepth arcs parents s (length path) t) s t (subst (λ ps. HasDepth arcs ps c.source.result (length path) c.destination.result) c.deref.ensures.value c.in_ok-path.ensures.chain) in
    let way = subst (λ t. path ≡ parent_path arcs parents (length path) t) t (subst (λ ps. path ≡ parent_path arcs ps (length path) c.destination.result) c.deref.ensures.value c.in_ok-path.ensures.path) in
    subst (All (HasRoomFor c.args.residual.now.net.arcs c.args.residual.now.flow 1)) (sym c.deref-2.ensures.value) (path_rooms c.args.residual.now c.args.search.now.potentials c.args.search.now.source.labels parents c.args.sent c.requires.partial carried.tree near path chain way)

pub push_on-requires-clause-distinct : goal.push_on-requires-clause-distinct
push_on-requires-clause-distinct c =
    let carried = c.requires.carried in
    let near : slice_index c.args.search.now.source.labels c.args.residual.now.net.destination < UNREACHED = (let a = carried.short in let b = carried.reached in omega (arith, a, b)) in
    let s = c.source.ensures ∙ ap (λ (n : Net). n.source) (sym c.requires.net) in
    let t = c.destination.ensures ∙ ap (λ (n : Net). n.destination) (sym c.requires.net) in
    let arcs = c.args.residual.now.net.arcs in
    let parents = c.args.search.now.source.parents.items in
    let path = c.in_ok-path.path.items in
    let chain = subst₂ (λ s t. HasDepth arcs parents s (length path) t) s t (subst (λ ps. HasDepth arcs ps c.source.result (length path) c.destination.result) c.deref.ensures.value c.in_ok-path.ensures.chain) in
    let way = subst (λ t. path ≡ parent_path arcs parents (length path) t) t (subst (λ ps. path ≡ parent_path arcs ps (length path) c.destination.result) c.deref.ensures.value c.in_ok-path.ensures.path) in
    subst HasDistinctArcs (sym c.deref-3.ensures.value) (path_distinct c.args.residual.now c.args.search.now.potentials c.args.search.now.source.labels parents c.args.sent c.requires.partial carried.tree near path chain way)

pub returns-clause-partial : goal.returns-clause-partial
returns-clause-partial c =
    let carried = c.requires.carried in
    let near : slice_index c.args.search.now.source.labels c.args.residual.now.net.destination < UNREACHED = (let a = carried.short in let b = carried.reached in omega (arith, a, b)) in
    let s = c.source.ensures ∙ ap (λ (n : Net). n.source) (sym c.requires.net) in
    let t = c.destination.ensures ∙ ap (λ (n : Net). n.destination) (sym c.requires.net) in
    let arcs = c.args.residual.now.net.arcs in
    let parents = c.args.search.now.source.parents.items in
    let path = c.in_ok-path.path.items in
    let chain = subst₂ (λ s t. HasDepth arcs parents s (length path) t) s t (subst (λ ps. HasDepth arcs ps c.source.result (length path) c.destination.result) c.deref.ensures.value c.in_ok-path.ensures.chain) in
    let way = subst (λ t. path ≡ parent_path arcs parents (length path) t) t (subst (λ ps. path ≡ parent_path arcs ps (length path) c.destination.result) c.deref.ensures.value c.in_ok-path.ensures.path) in
    let amount = c.least_room-amount.result in
    let new = c.lift.new.self in
    let f = c.args.found in
    let rooms = subst (All (HasRoomFor c.args.residual.now.net.arcs c.args.residual.now.flow amount)) c.deref-2.ensures.value c.least_room-amount.ensures.rooms in
    let after = met_advanced c.args.residual.now c.args.search.now.potentials carried.before c.args.search.now.source.labels parents c.args.search.now.destination.labels f.radius (f.best - f.radius) f.best c.args.sent c.requires.partial carried.met carried.tree carried.reached carried.short carried.kept new amount path chain way rooms c.in_ok-lift.ensures.lifted in
    subst (λ (r : ResidualNet). IsPartialSolution r new (c.args.sent + amount)) (sym (c.push_on.ensures.value ∙ ap (λ (xs : List (ℕ × Bool)). record { net = c.args.residual.now.net; flow = flow_after c.args.residual.now.flow amount xs }) c.deref-3.ensures.value)) after
