use Rattle.std.proofs.Common.{ℕ, List, Bool, ◌∙◌, sym, subst, subst₂, ◌<◌, ◌≡◌, ◌+◌, ap, length, arith}
use Rattle.std.specs.Prelude.{All, slice_index}
use Rattle.flow_model.specs.Instance.{Net}
use Rattle.residual_net.specs.Residual.{ResidualNet, HasRoomFor, HasDistinctArcs, flow_after}
use Rattle.flow_solver.specs.declared.labels.TheConstants.{UNREACHED}
use Rattle.flow_solver.specs.Search.{IsReachedNode, IsPartialSolution, HasDepth, IsRaised, parent_path}
use Rattle.flow_solver.proofs.Advances.{traced, path_rooms, path_distinct, advanced}
use Rattle.flow_solver.proofs.advance.advance.Goals as goal

pub walk-requires-clause-source : goal.walk-requires-clause-source
walk-requires-clause-source c = c.source-source.ensures ∙ ap (λ (n : Net). n.source) (sym c.requires.net)

pub walk-requires-clause-reached : goal.walk-requires-clause-reached
walk-requires-clause-reached c =
    let near = subst (λ (n : Net). slice_index c.args.labels.now n.destination < UNREACHED) (sym c.requires.net) c.requires.reached in
    let t = c.destination-destination.ensures ∙ ap (λ (n : Net). n.destination) (sym c.requires.net) in
    subst (λ t. (k : ℕ) × (k < c.args.residual.now.net.nodes) × IsReachedNode c.args.residual.now c.args.parents.now k t) (sym t) (traced c.args.residual.now c.args.potentials.now c.args.labels.now c.args.parents.now c.args.sent c.requires.partial c.requires.found.tree near)

pub least_room-amount-requires-clause-rooms : goal.least_room-amount-requires-clause-rooms
least_room-amount-requires-clause-rooms c =
    let near = subst (λ (n : Net). slice_index c.args.labels.now n.destination < UNREACHED) (sym c.requires.net) c.requires.reached in
    let s = c.source-source.ensures ∙ ap (λ (n : Net). n.source) (sym c.requires.net) in
    let t = c.destination-destination.ensures ∙ ap (λ (n : Net). n.destination) (sym c.requires.net) in
    let chain = subst₂ (λ s t. HasDepth c.args.residual.now.net.arcs c.args.parents.now s (length c.in_ok-path.path.items) t) s t c.in_ok-path.ensures.chain in
    let way = subst (λ t. c.in_ok-path.path.items ≡ parent_path c.args.residual.now.net.arcs c.args.parents.now (length c.in_ok-path.path.items) t) t c.in_ok-path.ensures.path in
    subst (All (HasRoomFor c.args.residual.now.net.arcs c.args.residual.now.flow 1)) (sym c.deref.ensures.value) (path_rooms c.args.residual.now c.args.potentials.now c.args.labels.now c.args.parents.now c.args.sent c.requires.partial c.requires.found.tree near c.in_ok-path.path.items chain way)

pub bounds-labels-destination : goal.bounds-labels-destination
bounds-labels-destination c =
    let l = c.requires.partial.ok.good.ranges.ends.destination_in in
    let t = c.destination-destination.ensures ∙ ap (λ (n : Net). n.destination) (sym c.requires.net) in
    let n = c.requires.found.tree.long in
    omega (arith, l, t, n)

pub push_path-requires-clause-distinct : goal.push_path-requires-clause-distinct
push_path-requires-clause-distinct c =
    let near = subst (λ (n : Net). slice_index c.args.labels.now n.destination < UNREACHED) (sym c.requires.net) c.requires.reached in
    let s = c.source-source.ensures ∙ ap (λ (n : Net). n.source) (sym c.requires.net) in
    let t = c.destination-destination.ensures ∙ ap (λ (n : Net). n.destination) (sym c.requires.net) in
    let chain = subst₂ (λ s t. HasDepth c.args.residual.now.net.arcs c.args.parents.now s (length c.in_ok-path.path.items) t) s t c.in_ok-path.ensures.chain in
    let way = subst (λ t. c.in_ok-path.path.items ≡ parent_path c.args.residual.now.net.arcs c.args.parents.now (length c.in_ok-path.path.items) t) t c.in_ok-path.ensures.path in
    subst HasDistinctArcs (sym c.deref-2.ensures.value) (path_distinct c.args.residual.now c.args.potentials.now c.args.labels.now c.args.parents.now c.args.sent c.requires.partial c.requires.found.tree near c.in_ok-path.path.items chain way)

pub returns-clause-partial : goal.returns-clause-partial
returns-clause-partial c =
    let near = subst (λ (n : Net). slice_index c.args.labels.now n.destination < UNREACHED) (sym c.requires.net) c.requires.reached in
    let s = c.source-source.ensures ∙ ap (λ (n : Net). n.source) (sym c.requires.net) in
    let t = c.destination-destination.ensures ∙ ap (λ (n : Net). n.destination) (sym c.requires.net) in
    let chain = subst₂ (λ s t. HasDepth c.args.residual.now.net.arcs c.args.parents.now s (length c.in_ok-path.path.items) t) s t c.in_ok-path.ensures.chain in
    let way = subst (λ t. c.in_ok-path.path.items ≡ parent_path c.args.residual.now.net.arcs c.args.parents.now (length c.in_ok-path.path.items) t) t c.in_ok-path.ensures.path in
    let amount = c.least_room-amount.result in
    let rooms = subst (All (HasRoomFor c.args.residual.now.net.arcs c.args.residual.now.flow amount)) c.deref.ensures.value c.least_room-amount.ensures.rooms in
    let raised = subst (λ t. IsRaised c.args.potentials.now c.raise.new.potentials c.args.labels.now (slice_index c.args.labels.now t)) t c.raise.ensures in
    let after = advanced c.args.residual.now c.args.potentials.now c.args.labels.now c.args.parents.now c.args.sent c.requires.partial c.requires.found near c.raise.new.potentials amount c.in_ok-path.path.items chain way rooms raised in
    subst (λ (r : ResidualNet). IsPartialSolution r c.raise.new.potentials (c.args.sent + amount)) (sym (c.push_path.ensures ∙ ap (λ (xs : List (ℕ × Bool)). record { net = c.args.residual.now.net; flow = flow_after c.args.residual.now.flow amount xs }) c.deref-2.ensures.value)) after
