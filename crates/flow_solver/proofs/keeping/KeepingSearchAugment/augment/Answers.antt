use Rattle.std.proofs.Common.{ℕ, Bool, ◌∙◌, sym, ap, subst, arith, length, heap_items}
use Rattle.std.specs.Prelude.{replicate, set}
use Rattle.flow_model.specs.Instance.{Net}
use Rattle.flow_model.specs.Side.{Cuts}
use Rattle.flow_solver.specs.declared.labels.TheConstants.{UNREACHED}
use Rattle.flow_solver.specs.Queue.{key_of}
use Rattle.flow_solver.specs.Turned.{turned, against}
use Rattle.flow_solver.proofs.Advances.{reached_cut}
use Rattle.flow_solver.proofs.Queues.{first_queue}
use Rattle.flow_solver.proofs.Sides.{first_meeting, met_nowhere}
use Rattle.flow_solver.proofs.Tries.{first_tree}
use Rattle.flow_solver.proofs.Turned.{turned_ok}
use Rattle.flow_solver.proofs.keeping.KeepingSearchAugment.augment.Goals as goal

pub meet-requires-clause-two : goal.meet-requires-clause-two
meet-requires-clause-two c =
    let residual = c.args.residual.now in
    let p = c.args.self.now.potentials in
    let ok = c.requires.partial.ok in
    let ends = ok.good.ranges.ends in
    let net = sym c.requires.net in
    let s = c.source.ensures ∙ ap (λ (n : Net). n.source) net in
    let t = c.destination-end.ensures ∙ ap (λ (n : Net). n.destination) net in
    let near = c.in_ok-begin.ensures in
    let far = c.in_ok-begin-2.ensures in
    let labels = near.labels ∙ ap (λ n. set (replicate n UNREACHED) c.source.result 0) c.requires.fits.source_labels ∙ ap (λ v. set (replicate residual.net.nodes UNREACHED) v 0) s in
    let others = far.labels ∙ ap (λ n. set (replicate n UNREACHED) c.destination-end.result 0) c.requires.fits.destination_labels ∙ ap (λ v. set (replicate residual.net.nodes UNREACHED) v 0) t in
    let tree = first_tree residual p c.begin.new.side.labels c.begin.new.side.parents.items ok labels (ap (length {A = ℕ × Bool}) near.parents ∙ c.requires.fits.source_long) in
    let back = first_tree (turned residual) (against p) c.begin-2.new.side.labels c.begin-2.new.side.parents.items (turned_ok residual ok) others (ap (length {A = ℕ × Bool}) far.parents ∙ c.requires.fits.destination_long) in
    record {
      tree = tree;
      heap = near.heap;
      queue = first_queue residual p c.begin.new.side.labels (heap_items c.begin.new.side.heap) c.begin.new.side.parents.items (key_of 0 c.source.result) UNREACHED ends.source_in labels tree (ap (key_of 0) s) near.queue;
      back = back;
      back_heap = far.heap;
      back_queue = first_queue (turned residual) (against p) c.begin-2.new.side.labels (heap_items c.begin-2.new.side.heap) c.begin-2.new.side.parents.items (key_of 0 c.destination-end.result) UNREACHED ends.destination_in others back (ap (key_of 0) t) far.queue;
      meeting = first_meeting residual.net.nodes residual.net.source residual.net.destination c.begin.new.side.labels c.begin-2.new.side.labels ends.source_in ends.destination_in ends.apart labels others;
    }

pub returns-then-found-eq-UNREACHED-clause-cuts : goal.returns-then-found-eq-UNREACHED-clause-cuts
returns-then-found-eq-UNREACHED-clause-cuts c =
    let found = c.in_ok-found.ensures in
    let labels = c.meet.new.source.labels in
    let parents = c.meet.new.source.parents.items in
    let state = c.requires.partial in
    let demand = ap (λ (n : Net). n.demand) c.requires.net in
    let less = c.requires.less in
    let none = met_nowhere c.args.residual.now c.args.self.now.potentials labels c.meet.new.destination.labels parents c.in_ok-found.found.radius _ c.in_ok-found.found.best state.ok found.two.tree found.met c.if-found-eq-UNREACHED.true (found.whole c.if-found-eq-UNREACHED.true) in
    let side = c.in_ok-side.ensures in
    subst (λ (n : Net). Cuts n c.in_ok-side.side.items) c.requires.net (reached_cut c.args.residual.now c.args.self.now.potentials c.args.sent labels parents c.in_ok-side.side.items state none.0 (omega (arith, less, demand)) none.1 side)
