use Rattle.std.proofs.Common.{◌≡◌, ◌∙◌, subst, sym, ap, length}
use Rattle.path_split.specs.Walk.{directions, lowered}
use Rattle.path_split.proofs.Walks.{length-lowered}
use Rattle.path_split.proofs.Splitting.{FoundSoFar, paths_none, paths_turn, paths_all, acyclic, on, bears}
use Rattle.path_split.proofs.Turns.{restored, way_read, firsts_read, no_cycle_read, on_read, fits_read, tight_read, bears_read}
use Rattle.path_split.proofs.paths.paths_of.Goals as goal

pub loop-units-init : goal.loop-units-init
loop-units-init c =
    let e = c.deref.ensures.value in
    let e2 = c.deref-2.ensures.value in
    let left = rw e at c.in_ok-left.ensures in
    let first = rw e2 at c.in_ok-first.ensures.first in
    subst (λ n. FoundSoFar c.args.instance.now c.args.flow.now c.in_ok-edges.edges.items c.in_ok-left.left.items c.in_ok-first.first.items n c.new-paths.result.items) (sym c.demand-units.ensures)
    (paths_none c.args.instance.now c.args.flow.now c.in_ok-edges.edges.items c.nodes.ensures.bounds c.requires c.in_ok-edges.ensures.edges c.in_ok-edges.ensures.order _ _ _ left (c.in_ok-first.ensures.nodes ∙ c.nodes.ensures.value) first c.new-paths.ensures.items)

pub find_path-requires-clause-on : goal.find_path-requires-clause-on
find_path-requires-clause-on c =
    let h = on c.args.instance.now c.args.flow.now c.in_ok-edges.edges.items c.nodes.ensures.bounds c.requires c.in_ok-edges.ensures.edges c.in_ok-edges.ensures.order _ _ _ _ c.loop-units.invariant c.loop-units-test.true in
    on_read _ _ _ _ _ _ _ _ _ _ (sym (ap length c.deref_mut.ensures.value ∙ c.loop-units.invariant.nodes)) (sym c.deref-in-loop-units.ensures.value) (sym c.deref-in-loop-units-2.ensures.value) (sym c.source.ensures) (sym c.destination.ensures) h

pub find_path-requires-clause-none : goal.find_path-requires-clause-none
find_path-requires-clause-none c =
    let h = acyclic c.args.instance.now c.args.flow.now c.in_ok-edges.edges.items c.nodes.ensures.bounds c.requires c.in_ok-edges.ensures.edges c.in_ok-edges.ensures.order _ _ _ _ c.loop-units.invariant in
    no_cycle_read _ _ _ _ (sym c.deref-in-loop-units.ensures.value) (sym c.deref-in-loop-units-2.ensures.value) h

pub take_units-requires : goal.take_units-requires
take_units-requires c =
    let way = way_read _ _ _ _ _ _ _ _ _ c.deref-in-loop-units.ensures.value c.deref-in-loop-units-2.ensures.value c.source.ensures c.destination.ensures c.in_ok-path.ensures.way in
    let firsts = firsts_read _ _ _ _ _ c.find_path.new.first c.deref-in-loop-units.ensures.value c.deref-in-loop-units-2.ensures.value (λ k. c.find_path.new.first) c.in_ok-path.ensures.first in
    let nodes = c.in_ok-path.ensures.nodes ∙ ap length c.deref_mut.ensures.value in
    let fits = fits_read _ _ _ _ _ c.deref-in-loop-units-3.ensures.value c.deref-in-loop-units-4.ensures.value c.bottleneck-least.ensures.fits in
    let h = bears c.args.instance.now c.args.flow.now c.in_ok-edges.edges.items c.nodes.ensures.bounds c.requires c.in_ok-edges.ensures.edges c.in_ok-edges.ensures.order _ _ _ _ c.loop-units.invariant c.loop-units-test.true _ _ c.bottleneck-least.result c.in_ok-part_of.field-0 _ _ way firsts nodes c.bottleneck-least.ensures.most c.bottleneck-least.ensures.some fits (λ l. tight_read _ _ _ _ _ c.deref-in-loop-units-3.ensures.value c.deref-in-loop-units-4.ensures.value (c.bottleneck-least.ensures.tight l)) (part c) c.in_ok-push.ensures.items (λ k. lowered c.loop-units.left.items c.bottleneck-least.result c.in_ok-path.path.items) in
    bears_read _ _ _ _ _ (sym c.deref_mut-in-loop-units.ensures.value) (sym c.deref-in-loop-units-7.ensures.value) h
  where
    part : (c : goal.After-deref-in-loop-units-7) → c.in_ok-part_of.field-0 ≡ record { path = directions c.in_ok-edges.edges.items c.in_ok-path.path.items; units = c.bottleneck-least.result }
    part c = rw (c.deref-in-loop-units-5.ensures.value, c.deref-in-loop-units-6.ensures.value) at c.in_ok-part_of.ensures

pub loop-units-preserved : goal.loop-units-preserved
loop-units-preserved c =
    let instance = c.args.instance.now in
    let edges = c.in_ok-edges.edges.items in
    let left = c.loop-units.left.items in
    let path = c.in_ok-path.path.items in
    let k = c.bottleneck-least.result in
    let way = way_read _ _ _ _ _ _ _ _ _ c.deref-in-loop-units.ensures.value c.deref-in-loop-units-2.ensures.value c.source.ensures c.destination.ensures c.in_ok-path.ensures.way in
    let nodes = c.in_ok-path.ensures.nodes ∙ ap length c.deref_mut.ensures.value in
    let first_is = restored c.find_path.new.first c.loop-units.first.items c.loop-units.first.len nodes (sym c.deref_mut.ensures.len ∙ ap length c.deref_mut.ensures.value) in
    let firsts = firsts_read _ _ _ _ _ _ c.deref-in-loop-units.ensures.value c.deref-in-loop-units-2.ensures.value (sym first_is) c.in_ok-path.ensures.first in
    let fits = fits_read _ _ _ _ _ c.deref-in-loop-units-3.ensures.value c.deref-in-loop-units-4.ensures.value c.bottleneck-least.ensures.fits in
    let low = c.take_units.ensures ∙ (λ i. lowered (c.deref_mut-in-loop-units.ensures.value i) k (c.deref-in-loop-units-7.ensures.value i)) in
    let long = ap length low ∙ length-lowered left k path in
    let left_is = restored c.take_units.new.left left c.loop-units.left.len long (sym c.deref_mut-in-loop-units.ensures.len ∙ ap length c.deref_mut-in-loop-units.ensures.value) in
    let part = c.in_ok-part_of.ensures ∙ (λ i. record { path = directions (c.deref-in-loop-units-5.ensures.value i) (c.deref-in-loop-units-6.ensures.value i); units = k }) in
    paths_turn instance c.args.flow.now edges c.nodes.ensures.bounds c.requires c.in_ok-edges.ensures.edges c.in_ok-edges.ensures.order _ _ _ _ c.loop-units.invariant c.loop-units-test.true _ path k c.in_ok-part_of.field-0 _ _ way firsts (ap length first_is ∙ nodes) c.bottleneck-least.ensures.most c.bottleneck-least.ensures.some fits (λ l. tight_read _ _ _ _ _ c.deref-in-loop-units-3.ensures.value c.deref-in-loop-units-4.ensures.value (c.bottleneck-least.ensures.tight l)) part c.in_ok-push.ensures.items (left_is ∙ low)

pub returns : goal.returns
returns c = paths_all c.args.instance.now c.args.flow.now c.in_ok-edges.edges.items c.nodes.ensures.bounds c.requires c.in_ok-edges.ensures.edges c.in_ok-edges.ensures.order _ _ _ _ c.loop-units-test.false c.loop-units.invariant
