use Rattle.std.proofs.Common.{◌∙◌, ◌+◌, arith, ap, subst, sym}
use Rattle.std.specs.Prelude.{take, zip, set, slice_index_or}
use Rattle.std.proofs.lemmas.List.{get_or_default, take_all}
use Rattle.std.proofs.lemmas.Slice.Zip.{length-zip}
use Rattle.fee_backward.specs.declared.hop.Hop.{Hop}
use Rattle.limit_rounds.specs.declared.loads.Load.{Load}
use Rattle.limit_rounds.specs.Loads.{no_load, load_after, load_at, with_hop}
use Rattle.limit_rounds.proofs.Carried.{Adds, add_in, add_turn, add_fits}
use Rattle.limit_rounds.proofs.loads.add_route.Goals as goal

pub with_hop-requires : goal.with_hop-requires
with_hop-requires c =
    let none : Hop = record { carried = 0; amount = 0; delay = 0 } in
    let l = c.loop-i-test.true in
    let old = c.args.loads.now.items in
    let new = c.loop-i.loads.items in
    let inside = add_in old new c.args.path.now c.args.hops.now c.loop-i.i none l c.requires.long c.requires.within c.loop-i.invariant in
    let was = ap (λ (y : Load). y.total) (c.index.ensures ∙ get_or_default new _ _ no_load inside) in
    let fits = add_fits old new c.args.path.now c.args.hops.now c.loop-i.i none l c.requires.long c.requires.within c.loop-i.invariant c.requires.fits in
    omega (arith, was, fits)

pub loop-i-preserved : goal.loop-i-preserved
loop-i-preserved c =
    let none : Hop = record { carried = 0; amount = 0; delay = 0 } in
    let l = c.loop-i-test.true in
    let old = c.args.loads.now.items in
    let new = c.loop-i.loads.items in
    let path = c.args.path.now in
    let hops = c.args.hops.now in
    let i = c.loop-i.i in
    let x = (slice_index_or hops i none).carried in
    let inside = add_in old new path hops i none l c.requires.long c.requires.within c.loop-i.invariant in
    let is = c.with_hop.ensures ∙ ap (λ y. with_hop y x) (c.index.ensures ∙ get_or_default new _ _ no_load inside) in
    subst (λ y. Adds old (set new (slice_index_or path i 0) y) (take (i + 1) (zip path hops))) (sym is) (add_turn old new path hops i none l c.requires.long c.requires.within c.loop-i.invariant)

pub returns-clause-value : goal.returns-clause-value
returns-clause-value c d l =
    let all = take_all c.loop-i.i (zip c.args.path.now c.args.hops.now) (omega (arith, length-zip c.args.path.now c.args.hops.now, c.requires.long, c.loop-i-test.false)) in
    c.loop-i.invariant.value d l ∙ ap (load_after d (load_at c.args.loads.now.items d)) all
