use Rattle.std.proofs.Common.{◌∙◌, ◌<◌, to_z, of_z, ap, subst, arith, length}
use Rattle.std.proofs.lemmas.Int.{ints}
use Rattle.std.proofs.lemmas.List.{length-map}
use Rattle.std.specs.Int.{w64}
use Rattle.std.specs.Prelude.{slice_index_or, pos, ◌-ℤ◌, ◌+ℤ◌}
use Rattle.residual_net.proofs.Loads.{get_or-any}
use Rattle.flow_solver.specs.NodePotentials.{HasReach, potentials_of}
use Rattle.flow_solver.proofs.Rows.{above_at, signed_again, signed_long}
use Rattle.flow_solver.proofs.node_potentials.difference_of.Goals as goal

pub returns-in-Short : goal.returns-in-Short
returns-in-Short c =
    let row = c.in-Short in
    let numbers = row.numbers.items in
    let so = subst (λ r. HasReach r 0) row.is c.requires.reach in
    let n = ap (λ r. length (potentials_of r)) row.is ∙ length-map numbers (λ z. z +ℤ pos row.offset) in
    let from : c.args.from < length numbers = (let l = c.requires.from in omega (arith, l, n)) in
    let to : c.args.to < length numbers = (let l = c.requires.to in omega (arith, l, n)) in
    let x = ap (λ r. slice_index_or (potentials_of r) c.args.from (pos 0)) row.is ∙ above_at numbers row.offset c.args.from from in
    let y = ap (λ r. slice_index_or (potentials_of r) c.args.to (pos 0)) row.is ∙ above_at numbers row.offset c.args.to to in
    let near = c.index.ensures ∙ get_or-any numbers c.args.from c.index.result.now (pos 0) from in
    let far = c.index-in-Short.ensures ∙ get_or-any numbers c.args.to c.index-in-Short.result.now (pos 0) to in
    let a = so.within c.args.from in
    let b = so.within c.args.to in
    let a_low = a.0 in
    let a_high = a.1 in
    let b_low = b.0 in
    let b_high = b.1 in
    let room = so.room in
    let short = signed_again (c.index.result.now -ℤ c.index-in-Short.result.now) (omega (arith, ints, near, far, a_low, a_high, b_low, b_high, room), omega (arith, ints, near, far, a_low, a_high, b_low, b_high, room)) in
    let one = signed_again c.index.result.now (omega (arith, ints, near, a_low, room), omega (arith, ints, near, a_high, room)) in
    let other = signed_again c.index-in-Short.result.now (omega (arith, ints, far, b_low, room), omega (arith, ints, far, b_high, room)) in
    let is = c.from.ensures ∙ ap (λ z. to_z w64 (of_z w64 (z -ℤ to_z w64 (of_z w64 c.index-in-Short.result.now)))) one ∙ ap (λ z. to_z w64 (of_z w64 (c.index.result.now -ℤ z))) other ∙ short in
    let long = signed_long c.from.result (omega (arith, ints, is, near, far, a_low, a_high, b_low, b_high, room), omega (arith, ints, is, near, far, a_low, a_high, b_low, b_high, room)) in
    omega (arith, ints, long, is, near, far, x, y)
