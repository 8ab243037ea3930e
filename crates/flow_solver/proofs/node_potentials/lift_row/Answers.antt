use Rattle.std.proofs.Common.{◌+◌, ◌∙◌, sym, ap, subst, subst₂, length}
use Rattle.std.specs.Prelude.{map, pos, ℤ, ◌+ℤ◌}
use Rattle.residual_net.proofs.Pushed.{whole_again}
use Rattle.flow_solver.specs.Meeting.{IsLifted}
use Rattle.flow_solver.specs.NodePotentials.{IsMovedTwice, IsReaching, HasReach, potentials_of}
use Rattle.flow_solver.proofs.Rows.{lifted_short, reached_short}
use Rattle.flow_solver.proofs.node_potentials.lift_row.Goals as goal

pub returns-in-Short-clause-lifted : goal.returns-in-Short-clause-lifted
returns-in-Short-clause-lifted c =
    let row = c.in-Short in
    let new = c.move_numbers.new.numbers in
    let d = c.args.source.now in
    let e = c.args.destination.now in
    let twice = subst (λ old. IsMovedTwice old new d e c.args.radius c.args.rest) c.deref_mut.ensures.value c.move_numbers.ensures.moved in
    let len = sym (ap (length {A = ℤ}) c.deref_mut.ensures.value) ∙ c.deref_mut.ensures.len in
    let again = whole_again new row.numbers.items row.numbers.len (twice.long ∙ len) len in
    let lifted = lifted_short row.numbers.items new d e row.offset c.args.radius c.args.rest c.requires.radius c.requires.rest twice in
    subst₂ (λ old ns. IsLifted old (map (λ z. z +ℤ pos (row.offset + c.args.radius)) ns) d e c.args.radius c.args.rest) (sym (ap potentials_of row.is)) (sym again) lifted

pub returns-in-Short-clause-reach : goal.returns-in-Short-clause-reach
returns-in-Short-clause-reach c =
    let row = c.in-Short in
    let new = c.move_numbers.new.numbers in
    let twice = subst (λ old. IsMovedTwice old new c.args.source.now c.args.destination.now c.args.radius c.args.rest) c.deref_mut.ensures.value c.move_numbers.ensures.moved in
    let so = subst (λ r. HasReach r (c.args.radius + c.args.rest)) row.is c.requires.room in
    let len = sym (ap (length {A = ℤ}) c.deref_mut.ensures.value) ∙ c.deref_mut.ensures.len in
    subst (λ ns. IsReaching ns (row.offset + c.args.radius) (row.reach + (c.args.radius + c.args.rest)) 0) (sym (whole_again new row.numbers.items row.numbers.len (twice.long ∙ len) len)) (reached_short row.numbers.items new c.args.source.now c.args.destination.now row.offset row.reach c.args.radius c.args.rest so twice)
