use Rattle.std.proofs.Common.{◌+◌, ◌-◌, arith}
use Rattle.std.proofs.lemmas.Int.{ints}
use Rattle.std.specs.Prelude.{false}
use Rattle.flow_solver.specs.declared.node_potentials.TheConstants.{REACH_MAX}
use Rattle.flow_solver.proofs.Rows.{moved_within}
use Rattle.flow_solver.proofs.node_potentials.move_numbers.Goals as goal

pub drain-requires-2-clause-within : goal.drain-requires-2-clause-within
drain-requires-2-clause-within c v =
    let w = moved_within c.args.numbers.now c.drain.new.numbers c.args.source.now c.args.radius (REACH_MAX - (c.args.radius + c.args.rest)) false c.requires.within c.drain.ensures.moved v in
    let low = w.0 in
    let high = w.1 in
    let room = c.requires.room in
    (omega (arith, ints, low, room), omega (arith, ints, high, room))
