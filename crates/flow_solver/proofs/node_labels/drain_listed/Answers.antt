use Rattle.std.proofs.Common.{◌+◌, ◌<◌, ◌≡◌, ◌∙◌, sym, refl, ap, subst, arith, length}
use Rattle.std.specs.Prelude.{drop, replicate, slice_index, slice_index_or, pos, ◌+ℤ◌}
use Rattle.std.proofs.lemmas.Int.{ints}
use Rattle.std.proofs.lemmas.List.{drop_all}
use Rattle.flow_solver.specs.declared.labels.TheConstants.{UNREACHED}
use Rattle.flow_solver.specs.declared.node_potentials.TheConstants.{REACH_MAX}
use Rattle.flow_solver.specs.NodeLabels.{IsListed, labels_of}
use Rattle.flow_solver.specs.NodePotentials.{IsWithin, move_of}
use Rattle.flow_solver.proofs.Listed.{cleared_all, cleared_more, listed_first, listed_in}
use Rattle.flow_solver.proofs.Rows.{drain_end, drain_turn, drain_within, move_within, signed_again}
use Rattle.flow_solver.proofs.node_labels.drain_listed.Goals as goal

pub moved-requires-clause-number : goal.moved-requires-clause-number
moved-requires-clause-number c =
    let so = c.loop-node.invariant in
    let v = slice_index c.args.lowered.now c.loop-node.node-index in
    let k = listed_in (labels_of c.loop-node.row) c.args.lowered.now c.loop-node.node-index c.loop-node-test.true so.listed in
    let l : v < length c.args.numbers.now = (let long = c.requires.long in let as_long = so.draining.as_long in omega (arith, k, long, as_long)) in
    let here = slice_index_or c.loop-node.numbers v (pos 0) in
    let within = drain_within c.args.numbers.now c.loop-node.numbers (labels_of c.args.row.now) (labels_of c.loop-node.row) c.args.bound c.args.up v c.requires.bound l c.requires.within so.draining in
    let low = within.0 in
    let high = within.1 in
    let wide : IsWithin here (REACH_MAX + REACH_MAX) = (omega (arith, ints, low), omega (arith, ints, high)) in
    subst (λ z. IsWithin z REACH_MAX) (sym (signed_again here wide)) within

pub loop-node-preserved : goal.loop-node-preserved
loop-node-preserved c =
    let so = c.loop-node.invariant in
    let v = slice_index c.args.lowered.now c.loop-node.node-index in
    let rest = labels_of c.loop-node.row in
    let k = listed_in rest c.args.lowered.now c.loop-node.node-index c.loop-node-test.true so.listed in
    let as_long = so.draining.as_long in
    let l : v < length c.args.numbers.now = (let long = c.requires.long in omega (arith, k, long, as_long)) in
    let here = slice_index_or c.loop-node.numbers v (pos 0) in
    let within = drain_within c.args.numbers.now c.loop-node.numbers (labels_of c.args.row.now) rest c.args.bound c.args.up v c.requires.bound l c.requires.within so.draining in
    let low = within.0 in
    let high = within.1 in
    let wide : IsWithin here (REACH_MAX + REACH_MAX) = (omega (arith, ints, low), omega (arith, ints, high)) in
    let label = ap (move_of c.args.bound c.args.up) c.label_of-label.ensures in
    let is : c.moved.result ≡ here +ℤ move_of c.args.bound c.args.up (slice_index rest v) = c.moved.ensures ∙ ap (λ z. z +ℤ move_of c.args.bound c.args.up c.label_of-label.result) (signed_again here wide) ∙ ap (λ z. here +ℤ z) label in
    let move = move_within c.args.bound c.args.up (slice_index rest v) in
    let move_low = move.0 in
    let move_high = move.1 in
    let bound = c.requires.bound in
    let again = signed_again c.moved.result (omega (arith, ints, is, low, move_low, bound), omega (arith, ints, is, high, move_high, bound)) in
    record {
      draining = drain_turn c.args.numbers.now c.loop-node.numbers _ (labels_of c.args.row.now) rest (labels_of c.clear_label.new.row) c.args.bound c.args.up v _ c.requires.bound l (omega (arith, k, as_long)) (again ∙ is) refl c.clear_label.ensures so.draining;
      listed = subst (λ ls. IsListed ls (drop (c.loop-node.node-index + 1) c.args.lowered.now)) (sym c.clear_label.ensures) (cleared_more rest (drop (c.loop-node.node-index + 1) c.args.lowered.now) v (listed_first rest c.args.lowered.now c.loop-node.node-index v c.loop-node-test.true refl so.listed));
    }

pub returns-clause-moved : goal.returns-clause-moved
returns-clause-moved c =
    let so = c.loop-node.invariant in
    let none = cleared_all (labels_of c.loop-node.row) (subst (IsListed (labels_of c.loop-node.row)) (drop_all c.loop-node.node-index c.args.lowered.now (let t = c.loop-node-test.false in omega (arith, t))) so.listed) in
    drain_end c.args.numbers.now c.loop-node.numbers (labels_of c.args.row.now) (labels_of c.loop-node.row) c.args.bound c.args.up c.requires.bound c.requires.long none so.draining

pub returns-clause-cleared : goal.returns-clause-cleared
returns-clause-cleared c =
    let so = c.loop-node.invariant in
    cleared_all (labels_of c.loop-node.row) (subst (IsListed (labels_of c.loop-node.row)) (drop_all c.loop-node.node-index c.args.lowered.now (let t = c.loop-node-test.false in omega (arith, t))) so.listed) ∙ ap (λ n. replicate n UNREACHED) so.draining.as_long
