use Rattle.std.proofs.Common.{◌∙◌, ◌<◌, sym, ap, arith}
use Rattle.std.specs.Prelude.{set}
use Rattle.flow_solver.specs.NodeLabels.{labels_of}
use Rattle.flow_solver.proofs.Rows.{short_set, widened_low}
use Rattle.flow_solver.proofs.node_labels.set_label.Goals as goal

pub returns-then-label-from-clause-set : goal.returns-then-label-from-clause-set
returns-then-label-from-clause-set c =
    let below : c.args.label < 18446744073709551615 = (let l = c.if-label-from.true in let e = c.from.ensures in omega (arith, l, e)) in
    short_set c.in-Short.numbers.items c.args.node c.args.label c.args.label (widened_low c.args.label below) ∙ sym (ap (λ row. set (labels_of row) c.args.node c.args.label) c.in-Short.is)
