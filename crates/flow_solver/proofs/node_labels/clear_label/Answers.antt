use Rattle.std.proofs.Common.{◌∙◌, sym, ap, refl}
use Rattle.std.specs.Prelude.{set}
use Rattle.flow_solver.specs.declared.labels.TheConstants.{UNREACHED}
use Rattle.flow_solver.specs.NodeLabels.{labels_of}
use Rattle.flow_solver.proofs.Rows.{short_set}
use Rattle.flow_solver.proofs.node_labels.clear_label.Goals as goal

pub returns-in-Short : goal.returns-in-Short
returns-in-Short c = short_set c.in-Short.numbers.items c.args.node 18446744073709551615 UNREACHED refl ∙ sym (ap (λ row. set (labels_of row) c.args.node UNREACHED) c.in-Short.is)
