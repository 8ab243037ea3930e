use Rattle.std.proofs.Common.{◌∙◌, ap, length, sym}
use Rattle.std.specs.Prelude.{replicate, set}
use Rattle.flow_model.specs.Instance.{Net}
use Rattle.flow_solver.specs.declared.labels.TheConstants.{UNREACHED}
use Rattle.flow_solver.proofs.Tries.{first_tree}
use Rattle.flow_solver.proofs.correcting.search_by_passes.Goals as goal

pub correct-requires-clause-tree : goal.correct-requires-clause-tree
correct-requires-clause-tree c = first_tree _ _ _ _ c.requires.residual (c.deref_mut.ensures.value ∙ c.in_ok-tree.ensures.labels ∙ ap (λ (n : Net). set (replicate n.nodes UNREACHED) n.source 0) (sym c.requires.net)) (ap length c.deref_mut-2.ensures.value ∙ c.in_ok-tree.ensures.parents ∙ ap (λ (n : Net). n.nodes) (sym c.requires.net))
