use Rattle.std.proofs.Common.{◌≡◌, ◌++◌}
use Rattle.std.specs.Prelude.{drop}
use Rattle.path_split.specs.Parts.{parts_of_paths}
use Rattle.path_split.proofs.parts.cut_paths.Given as goal

abbrev pub invariant-loop-path : goal.invariant-loop-path
invariant-loop-path l = l.parts.items ++ parts_of_paths l.size (drop l.path-index l.paths) ≡ parts_of_paths l.size l.paths
