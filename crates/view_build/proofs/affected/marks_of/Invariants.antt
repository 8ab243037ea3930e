use Rattle.std.proofs.Common.{◌≡◌, take, map}
use Rattle.view_build.specs.Disabled.{has_node}
use Rattle.view_build.proofs.affected.marks_of.Given as goal

abbrev pub invariant-loop-id : goal.invariant-loop-id
invariant-loop-id l = l.marks.items ≡ map (has_node l.nodes) (take l.id-index l.ids)
