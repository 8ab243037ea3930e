-- When the arcs of a certificate are in order by direction: then they are the arcs of an instance.
use Rattle.std.specs.Prelude.{◌≤◌, List, AllPairs}
use Rattle.flow_model.specs.declared.instance.Arc.{Arc}
use Rattle.flow_model.specs.Instance.{Dearer}

-- the later of two arcs is of no lower direction; if both are of one direction, it has equal ends and isn't cheaper
abbrev pub Follows : Arc → Arc → Type 0
Follows a b = (a.dir ≤ b.dir) × Dearer a b

-- the directions never fall, and the arcs of one direction are in the order of their costs
abbrev pub AreSorted : List Arc → Type 0
AreSorted arcs = AllPairs Follows arcs
