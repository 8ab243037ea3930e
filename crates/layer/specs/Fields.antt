-- Serves private clauses only: the five lists that copies of a layer share.
use Rattle.std.specs.Prelude.{Option, Some, None}
use Rattle.std.specs.Arc.{arc_value}
use Rattle.std.specs.declared.sync.Arc.{Arc}
use Rattle.layer.specs.Layer.{LayerLists, no_lists}
use Rattle.layer.specs.declared.lists.Lists.{Lists}

abbrev pub lists_in : Lists → LayerLists
lists_in lists = record {
  created = lists.created.items;
  updates = lists.updates;
  constraints = lists.constraints.items;
  biases = lists.biases;
  disabled = lists.disabled.items;
}

abbrev pub shared_lists : {A : Type 0} → Option (Arc Lists A) → LayerLists
shared_lists None = no_lists
shared_lists (Some shared) = lists_in (arc_value shared)
