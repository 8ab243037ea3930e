-- Serves private clauses only: sets of nodes.
use Rattle.std.specs.Prelude.{ℕ, List, Bool}
use Rattle.std.specs.Ordering.{nat_cmp}
use Rattle.std.specs.Cmp.Lexicographic.{slice_cmp}
use Rattle.std.specs.BTreeSet.{BTreeSet, contains}

abbrev pub has_node : BTreeSet (List ℕ) → List ℕ → Bool
has_node nodes node = contains (slice_cmp nat_cmp) nodes node
