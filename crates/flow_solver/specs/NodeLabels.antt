-- Labels in 64 or in 128 bits, and the list of the nodes whose labels fell; these words serve private clauses only.
use Rattle.std.specs.Prelude.{ℕ, ◌<◌, ◌≡◌, ◌⊎◌, List, length, map, cond, nat_lt, All, Contains, slice_index}
use Rattle.flow_solver.specs.declared.labels.TheConstants.{UNREACHED}
use Rattle.flow_solver.specs.declared.node_labels.LabelRow.{LabelRow}
use Rattle.flow_solver.specs.declared.node_labels.LabelRow.TheVariants.{Short, Long}

-- the label that a number of 64 bits stands for
abbrev pub widened : ℕ → ℕ
widened number = cond (nat_lt number 18446744073709551615) number UNREACHED

-- the label of each node
abbrev pub labels_of : LabelRow → List ℕ
labels_of (Short numbers) = map widened numbers.items
labels_of (Long labels) = labels.items

-- each reached node is in the list
pub record IsListed (labels lowered : List ℕ) : Type 0 where
  pub inside : All (λ v. v < length labels) lowered
  pub each : (v : ℕ) → v < length labels → Contains lowered v ⊎ (slice_index labels v ≡ UNREACHED)
