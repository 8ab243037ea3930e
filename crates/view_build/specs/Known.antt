-- Serves private clauses only: what layers and reservations say of a direction's liquidity, and its bias.
use Rattle.std.specs.Prelude.{ℕ, ◌+◌, ◌≤ℤ◌, ℤ, pos, ◌+ℤ◌, List, take, min, max, unwrap_or, Option}
use Rattle.std.specs.List.{find}
use Rattle.std.specs.BTreeMap.{BTreeMap, get}
use Rattle.plan_base.specs.declared.amount.TheConstants.{MAX}
use Rattle.plan_base.specs.Dir.{Direction, same_dir, dir_order}
use Rattle.plan_base.specs.declared.held.Reservation.{Reservation}
use Rattle.reservations.specs.Reserved.{reserved_on}
use Rattle.layer.specs.Layer.{LayerLists}
use Rattle.layer.specs.declared.records.Bias.{Bias}
use Rattle.layer.specs.declared.records.Constraint.{Constraint}
use Rattle.layer.specs.declared.records.Bound.{Bound}
use Rattle.layer.specs.declared.records.Bound.TheVariants.{Max, Min}
use Rattle.view_build.specs.declared.known.Known.{Known}
use Rattle.view_build.specs.First.{applied}
use Rattle.view_build.specs.Rules.{all_constraints, least_bound, greatest_bound, sum_of_biases}

-- what is known of a direction of which nothing is said
abbrev pub unknown : Known
unknown = record { maximum = MAX; minimum = 0; bias = pos 0; reserved = 0 }

-- what a map has for a direction
abbrev pub known_at : BTreeMap Direction Known → Direction → Known
known_at map dir = unwrap_or (get dir_order map dir) unknown

-- what layers and reservations say of a direction
abbrev pub known_of : Direction → List LayerLists → List Reservation → Known
known_of dir layers held = record {
  maximum = least_bound dir MAX (all_constraints layers);
  minimum = greatest_bound dir (all_constraints layers);
  bias = sum_of_biases dir layers;
  reserved = reserved_on dir held;
}

abbrev pub with_bound : Known → Bound → ℕ → Known
with_bound known Max amount = record { maximum = min known.maximum amount; minimum = known.minimum; bias = known.bias; reserved = known.reserved }
with_bound known Min amount = record { maximum = known.maximum; minimum = max known.minimum amount; bias = known.bias; reserved = known.reserved }

abbrev pub with_constraints : Direction → Known → List Constraint → Known
with_constraints dir known constraints = record {
  maximum = least_bound dir known.maximum constraints;
  minimum = max known.minimum (greatest_bound dir constraints);
  bias = known.bias;
  reserved = known.reserved;
}

abbrev pub with_bias : Known → Bias → Known
with_bias known bias = record { maximum = known.maximum; minimum = known.minimum; bias = known.bias +ℤ bias.bias; reserved = known.reserved }

abbrev pub with_reserved : Known → ℕ → Known
with_reserved known amount = record { maximum = known.maximum; minimum = known.minimum; bias = known.bias; reserved = known.reserved + amount }

-- the first of so many biases of a layer that is of the direction
abbrev pub bias_among : ℕ → Direction → LayerLists → Option Bias
bias_among n dir lists = find (λ (b : Bias). same_dir b.dir dir) (take n lists.biases)

-- the first bias of a layer that is of the direction
abbrev pub first_bias : Direction → LayerLists → Option Bias
first_bias dir lists = find (λ (b : Bias). same_dir b.dir dir) lists.biases

abbrev pub with_layer : Direction → Known → LayerLists → Known
with_layer dir known lists = applied with_bias (with_constraints dir known lists.constraints) (first_bias dir lists)

-- from -n to n
pub record IsWithin (n : ℕ) (z : ℤ) : Type 0 where
  pub low : pos 0 ≤ℤ (z +ℤ pos n)
  pub high : z ≤ℤ pos n
