-- What layers and reservations say of a direction, one entry after another.
use Rattle.std.proofs.Common.{◌≡◌, ℕ, ◌≤◌, List, [], ◌∷◌, ◌++◌, Bool, true, false, cond, Option, Some, None, refl, sym, ap, ◌∙◌, arith}
use Rattle.std.specs.Prelude.{min, max, ℤ, pos, ◌+ℤ◌, ◌&&◌, not, unwrap_or, option_map}
use Rattle.std.proofs.lemmas.Grind.{flat_map-append}
use Rattle.std.proofs.lemmas.Int.{ints}
use Rattle.std.proofs.lemmas.List.{append-nil}
use Rattle.plan_base.specs.declared.amount.TheConstants.{MAX}
use Rattle.plan_base.specs.Dir.{Direction, same_dir}
use Rattle.plan_base.specs.declared.held.Reservation.{Reservation}
use Rattle.layer.specs.Layer.{LayerLists}
use Rattle.layer.specs.declared.records.Bias.{Bias}
use Rattle.layer.specs.declared.records.Constraint.{Constraint}
use Rattle.layer.specs.declared.records.Bound.{Bound}
use Rattle.layer.specs.declared.records.Bound.TheVariants.{Max, Min}
use Rattle.view_build.specs.declared.known.Known.{Known}
use Rattle.view_build.specs.First.{applied}
use Rattle.view_build.specs.Known.{known_of, with_bias, with_bound, with_constraints, with_layer, first_bias}
use Rattle.view_build.specs.Rules.{all_constraints, least_bound, greatest_bound, is_maximum, sum_of_biases, bias_in}

pub least_le : (dir : Direction) (amount : ℕ) (cs : List Constraint) → least_bound dir amount cs ≤ amount
least_le dir amount [] = omega arith
least_le dir amount (c ∷ cs) = omega (arith, least_le dir amount cs)

pub least_min : (dir : Direction) (p q : ℕ) (cs : List Constraint) → least_bound dir (min p q) cs ≡ min p (least_bound dir q cs)
least_min dir p q [] = refl
least_min dir p q (c ∷ cs) = by (same_dir c.dir dir && is_maximum c.bound) (least_min dir p q cs)
  where
    by : (b : Bool) → least_bound dir (min p q) cs ≡ min p (least_bound dir q cs)
        → min (cond b c.amount (min p q)) (least_bound dir (min p q) cs) ≡ min p (min (cond b c.amount q) (least_bound dir q cs))
    by true h = omega (arith, h)
    by false h = omega (arith, h)

least_append : (dir : Direction) (amount : ℕ) (cs ds : List Constraint) → least_bound dir amount (cs ++ ds) ≡ least_bound dir (least_bound dir amount cs) ds
least_append dir amount [] ds = refl
least_append dir amount (c ∷ cs) ds =
    let first = cond (same_dir c.dir dir && is_maximum c.bound) c.amount amount in
    ap (min first) (least_append dir amount cs ds) ∙ sym (least_min dir first (least_bound dir amount cs) ds)

greatest_append : (dir : Direction) (cs ds : List Constraint) → greatest_bound dir (cs ++ ds) ≡ max (greatest_bound dir cs) (greatest_bound dir ds)
greatest_append dir [] ds = omega arith
greatest_append dir (c ∷ cs) ds = omega (arith, greatest_append dir cs ds)

abbrev bounded : Known → ℕ → ℕ → Known
bounded known a m = record { maximum = a; minimum = m; bias = known.bias; reserved = known.reserved }

same_bounds : (known : Known) (a b m n : ℕ) → a ≡ b → m ≡ n → bounded known a m ≡ bounded known b n
same_bounds known a b m n e f = ap (λ x. bounded known x m) e ∙ ap (λ y. bounded known b y) f

pub constraints_push : (dir : Direction) (known : Known) (cs : List Constraint) (c : Constraint)
    → with_constraints dir known (cs ++ c ∷ []) ≡ cond (same_dir c.dir dir) (with_bound (with_constraints dir known cs) c.bound c.amount) (with_constraints dir known cs)
constraints_push dir known cs c =
    same_bounds known _ _ _ _ (least_append dir known.maximum cs (c ∷ [])) (ap (max known.minimum) (greatest_append dir cs (c ∷ [])))
    ∙ by (least_bound dir known.maximum cs) (greatest_bound dir cs) (same_dir c.dir dir) c.bound
  where
    by : (least greatest : ℕ) (same : Bool) (bound : Bound)
        → bounded known (min (cond (same && is_maximum bound) c.amount least) least) (max known.minimum (max greatest (max (cond (same && not (is_maximum bound)) c.amount 0) 0)))
        ≡ cond same (with_bound (bounded known least (max known.minimum greatest)) bound c.amount) (bounded known least (max known.minimum greatest))
    by least greatest true Max = same_bounds known _ _ _ _ (omega arith) (omega arith)
    by least greatest true Min = same_bounds known _ _ _ _ (omega arith) (omega arith)
    by least greatest false bound = same_bounds known _ _ _ _ (omega arith) (omega arith)

biases_push : (dir : Direction) (layers : List LayerLists) (lists : LayerLists) → sum_of_biases dir (layers ++ lists ∷ []) ≡ sum_of_biases dir layers +ℤ bias_in dir lists
biases_push dir [] lists = omega (arith, ints)
biases_push dir (first ∷ layers) lists = omega (arith, ints, biases_push dir layers lists)

plus_zero : (z : ℤ) → z +ℤ pos 0 ≡ z
plus_zero z = omega (arith, ints)

pub known_push : (dir : Direction) (layers : List LayerLists) (held : List Reservation) (lists : LayerLists) → known_of dir (layers ++ lists ∷ []) held ≡ with_layer dir (known_of dir layers held) lists
known_push dir layers held lists =
    let constraints : all_constraints (layers ++ lists ∷ []) ≡ all_constraints layers ++ lists.constraints =
    flat_map-append (λ (l : LayerLists). l.constraints) layers (lists ∷ []) ∙ ap (λ cs. all_constraints layers ++ cs) (append-nil lists.constraints) in
    rw (constraints, least_append dir MAX (all_constraints layers) lists.constraints, greatest_append dir (all_constraints layers) lists.constraints, biases_push dir layers lists)
    (by (with_constraints dir (known_of dir layers held) lists.constraints) (first_bias dir lists))
  where
    by : (bounds : Known) (found : Option Bias)
        → record { maximum = bounds.maximum; minimum = bounds.minimum; bias = bounds.bias +ℤ unwrap_or (option_map (λ (b : Bias). b.bias) found) (pos 0); reserved = bounds.reserved }
        ≡ applied with_bias bounds found
    by bounds None = ap (λ z. record { maximum = bounds.maximum; minimum = bounds.minimum; bias = z; reserved = bounds.reserved }) (plus_zero bounds.bias)
    by bounds (Some b) = refl
