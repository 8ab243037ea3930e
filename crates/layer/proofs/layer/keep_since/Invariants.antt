use Rattle.std.specs.Prelude.{nat_le}
use Rattle.std.proofs.lemmas.List.Filters.{FiltersInPlace}
use Rattle.layer.proofs.layer.keep_since.Given as goal

abbrev pub invariant-loop-place : goal.invariant-loop-place
invariant-loop-place l =
    FiltersInPlace (λ constraint. nat_le l.cutoff constraint.moment) l.initial.constraints.items l.constraints.items l.kept l.place
