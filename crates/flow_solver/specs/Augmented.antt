-- What one more search of a solver leads to; these words serve private clauses only.
use Rattle.std.specs.Prelude.{ℕ, List, Bool}
use Rattle.flow_solver.specs.declared.successive.Augmented.{Augmented}
use Rattle.flow_solver.specs.declared.successive.Augmented.TheVariants.{Sent, Cut}

-- a fact about the units that are sent, if a path was found
abbrev pub IfSent : Augmented → (ℕ → Type 0) → Type 0
IfSent (Sent units) P = P units
IfSent (Cut side) P = Unit {0}

-- a fact about the side, if no path was found
abbrev pub IfCutOff : Augmented → (List Bool → Type 0) → Type 0
IfCutOff (Sent units) P = Unit {0}
IfCutOff (Cut side) P = P side.items
