-- What a solver returns.
use Rattle.std.specs.Prelude.{List, ℕ, ℤ, Bool}
use Rattle.flow_model.specs.declared.solve.Solved.{Solved}
use Rattle.flow_model.specs.declared.solve.Solved.TheVariants.{Flow, Cut}

-- a fact about the flow and its potentials, if the answer has them
abbrev pub IfFlow : Solved → (List ℕ → List ℤ → Type 0) → Type 0
IfFlow (Flow flow potentials) P = P flow potentials
IfFlow (Cut side) P = Unit {0}

-- a fact about the side, if the answer has one
abbrev pub IfCut : Solved → (List Bool → Type 0) → Type 0
IfCut (Flow flow potentials) P = Unit {0}
IfCut (Cut side) P = P side
