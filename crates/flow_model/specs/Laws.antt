-- The laws of flows.
use Rattle.std.specs.Prelude.{ℕ, ℤ, Bool, List, AllPairs}
use Rattle.flow_model.specs.Instance.{Net, IsNet}
use Rattle.flow_model.specs.Flow.{IsFeasible, IsCheapest, IsFilledInOrder, FillsFirst, loads}
use Rattle.flow_model.specs.Potentials.{ShowsCheapest}
use Rattle.flow_model.specs.Side.{Cuts}

-- a flow is cheapest if potentials show it
abbrev pub ShownIsCheapest : Type 0
ShownIsCheapest = (net : Net) (flow : List ℕ) (p : List ℤ) → IsNet net → ShowsCheapest net flow p → IsCheapest net flow

-- if a side cuts the source off, no flow is feasible
abbrev pub CutHasNoFlow : Type 0
CutHasNoFlow = (net : Net) (side : List Bool) (flow : List ℕ) → IsNet net → Cuts net side → IsFeasible net flow → ⊥

-- a flow that is filled in order takes each direction's first arcs first
abbrev pub FirstArcsFirst : Type 0
FirstArcsFirst = (net : Net) (flow : List ℕ) → IsFilledInOrder net flow → AllPairs FillsFirst (loads net flow)
