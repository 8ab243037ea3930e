-- Serves private clauses only: what an entry changes, if there is one.
use Rattle.std.specs.Prelude.{Option, Some, None}

abbrev pub applied : {V X : Type 0} → (V → X → V) → V → Option X → V
applied change before None = before
applied change before (Some entry) = change before entry
