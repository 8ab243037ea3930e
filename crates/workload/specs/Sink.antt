-- The contents of a sink that grows.
use Rattle.std.specs.Prelude.{ℕ, List}
use Rattle.workload.specs.declared.sink.GrowingSink.{GrowingSink}

-- the bytes that were taken
abbrev pub kept_bytes : GrowingSink → List ℕ
kept_bytes sink = sink.bytes.items

-- how often a growth was refused
abbrev pub refused_growths : GrowingSink → ℕ
refused_growths sink = sink.faults
