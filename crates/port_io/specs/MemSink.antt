-- The contents of a sink in memory, and the settings of its faults.
use Rattle.std.specs.Prelude.{ℕ, ◌-◌, List, vec_len, vec_capacity}
use Rattle.port_io.specs.declared.mem_sink.MemSink.{MemSink}

-- the bytes that were taken
abbrev pub sink_bytes : MemSink → List ℕ
sink_bytes s = s.bytes.items

-- how many more bytes there is room for
abbrev pub sink_room : MemSink → ℕ
sink_room s = vec_capacity s.bytes - vec_len s.bytes

-- the most bytes that a call takes
abbrev pub sink_piece : MemSink → ℕ
sink_piece s = s.piece

-- the numbers of the calls that fail
abbrev pub sink_fails : MemSink → List ℕ
sink_fails s = s.fails.items

-- the number of the next call
abbrev pub sink_calls : MemSink → ℕ
sink_calls s = s.calls

-- how many calls have failed
abbrev pub sink_faults : MemSink → ℕ
sink_faults s = s.faults
