-- The contents of a source in memory, and the settings of its faults.
use Rattle.std.specs.Prelude.{ℕ, List, drop}
use Rattle.port_io.specs.declared.mem_source.MemSource.{MemSource}

-- the bytes that are left to read
abbrev pub source_left : MemSource → List ℕ
source_left s = drop s.at s.bytes.items

-- the most bytes that a call returns
abbrev pub source_piece : MemSource → ℕ
source_piece s = s.piece

-- the numbers of the calls that fail
abbrev pub source_fails : MemSource → List ℕ
source_fails s = s.fails.items

-- the number of the next call
abbrev pub source_calls : MemSource → ℕ
source_calls s = s.calls

-- how many calls have failed
abbrev pub source_faults : MemSource → ℕ
source_faults s = s.faults
