-- Serves private clauses only. The parts of a window's buffer.
use Rattle.std.specs.Prelude.{ℕ, ◌-◌, List, slice_range}
use Rattle.line_cut.specs.declared.limits.TheConstants.{SIZE}
use Rattle.line_cut.specs.declared.window.Window.{Window}

-- the last line that was cut
abbrev pub line_in : Window → List ℕ
line_in w = slice_range w.bytes.items w.line w.line_end

-- the bytes that are not yet cut
abbrev pub rest_in : Window → List ℕ
rest_in w = slice_range w.bytes.items w.start w.end

-- how many more bytes there is room for
abbrev pub room_in : Window → ℕ
room_in w = SIZE - w.end
