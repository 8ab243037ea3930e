-- The contents of a clock in memory.
use Rattle.std.specs.Prelude.{ℕ, List, drop}
use Rattle.port_io.specs.declared.mem_clock.MemClock.{MemClock}

-- the moments that are left
abbrev pub clock_left : MemClock → List ℕ
clock_left c = drop c.at c.moments.items
