-- The workers of a binder in memory, and the settings of its faults.
use Rattle.std.specs.Prelude.{ℕ, List}
use Rattle.port_io.specs.declared.mem_acceptor.MemAcceptor.{MemAcceptor}
use Rattle.port_io.specs.declared.mem_clock.MemClock.{MemClock}
use Rattle.server.specs.declared.worker.Worker.{Worker}
use Rattle.server.specs.declared.mem_bind.MemBind.{MemBind}

-- the workers that are left
abbrev pub binder_workers : MemBind → List (Worker MemAcceptor MemClock)
binder_workers b = b.workers.items

-- the numbers of the calls that fail
abbrev pub binder_fails : MemBind → List ℕ
binder_fails b = b.fails.items

-- the number of the next call
abbrev pub binder_calls : MemBind → ℕ
binder_calls b = b.calls

-- how many calls have failed
abbrev pub binder_faults : MemBind → ℕ
binder_faults b = b.faults
