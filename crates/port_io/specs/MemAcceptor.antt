-- The connections of an acceptor in memory, and the settings of its faults.
use Rattle.std.specs.Prelude.{ℕ, List}
use Rattle.port_io.specs.declared.mem_link.MemLink.{MemLink}
use Rattle.port_io.specs.declared.mem_acceptor.MemAcceptor.{MemAcceptor}

-- the connections that are left
abbrev pub acceptor_links : MemAcceptor → List MemLink
acceptor_links a = a.links.items

-- the numbers of the calls that fail
abbrev pub acceptor_fails : MemAcceptor → List ℕ
acceptor_fails a = a.fails.items

-- the number of the next call
abbrev pub acceptor_calls : MemAcceptor → ℕ
acceptor_calls a = a.calls

-- how many connections it has given
abbrev pub acceptor_accepted : MemAcceptor → ℕ
acceptor_accepted a = a.accepted

-- how many calls have failed
abbrev pub acceptor_faults : MemAcceptor → ℕ
acceptor_faults a = a.faults
