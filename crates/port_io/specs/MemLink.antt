-- The two ends of a connection in memory.
use Rattle.port_io.specs.declared.mem_link.MemLink.{MemLink}
use Rattle.port_io.specs.declared.mem_source.MemSource.{MemSource}
use Rattle.port_io.specs.declared.mem_sink.MemSink.{MemSink}

-- the end that is read
abbrev pub link_source : MemLink → MemSource
link_source l = l.source

-- the end that is written
abbrev pub link_sink : MemLink → MemSink
link_sink l = l.sink
