-- What a transfer of bytes did to a source or a sink, if its bytes are known.
use Rattle.std.specs.Prelude.{◌<◌, ℕ, List, length, take}
use Rattle.std.specs.declared.option.Option.{Option}
use Rattle.std.specs.Io.KnownBytes.{Appends}
pub use Rattle.port_io.specs.Taken.{TakesMore, TakesAtMost}

-- some first bytes were written, and not all
pub record AppendsPart (before after : Option (List ℕ)) (bytes : List ℕ) : Type 0 where
  pub count : ℕ
  pub proper : count < length bytes
  pub written : Appends before after (take count bytes)
