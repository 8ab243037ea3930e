-- How the serving of a connection ended, for which caller, and how many entries it has committed.
use Rattle.std.specs.Prelude.{ℕ}
use Rattle.port_io.specs.declared.session_end.SessionEnd.{SessionEnd}

pub record EndedSession : Type 0 where
  pub end : SessionEnd
  pub caller : ℕ
  pub calls : ℕ
