-- The tokens that were written, one after another.
use Rattle.workload.proofs.ask.write_start.Goals as goal

pub returns : goal.returns
returns c =
    rw (
      c.into_inner.ensures.items,
      c.in_ok-key.ensures.ok,
      c.in_ok-write_string.ensures.tokens,
      c.in_ok-write_number.ensures.tokens,
      c.in_ok-begin_object.ensures.ok,
      c.new-out.ensures.tokens,
      c.in_ok-key.ensures.room.0,
      c.in_ok-write_string.ensures.before,
      c.in_ok-write_number.ensures.before,
      c.in_ok-begin_object.ensures.room.0,
      c.new-out.ensures.before,
    )
