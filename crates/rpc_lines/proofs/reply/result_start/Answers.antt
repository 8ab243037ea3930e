-- The tokens that were written, one after another.
use Rattle.rpc_lines.proofs.reply.result_start.Goals as goal

pub returns : goal.returns
returns c =
    rw (
      c.into_inner.ensures.items,
      c.in_ok-key-3.ensures.ok,
      c.in_ok-string.ensures.ok,
      c.in_ok-key-2.ensures.ok,
      c.in_ok-write_id.ensures.ok,
      c.in_ok-key.ensures.ok,
      c.in_ok-begin_object.ensures.ok,
      c.new-out.ensures.tokens,
      c.in_ok-key-3.ensures.room.0,
      c.in_ok-string.ensures.room.0,
      c.in_ok-key-2.ensures.room.0,
      c.in_ok-write_id.ensures.room.0,
      c.in_ok-key.ensures.room.0,
      c.in_ok-begin_object.ensures.room.0,
      c.new-out.ensures.before,
      c.in_ok-with_capacity.ensures.items,
    )
