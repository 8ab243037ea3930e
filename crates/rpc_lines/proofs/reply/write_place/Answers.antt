-- The tokens that were written, one after another.
use Rattle.rpc_lines.proofs.reply.write_place.Goals as goal

pub returns : goal.returns
returns c =
    rw (
      c.into_inner.ensures.items,
      c.in_ok-end_object.ensures.ok,
      c.in_ok-u64.ensures.ok,
      c.in_ok-key.ensures.ok,
      c.in_ok-begin_object.ensures.ok,
      c.new-out.ensures.tokens,
      c.in_ok-end_object.ensures.room.0,
      c.in_ok-u64.ensures.room.0,
      c.in_ok-key.ensures.room.0,
      c.in_ok-begin_object.ensures.room.0,
      c.new-out.ensures.before,
    )
