use Rattle.rpc_lines.proofs.Lines.{key_text}
use Rattle.rpc_lines.proofs.reply.write_key.Goals as goal

pub returns : goal.returns
returns c =
    rw (
      c.into_inner.ensures.items,
      c.in_ok-key.ensures.ok,
      c.new-out.ensures.tokens,
      c.in_ok-key.ensures.room.0,
      c.new-out.ensures.before,
      key_text,
    )
