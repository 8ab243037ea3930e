use Rattle.rpc_lines.proofs.Lines.{string_text}
use Rattle.rpc_lines.proofs.reply.write_string.Goals as goal

pub returns : goal.returns
returns c =
    rw (
      c.into_inner.ensures.items,
      c.in_ok-string.ensures.ok,
      c.new-out.ensures.tokens,
      c.in_ok-string.ensures.room.0,
      c.new-out.ensures.before,
      string_text,
    )
