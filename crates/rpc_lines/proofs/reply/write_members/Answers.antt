use Rattle.rpc_lines.proofs.Lines.{object_end}
use Rattle.rpc_lines.proofs.reply.write_members.Goals as goal

pub returns : goal.returns
returns c = object_end _ _ _ _ _ _ _ c.in_ok-push.ensures.items c.loop-key.invariant c.in-None.ensures.steps.0 c.in_ok-push-2.ensures.items
