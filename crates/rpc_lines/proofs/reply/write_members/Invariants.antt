use Rattle.std.proofs.Common.{◌++◌, false}
use Rattle.serde_json.specs.View.{members_view}
use Rattle.serde_json.specs.Written.{members_text}
use Rattle.rpc_lines.proofs.Lines.{IsLeft}
use Rattle.rpc_lines.proofs.reply.write_members.Given as goal

abbrev pub invariant-loop-key : goal.invariant-loop-key
invariant-loop-key l = IsLeft l.line.items l.later l.key-iterator (l.initial.line.items ++ members_text false (members_view l.members.entries))
