use Rattle.std.proofs.Common.{ap, sym, ◌∙◌}
use Rattle.serde_json.specs.View.{view}
use Rattle.serde_json.specs.Written.{has_float}
use Rattle.rpc_lines.proofs.Lines.{object_floats}
use Rattle.rpc_lines.proofs.reply.write_value.Goals as goal

pub write_members-requires : goal.write_members-requires
write_members-requires c = object_floats c.in-Object.members (sym (ap (λ v. has_float (view v)) c.in-Object.is) ∙ c.requires)
