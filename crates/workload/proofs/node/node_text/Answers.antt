use Rattle.std.proofs.Common.{refl}
use Rattle.workload.specs.Node.{node_bytes}
use Rattle.workload.proofs.node.node_text.Goals as goal

pub returns : goal.returns
unfolding node_bytes
returns c =
    rw (
      c.in_ok-encode.ensures,
      c.as_slice.ensures.value,
      c.in_ok-extend_from_slice-2.ensures.items,
      c.to_be_bytes.ensures,
      c.from.ensures,
      c.in_ok-extend_from_slice.ensures.items,
      c.in_ok-push.ensures.items,
      c.in_ok-id.ensures.items,
    ) refl
