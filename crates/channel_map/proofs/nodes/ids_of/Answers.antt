use Rattle.std.proofs.Common.{◌++◌, ap, ◌∙◌}
use Rattle.channel_map.proofs.nodes.ids_of.Goals as goal

pub returns : goal.returns
returns c = c.in_ok-extend_from_slice.ensures.items ∙ ap (λ ids. ids ++ c.as_slice.result.now) c.in_ok-ids.ensures.items ∙ c.as_slice.ensures.keys
