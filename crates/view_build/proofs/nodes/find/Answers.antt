use Rattle.std.proofs.Common.{[]}
use Rattle.view_build.proofs.Ids.{same_ids, searchable_ids, not_among}
use Rattle.view_build.proofs.nodes.find.Goals as goal

pub returns-in-Ok : goal.returns-in-Ok
returns-in-Ok c = record { within = c.in-Ok.ensures.bound; is = same_ids _ _ (c.in-Ok.ensures.position []) }

pub returns-in-Err : goal.returns-in-Err
returns-in-Err c = not_among c.args.nodes.now c.in-Err.field-0 c.args.node.now (c.in-Err.ensures.position (searchable_ids c.args.nodes.now c.args.node.now c.requires.ascend))
