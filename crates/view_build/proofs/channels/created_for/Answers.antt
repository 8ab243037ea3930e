use Rattle.std.proofs.Common.{◌<◌, subst, sym, IfSome, Option}
use Rattle.channel_map.specs.Edge.{IsGoodEdge}
use Rattle.layer.specs.Created.{IsGoodCreated}
use Rattle.layer.specs.declared.records.Created.{Created}
use Rattle.view_build.proofs.Created.{good_created}
use Rattle.view_build.proofs.channels.created_for.Goals as goal

pub returns-in-Some-clause-good : goal.returns-in-Some-clause-good
returns-in-Some-clause-good c =
    let good : IsGoodCreated c.in-Some.channel.now = subst (λ (o : Option Created). IfSome o IsGoodCreated) (sym c.in-Some.ensures.value) (c.requires c.dir-2.inside.scid) in
    let few : c.dir-2.inside.side < 2 = c.dir-2.invariant in
    subst IsGoodEdge (sym c.created_edge.ensures) (good_created c.dir-2.inside.side c.in-Some.channel.now few good)
