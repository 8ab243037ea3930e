use Rattle.std.proofs.Common.{Some, IfSome, Option, subst, sym}
use Rattle.layer.specs.Created.{IsGoodCreated}
use Rattle.layer.specs.declared.records.Created.{Created}
use Rattle.view_build.specs.Channels.{channel_at}
use Rattle.view_build.proofs.Maps.{either}
use Rattle.view_build.proofs.channels.add_channel.Goals as goal

pub returns-clause-good : goal.returns-clause-good
returns-clause-good c scid =
    subst (λ (o : Option Created). IfSome o IsGoodCreated) (sym (c.in_ok-insert.ensures.updates.0 scid))
    (either (λ (o : Option Created). IfSome o IsGoodCreated) _ (Some c.args.channel.now) (channel_at c.args.map.now scid) c.requires.good_channel (c.requires.good scid))
