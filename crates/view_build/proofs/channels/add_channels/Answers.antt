use Rattle.std.proofs.Common.{◌≡◌, ◌+◌, ◌∷◌, [], ◌++◌, take, cond, Some, None, sym, ap, ◌∙◌}
use Rattle.std.specs.Prelude.{◌==◌}
use Rattle.std.specs.Option.{option_or}
use Rattle.std.proofs.lemmas.List.{take_more}
use Rattle.std.proofs.lemmas.List.Folds.{find-append}
use Rattle.layer.specs.declared.records.Created.{Created}
use Rattle.view_build.specs.Channels.{channel_at, channel_in}
use Rattle.view_build.proofs.Fields.{or_or}
use Rattle.view_build.proofs.channels.add_channels.Goals as goal

pub loop-channel-preserved : goal.loop-channel-preserved
loop-channel-preserved c =
    let l = c.loop-channel in
    let channels = c.args.channels.now in
    let item = c.channel-item.result in
    let more : take (l.channel-index + 1) channels ≡ take l.channel-index channels ++ item ∷ [] =
    take_more channels l.channel-index item c.loop-channel-test.true ∙ ap (λ y. take l.channel-index channels ++ y ∷ []) (sym c.channel-item.is) in
    record {
      first = λ scid.
          let before = channel_at c.args.map.now scid in
          let so_far = channel_in scid (take l.channel-index channels) in
          c.in_ok-add_channel.ensures.ok scid ∙ ap (λ o. option_or o (cond (item.scid == scid) (Some item) None)) (l.invariant.first scid)
          ∙ or_or before so_far (cond (item.scid == scid) (Some item) None)
          ∙ ap (option_or before) (sym (find-append (λ (x : Created). x.scid == scid) (take l.channel-index channels) (item ∷ [])) ∙ ap (channel_in scid) (sym more));
      good = c.in_ok-add_channel.ensures.good;
    }
