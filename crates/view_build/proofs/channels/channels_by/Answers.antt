use Rattle.std.proofs.Common.{◌≡◌, ◌+◌, ◌∷◌, [], ◌++◌, take, sym, ap, ◌∙◌}
use Rattle.std.specs.Option.{option_or}
use Rattle.std.proofs.lemmas.List.{take_more}
use Rattle.view_build.specs.Rules.{first_created}
use Rattle.view_build.specs.Channels.{channel_at, channel_in}
use Rattle.view_build.proofs.Created.{created_push}
use Rattle.view_build.proofs.channels.channels_by.Goals as goal

pub loop-layer-preserved : goal.loop-layer-preserved
loop-layer-preserved c =
    let l = c.loop-layer in
    let layers = c.args.layers.now in
    let lists = c.layer-item.result in
    let more : take (l.layer-index + 1) layers ≡ take l.layer-index layers ++ lists ∷ [] =
    take_more layers l.layer-index lists c.loop-layer-test.true ∙ ap (λ y. take l.layer-index layers ++ y ∷ []) (sym c.layer-item.is) in
    record {
      first = λ scid. c.in_ok-add_channels.ensures.ok scid ∙ ap (λ cs. option_or (channel_at l.map scid) (channel_in scid cs)) c.created.ensures.list
          ∙ ap (λ o. option_or o (channel_in scid lists.created)) (l.invariant.first scid)
          ∙ sym (created_push scid (take l.layer-index layers) lists) ∙ ap (first_created scid) (sym more);
      good = c.in_ok-add_channels.ensures.good;
    }
