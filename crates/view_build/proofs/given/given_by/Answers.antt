use Rattle.std.proofs.Common.{◌≡◌, ◌+◌, ◌∷◌, [], ◌++◌, take, sym, ap, ◌∙◌, arith}
use Rattle.std.proofs.lemmas.List.{take_more}
use Rattle.view_build.specs.First.{applied}
use Rattle.view_build.specs.Given.{fields_of, with_update}
use Rattle.view_build.specs.Rules.{update_in}
use Rattle.view_build.proofs.Fields.{fields_push}
use Rattle.view_build.proofs.given.given_by.Goals as goal

pub loop-layer-preserved : goal.loop-layer-preserved
loop-layer-preserved c =
    let l = c.loop-layer in
    let layers = c.args.layers.now in
    let lists = c.layer-item.result in
    let more : take (l.layer-index + 1) layers ≡ take l.layer-index layers ++ lists ∷ [] =
    take_more layers l.layer-index lists c.loop-layer-test.true ∙ ap (λ y. take l.layer-index layers ++ y ∷ []) (sym c.layer-item.is) in
    record {
      fields = λ dir. c.in_ok-add_updates.ensures.ok dir ∙ ap (λ before. applied with_update before (update_in dir lists)) (l.invariant.fields dir)
          ∙ sym (fields_push dir (take l.layer-index layers) lists) ∙ ap (fields_of dir) (sym more);
      good = c.in_ok-add_updates.ensures.good;
      few = omega (arith, c.in_ok-add_updates.ensures.few);
    }
