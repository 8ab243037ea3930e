use Rattle.std.proofs.Common.{◌≡◌, ◌+◌, ◌∷◌, [], ◌++◌, take, sym, ap, ◌∙◌, ◌*◌, subst, arith}
use Rattle.std.proofs.lemmas.List.{take_more}
use Rattle.view_build.specs.declared.known.Known.{Known}
use Rattle.view_build.specs.First.{applied}
use Rattle.view_build.specs.Known.{IsWithin, known_at, known_of, first_bias, with_bias, with_constraints, with_layer}
use Rattle.view_build.proofs.Bounds.{known_push}
use Rattle.view_build.proofs.known.known_by.Goals as goal

pub loop-layer-preserved : goal.loop-layer-preserved
loop-layer-preserved c =
    let l = c.loop-layer in
    let layers = c.args.layers.now in
    let lists = c.layer-item.result in
    let more : take (l.layer-index + 1) layers ≡ take l.layer-index layers ++ lists ∷ [] =
    take_more layers l.layer-index lists c.loop-layer-test.true ∙ ap (λ y. take l.layer-index layers ++ y ∷ []) (sym c.layer-item.is) in
    record {
      known = λ dir. c.in_ok-add_biases.ensures.ok dir ∙ ap (λ (k : Known). applied with_bias k (first_bias dir lists)) (c.in_ok-add_constraints.ensures dir)
          ∙ ap (λ cs. applied with_bias (with_constraints dir (known_at l.map dir) cs) (first_bias dir lists)) c.constraints.ensures.list
          ∙ ap (λ (k : Known). with_layer dir k lists) (l.invariant.known dir) ∙ sym (known_push dir (take l.layer-index layers) c.args.held.now lists) ∙ ap (λ ls. known_of dir ls c.args.held.now) (sym more);
      small = λ dir.
          let same = ap (λ (k : Known). k.bias) (c.in_ok-add_constraints.ensures dir) in
          let within = subst (IsWithin (l.layer-index * 6553600)) (sym same) (l.invariant.small dir) in
          subst (λ n. IsWithin n (known_at c.add_biases.new.map dir).bias) (omega arith) (c.in_ok-add_biases.ensures.small dir (l.layer-index * 6553600) within);
    }
