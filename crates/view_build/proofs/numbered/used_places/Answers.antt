use Rattle.std.proofs.Common.{◌≡◌, ◌+◌, ◌<◌, ◌∷◌, [], ◌++◌, length, set, take, true, sym, ap, subst, ◌∙◌, arith}
use Rattle.std.proofs.lemmas.List.{length-set, take_more}
use Rattle.view_build.specs.View.{IsGoodViewDir}
use Rattle.view_build.proofs.Marks.{used_more, count_more}
use Rattle.view_build.proofs.numbered.used_places.Goals as goal

pub loop-d-preserved : goal.loop-d-preserved
loop-d-preserved c =
    let l = c.loop-d in
    let dirs = c.args.dirs.now in
    let d = c.d-item.result in
    let used = l.used.items in
    let good = subst (IsGoodViewDir c.args.places) (sym c.d-item.is) (c.requires l.d-index d c.loop-d-test.true) in
    let from : d.from < length used = omega (arith, good.from_in, l.invariant.places) in
    let to : d.to < length used = omega (arith, good.to_in, l.invariant.places) in
    let more : take (l.d-index + 1) dirs ≡ take l.d-index dirs ++ d ∷ [] = take_more dirs l.d-index d c.loop-d-test.true ∙ ap (λ y. take l.d-index dirs ++ y ∷ []) (sym c.d-item.is) in
    record {
      places = length-set (set used d.from true) d.to true ∙ length-set used d.from true ∙ l.invariant.places;
      used = rw more (used_more (take l.d-index dirs) used d from to l.invariant.used);
      few = omega (arith, count_more used d from to, l.invariant.few);
    }
