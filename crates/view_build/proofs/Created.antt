-- The channels that layers create, one layer after another, and their directions.
use Rattle.std.proofs.Common.{◌≡◌, ◌≢◌, ℕ, ◌<◌, List, [], ◌∷◌, ◌++◌, Bool, true, false, refl, sym, ap, ◌∙◌, arith}
use Rattle.std.specs.Option.{option_or}
use Rattle.std.specs.Ordering.{nat_cmp}
use Rattle.std.specs.Cmp.Lexicographic.{slice_cmp}
use Rattle.std.specs.declared.cmp.Ordering.{Ordering}
use Rattle.std.specs.declared.cmp.Ordering.TheVariants.{Less, Equal, Greater}
use Rattle.std.proofs.lemmas.Bool.Decides.{nat_tests}
use Rattle.channel_map.specs.Edge.{IsGoodEdge, side_between}
use Rattle.layer.specs.Layer.{LayerLists}
use Rattle.layer.specs.Created.{IsGoodCreated}
use Rattle.layer.specs.declared.records.Created.{Created}
use Rattle.view_build.specs.Channels.{channel_in}
use Rattle.view_build.specs.Rules.{created_edge, first_created, leads_along}
use Rattle.view_build.proofs.Ids.{id_total, same_ids}
use Rattle.view_build.proofs.Fields.{or_or}
use Rattle.view_build.proofs.Firsts.{or_none}

pub created_push : (scid : ℕ) (layers : List LayerLists) (lists : LayerLists) → first_created scid (layers ++ lists ∷ []) ≡ option_or (first_created scid layers) (channel_in scid lists.created)
created_push scid [] lists = or_none (channel_in scid lists.created)
created_push scid (first ∷ layers) lists = ap (option_or (channel_in scid first.created)) (created_push scid layers lists) ∙ sym (or_or (channel_in scid first.created) (first_created scid layers) (channel_in scid lists.created))

-- the side between two nodes, the other way round
other_side : (a b : List ℕ) (side : ℕ) → side < 2 → a ≢ b → side ≢ side_between a b → side ≡ side_between b a
other_side a b side few apart other = by (slice_cmp nat_cmp a b) refl
  where
    by : (r : Ordering) → slice_cmp nat_cmp a b ≡ r → side ≡ side_between b a
    by Less e = rw (id_total.antisymm b a, e) (let ne : side ≢ 0 = rw e at other in omega arith)
    by Equal e = absurd (apart (same_ids a b e))
    by Greater e = rw (id_total.antisymm b a, e) (let ne : side ≢ 1 = rw e at other in omega arith)

pub good_created : (side : ℕ) (channel : Created) → side < 2 → IsGoodCreated channel → IsGoodEdge (created_edge side channel)
good_created side channel few good = by (leads_along channel side) refl
  where
    by : (along : Bool) → leads_along channel side ≡ along → IsGoodEdge (created_edge side channel)
    by true along = record {
      capacity_fits = good.amount;
      minimum_fits = omega arith;
      maximum_fits = good.amount;
      ends_differ = rw along good.apart;
      side_fits = rw along (grind (arith, nat_tests));
    }
    by false along = record {
      capacity_fits = good.amount;
      minimum_fits = omega arith;
      maximum_fits = good.amount;
      ends_differ = rw along (λ e. good.apart (sym e));
      side_fits = rw along (other_side channel.source channel.destination side few good.apart (grind (arith, nat_tests)));
    }
