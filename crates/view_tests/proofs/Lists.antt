-- Lists of asked layers.
use Rattle.std.proofs.Common.{◌≡◌, ℕ, List, [], ◌∷◌, true, false, refl, arith}
use Rattle.std.specs.List.{IsDistinct}
use Rattle.std.proofs.lemmas.List.Elements.{All-from_recursion}
use Rattle.layer.specs.Name.{is_good_name}
use Rattle.layer.specs.Ask.{IsGoodAsked, same_asked}
use Rattle.layer.specs.declared.ask.Asked.{Asked}
use Rattle.layer.specs.declared.ask.Auto.TheVariants.{LocalChans}
use Rattle.layer.specs.declared.ask.Asked.TheVariants.{Auto, Named}
use Rattle.view_tests.specs.Asks.{AreGoodLayers}

distinct_none : IsDistinct same_asked []
unfolding IsDistinct
distinct_none = tt

distinct_one : (a : Asked) → IsDistinct same_asked (a ∷ [])
unfolding IsDistinct
distinct_one a = (tt, tt)

distinct_two : (a b : Asked) → same_asked a b ≡ false → IsDistinct same_asked (a ∷ b ∷ [])
unfolding IsDistinct
distinct_two a b apart = ((apart, tt), (tt, tt))

pub good_none : AreGoodLayers 0 []
good_none = record { few = omega arith; names = All-from_recursion IsGoodAsked [] tt; distinct = distinct_none; named = refl }

pub good_local : AreGoodLayers 0 (Auto LocalChans ∷ [])
good_local = record { few = omega arith; names = All-from_recursion IsGoodAsked (Auto LocalChans ∷ []) (tt, tt); distinct = distinct_one (Auto LocalChans); named = refl }

pub good_one : (x : List ℕ) → is_good_name x ≡ true → AreGoodLayers 1 (Named x ∷ [])
good_one x good = record { few = omega arith; names = All-from_recursion IsGoodAsked (Named x ∷ []) (good, tt); distinct = distinct_one (Named x); named = refl }

pub good_two : (x y : List ℕ) → is_good_name x ≡ true → is_good_name y ≡ true → same_asked (Named x) (Named y) ≡ false → AreGoodLayers 2 (Named x ∷ Named y ∷ [])
good_two x y good_x good_y apart = record {
  few = omega arith;
  names = All-from_recursion IsGoodAsked (Named x ∷ Named y ∷ []) (good_x, (good_y, tt));
  distinct = distinct_two (Named x) (Named y) apart;
  named = refl;
}
