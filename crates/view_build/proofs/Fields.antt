-- The fields that layers give, one layer after another.
use Rattle.std.proofs.Common.{◌≡◌, ℕ, ◌≤◌, List, [], ◌∷◌, ◌++◌, Option, Some, None, IfSome, refl, sym, ap, ◌∙◌}
use Rattle.std.specs.Option.{option_or, option_and_then}
use Rattle.plan_base.specs.declared.amount.TheConstants.{MAX}
use Rattle.plan_base.specs.Dir.{Direction}
use Rattle.layer.specs.Layer.{LayerLists}
use Rattle.layer.specs.Update.{IsGoodUpdate}
use Rattle.layer.specs.declared.records.Update.{Update}
use Rattle.view_build.specs.First.{applied}
use Rattle.view_build.specs.Given.{fields_of, with_update}
use Rattle.view_build.proofs.Firsts.{or_none}
use Rattle.view_build.specs.Rules.{given, update_in}

pub or_or : {A : Type 0} (a b c : Option A) → option_or (option_or a b) c ≡ option_or a (option_or b c)
or_or None b c = refl
or_or (Some a) b c = refl

given_push : {A : Type 0} (field : Update → Option A) (dir : Direction) (layers : List LayerLists) (lists : LayerLists)
    → given field dir (layers ++ lists ∷ []) ≡ option_or (option_and_then field (update_in dir lists)) (given field dir layers)
given_push field dir [] lists = sym (or_none (option_and_then field (update_in dir lists)))
given_push field dir (first ∷ layers) lists =
    ap (λ o. option_or o (option_and_then field (update_in dir first))) (given_push field dir layers lists)
    ∙ or_or (option_and_then field (update_in dir lists)) (given field dir layers) (option_and_then field (update_in dir first))

abbrev joined : Direction → List LayerLists → Option Update → Update
joined dir layers change = record {
  dir = dir;
  enabled = option_or (option_and_then (λ (u : Update). u.enabled) change) (given (λ change. change.enabled) dir layers);
  htlc_min = option_or (option_and_then (λ (u : Update). u.htlc_min) change) (given (λ change. change.htlc_min) dir layers);
  htlc_max = option_or (option_and_then (λ (u : Update). u.htlc_max) change) (given (λ change. change.htlc_max) dir layers);
  base = option_or (option_and_then (λ (u : Update). u.base) change) (given (λ change. change.base) dir layers);
  ppm = option_or (option_and_then (λ (u : Update). u.ppm) change) (given (λ change. change.ppm) dir layers);
  delay = option_or (option_and_then (λ (u : Update). u.delay) change) (given (λ change. change.delay) dir layers);
}

pub fields_push : (dir : Direction) (layers : List LayerLists) (lists : LayerLists) → fields_of dir (layers ++ lists ∷ []) ≡ applied with_update (fields_of dir layers) (update_in dir lists)
fields_push dir layers lists =
    rw (
      given_push (λ change. change.enabled) dir layers lists,
      given_push (λ change. change.htlc_min) dir layers lists,
      given_push (λ change. change.htlc_max) dir layers lists,
      given_push (λ change. change.base) dir layers lists,
      given_push (λ change. change.ppm) dir layers lists,
      given_push (λ change. change.delay) dir layers lists,
    ) (by (update_in dir lists))
  where
    by : (change : Option Update) → joined dir layers change ≡ applied with_update (fields_of dir layers) change
    by None = refl
    by (Some change) = refl

pub good_or : {A : Type 0} (P : A → Type 0) (a b : Option A) → IfSome a P → IfSome b P → IfSome (option_or a b) P
good_or P None b x y = y
good_or P (Some n) b x y = x

pub good_updated : (before change : Update) → IsGoodUpdate before → IsGoodUpdate change → IsGoodUpdate (with_update before change)
good_updated before change a b = record {
  htlc_min = good_or (λ (n : ℕ). n ≤ MAX) change.htlc_min before.htlc_min b.htlc_min a.htlc_min;
  htlc_max = good_or (λ (n : ℕ). n ≤ MAX) change.htlc_max before.htlc_max b.htlc_max a.htlc_max;
}
