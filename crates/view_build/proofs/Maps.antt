-- What a map of directions has after a change.
use Rattle.std.proofs.Common.{◌≡◌, Bool, true, false, cond, Some, refl, ap, ◌∙◌}
use Rattle.std.specs.Prelude.{unwrap_or}
use Rattle.std.specs.BTreeMap.{BTreeMap, get, Updates}
use Rattle.plan_base.specs.Dir.{Direction, same_dir, dir_order}
use Rattle.view_build.proofs.Dirs.{equal_is_same, same_is_equal}

-- a changed direction, where what a direction has, if nothing else, is its default
pub changed : {V : Type 0} (fresh : Direction → V) (old new : BTreeMap Direction V) (key : Direction) (v : V) → Updates dir_order old new key (Some v) → (dir : Direction)
    → unwrap_or (get dir_order new dir) (fresh dir) ≡ cond (same_dir key dir) v (unwrap_or (get dir_order old dir) (fresh dir))
changed fresh old new key v updates dir =
    ap (λ o. unwrap_or o (fresh dir)) (updates.0 dir ∙ ap (λ same. cond same (Some v) (get dir_order old dir)) (equal_is_same key dir)) ∙ by (same_dir key dir)
  where
    by : (same : Bool) → unwrap_or (cond same (Some v) (get dir_order old dir)) (fresh dir) ≡ cond same v (unwrap_or (get dir_order old dir) (fresh dir))
    by true = refl
    by false = refl

-- the same, where the new value is made from the old one
pub changed_by : {V : Type 0} (fresh : Direction → V) (change : V → V) (old new : BTreeMap Direction V) (key : Direction) (v : V) → v ≡ change (unwrap_or (get dir_order old key) (fresh key))
    → Updates dir_order old new key (Some v) → (dir : Direction)
    → unwrap_or (get dir_order new dir) (fresh dir) ≡ cond (same_dir key dir) (change (unwrap_or (get dir_order old dir) (fresh dir))) (unwrap_or (get dir_order old dir) (fresh dir))
changed_by fresh change old new key v is updates dir = changed fresh old new key v updates dir ∙ by (same_dir key dir) refl
  where
    by : (same : Bool) → same_dir key dir ≡ same
        → cond (same_dir key dir) v (unwrap_or (get dir_order old dir) (fresh dir)) ≡ cond (same_dir key dir) (change (unwrap_or (get dir_order old dir) (fresh dir))) (unwrap_or (get dir_order old dir) (fresh dir))
    by true same = rw same (rw (← same_is_equal key dir same) is)
    by false same = rw same refl

pub either : {V : Type 0} (P : V → Type 0) (b : Bool) (x y : V) → P x → P y → P (cond b x y)
either P true x y p q = p
either P false x y p q = q
