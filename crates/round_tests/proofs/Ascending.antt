-- The directions of a test's channels ascend.
use Rattle.std.proofs.Common.{ℕ, suc, ◌+◌, ◌-◌, ◌*◌, ◌<◌, ◌≤◌, ◌≡◌, List, [], ◌∷◌, ◌++◌, sym, refl, ap, ◌∙◌, subst, arith, length, map}
use Rattle.std.specs.Prelude.{All}
use Rattle.std.specs.List.{AllByRecursion}
use Rattle.std.specs.List.Sorted.{IsStrictlySortedBy}
use Rattle.std.specs.declared.cmp.Ordering.TheVariants.{Less}
use Rattle.std.specs.Ordering.{nat_cmp, ordering_then}
use Rattle.std.specs.Cmp.{nat_cmp_is}
use Rattle.std.proofs.lemmas.List.Elements.{All-cons, All-nil}
use Rattle.plan_base.specs.Dir.{dir_order}
use Rattle.view_build.specs.declared.view.ViewDir.{ViewDir}
use Rattle.view_build.specs.View.{IsGoodView, IsGoodViewDir}
use Rattle.std.specs.List.{IsDistinct}
use Rattle.layer.specs.Ask.{same_asked}
use Rattle.round_tests.specs.Channels.{AreGoodDirs, scid_at}

pub all_good : (nodes index : ℕ) (dirs : List ViewDir) → AreGoodDirs nodes index dirs → All (IsGoodViewDir nodes) dirs
all_good nodes index [] good = All-nil (IsGoodViewDir nodes)
all_good nodes index (d ∷ dirs) good = All-cons (IsGoodViewDir nodes) d dirs good.1 (all_good nodes (index + 1) dirs good.2)

below : (i j : ℕ) → i < j → dir_order (record { scid = scid_at i; side = 0 }) (record { scid = scid_at j; side = 0 }) ≡ Less
below i j l = ap (λ o. ordering_then o (nat_cmp 0 0)) (sym (nat_cmp_is (scid_at i) (scid_at j) Less (omega (arith, l))))

above : (i j nodes : ℕ) (dirs : List ViewDir) → i < j → AreGoodDirs nodes j dirs → AllByRecursion (λ y. dir_order (record { scid = scid_at i; side = 0 }) y ≡ Less) (map (λ (d : ViewDir). d.dir) dirs)
above i j nodes [] l good = tt
above i j nodes (d ∷ dirs) l good = (subst (λ y. dir_order (record { scid = scid_at i; side = 0 }) y ≡ Less) (sym good.0) (below i j l), above i (j + 1) nodes dirs (omega (arith, l)) good.2)

pub ascends : (nodes index : ℕ) (dirs : List ViewDir) → AreGoodDirs nodes index dirs → IsStrictlySortedBy dir_order (map (λ (d : ViewDir). d.dir) dirs)
unfolding IsStrictlySortedBy
ascends nodes index [] good = tt
ascends nodes index (d ∷ dirs) good = (subst (λ x. AllByRecursion (λ y. dir_order x y ≡ Less) (map (λ (e : ViewDir). e.dir) dirs)) (sym good.0) (above index (index + 1) nodes dirs (omega arith) good.2), ascends nodes (index + 1) dirs good.2)

pub good_push : (nodes index : ℕ) (dirs : List ViewDir) (d : ViewDir) → AreGoodDirs nodes index dirs → d.dir ≡ record { scid = scid_at (index + length dirs); side = 0 } → IsGoodViewDir nodes d → AreGoodDirs nodes index (dirs ++ d ∷ [])
good_push nodes index [] d good is new = let e : index + 0 ≡ index = omega arith in (is ∙ ap (λ n. record { scid = scid_at n; side = 0 }) e, new, tt)
good_push nodes index (x ∷ dirs) d good is new = let e : index + suc (length dirs) ≡ index + 1 + length dirs = omega arith in (good.0, good.1, good_push nodes (index + 1) dirs d good.2 (is ∙ ap (λ n. record { scid = scid_at n; side = 0 }) e) new)

pub no_layers : IsDistinct same_asked []
unfolding IsDistinct
no_layers = tt

pub good_view : (nodes : List (List ℕ)) (dirs : List ViewDir) (n count maxparts : ℕ) → length nodes ≡ n → length dirs ≡ count → count ≤ 100 → n ≤ 2 * count → 2 ≤ n → 1 ≤ maxparts → maxparts ≤ 100 → AreGoodDirs n 0 dirs → IsGoodView (record { nodes = nodes; dirs = dirs; source = 0; destination = n - 1; maxparts = maxparts })
good_view nodes dirs n count maxparts long_nodes long few few_nodes some some_parts few_parts good = record {
  few_dirs = omega (arith, long, few);
  few_nodes = omega (arith, long, long_nodes, few_nodes);
  ascending = ascends n 0 dirs good;
  good = subst (λ m. All (IsGoodViewDir m) dirs) (sym long_nodes) (all_good n 0 dirs good);
  source_in = omega (arith, long_nodes, some);
  destination_in = omega (arith, long_nodes, some);
  ends_differ = λ e. omega (arith, e, some);
  some_parts = some_parts;
  few_parts = few_parts;
}

pub length_more : (dirs : List ViewDir) (d : ViewDir) → length (dirs ++ d ∷ []) ≡ length dirs + 1
length_more [] d = refl
length_more (x ∷ dirs) d = let h = length_more dirs d in omega (arith, h)
