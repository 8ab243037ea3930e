-- The network of the tests is an instance.
use Rattle.std.proofs.Common.{ℕ, zero, suc, ◌<◌, ◌≤◌, ◌≡◌, [], ◌∷◌, refl, arith}
use Rattle.std.specs.Prelude.{All, slice_index_or}
use Rattle.plan_base.specs.declared.amount.TheConstants.{MAX}
use Rattle.flow_model.specs.declared.instance.Arc.{Arc}
use Rattle.flow_model.specs.Instance.{IsGoodArc, IsInstance}
use Rattle.residual_net.specs.Detour.{detour_arcs, detour_net}

-- a property of five elements
pub all_five : {X : Type 0} (P : X → Type 0) (a b c d e : X) → P a → P b → P c → P d → P e → All P (a ∷ b ∷ c ∷ d ∷ e ∷ [])
all_five P a b c d e pa pb pc pd pe zero x l = pa
all_five P a b c d e pa pb pc pd pe (suc zero) x l = pb
all_five P a b c d e pa pb pc pd pe (suc (suc zero)) x l = pc
all_five P a b c d e pa pb pc pd pe (suc (suc (suc zero))) x l = pd
all_five P a b c d e pa pb pc pd pe (suc (suc (suc (suc zero)))) x l = pe
all_five P a b c d e pa pb pc pd pe (suc (suc (suc (suc (suc k))))) x l = absurd (omega arith)

-- each arc has a direction of its own
own_direction : (k : ℕ) (d : Arc) → k < 5 → (slice_index_or detour_arcs k d).dir ≡ k
own_direction zero d l = refl
own_direction (suc zero) d l = refl
own_direction (suc (suc zero)) d l = refl
own_direction (suc (suc (suc zero))) d l = refl
own_direction (suc (suc (suc (suc zero)))) d l = refl
own_direction (suc (suc (suc (suc (suc k))))) d l = absurd (omega arith)

good : (from to cost dir : ℕ) → (from ≡ to → ⊥) → 1 ≤ cost → cost ≤ 10 → dir ≤ 4 → IsGoodArc (record { from = from; to = to; room = 1; cost = cost; dir = dir })
good from to cost dir apart some most few = record { apart = apart; some_room = omega arith; most_room = omega arith; some_cost = some; most_cost = omega (arith, most); direction = omega (arith, few) }

pub detour_is_instance : (demand : ℕ) → 1 ≤ demand → demand ≤ MAX → IsInstance (detour_net demand)
detour_is_instance demand some most = record {
  ranges = record {
    ends = record {
      source_in = omega arith;
      destination_in = omega arith;
      apart = λ e. omega (arith, e);
      froms = all_five (λ (a : Arc). a.from < 4) _ _ _ _ _ (omega arith) (omega arith) (omega arith) (omega arith) (omega arith);
      tos = all_five (λ (a : Arc). a.to < 4) _ _ _ _ _ (omega arith) (omega arith) (omega arith) (omega arith) (omega arith);
    };
    few_nodes = omega arith;
    few_arcs = omega arith;
    some_demand = some;
    most_demand = most;
    good_arcs = all_five IsGoodArc _ _ _ _ _
        (good 0 1 1 0 (λ e. omega (arith, e)) (omega arith) (omega arith) (omega arith))
        (good 0 2 10 1 (λ e. omega (arith, e)) (omega arith) (omega arith) (omega arith))
        (good 1 2 1 2 (λ e. omega (arith, e)) (omega arith) (omega arith) (omega arith))
        (good 1 3 10 3 (λ e. omega (arith, e)) (omega arith) (omega arith) (omega arith))
        (good 2 3 1 4 (λ e. omega (arith, e)) (omega arith) (omega arith) (omega arith));
  };
  dearer = λ i j d less l e. absurd (let a = own_direction i d (omega (arith, less, l)) in let b = own_direction j d l in omega (arith, a, b, e, less));
  together = λ i j k d ij jk l e. absurd (let a = own_direction i d (omega (arith, ij, jk, l)) in let b = own_direction k d l in omega (arith, a, b, e, ij, jk));
}
