-- The first two searches, and those that have met or have found no path.
use Rattle.std.proofs.Common.{ℕ, ◌<◌, ◌≤◌, ◌≡◌, Bool, List, subst, ⊎_elim, arith}
use Rattle.std.specs.Prelude.{replicate, set, slice_index, ℤ}
use Rattle.std.proofs.lemmas.Bool.{cases_lt}
use Rattle.std.proofs.lemmas.Int.{ints}
use Rattle.residual_net.specs.Residual.{ResidualNet, IsResidualNet}
use Rattle.flow_solver.specs.declared.labels.TheConstants.{UNREACHED}
use Rattle.flow_solver.specs.Search.{IsSearchTree, IsSearchResult}
use Rattle.flow_solver.specs.Meeting.{IsMeeting, IsMet}
use Rattle.flow_solver.proofs.Tries.{first_near}

pub first_meeting : (nodes s t : ℕ) (d e : List ℕ) → s < nodes → t < nodes → (s ≡ t → ⊥) → d ≡ set (replicate nodes UNREACHED) s 0 → e ≡ set (replicate nodes UNREACHED) t 0 → IsMeeting nodes d e UNREACHED 0
first_meeting nodes s t d e ls lt apart d_is e_is = record {
  below = λ x l. ⊎_elim
      (λ (near : slice_index d x < UNREACHED).
      let at : x ≡ s = first_near nodes s ls x l (subst (λ ls. slice_index ls x < UNREACHED) d_is near) in
      ⊎_elim
      (λ (far : slice_index e x < UNREACHED). absurd (let at' : x ≡ t = first_near nodes t lt x l (subst (λ ls. slice_index ls x < UNREACHED) e_is far) in apart (omega (arith, at, at'))))
      (λ (k : UNREACHED ≤ slice_index e x). omega (arith, k))
      (cases_lt (slice_index e x) UNREACHED))
      (λ (k : UNREACHED ≤ slice_index d x). omega (arith, k))
      (cases_lt (slice_index d x) UNREACHED);
  most = omega arith;
  met = λ near. absurd (omega (arith, near));
}

-- if both searches never meet, the source's reaches all that it can
pub met_nowhere : (residual : ResidualNet) (p : List ℤ) (d e : List ℕ) (parents : List (ℕ × Bool)) (a b best : ℕ) → IsResidualNet residual → IsSearchTree residual p d parents → IsMet residual p d e a b best → best ≡ UNREACHED → a ≡ UNREACHED → IsSearchResult residual p d parents × (UNREACHED ≤ slice_index d residual.net.destination)
met_nowhere residual p d e parents a b best ok tree met best_is a_is =
    let m = met.meets residual.net.destination ok.good.ranges.ends.destination_in in
    let t = met.at_target in (
      record {
        tree = tree;
        settled = λ s next near.
            let most = tree.most residual.net.destination in
            let h = met.from_source s next (omega (arith, near, most, a_is)) in
            omega (arith, ints, h, best_is, most);
      },
      omega (arith, m, t, best_is),
    )
