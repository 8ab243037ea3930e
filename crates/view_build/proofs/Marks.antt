-- Marks at the places of ends of directions.
use Rattle.std.proofs.Common.{◌≡◌, ℕ, zero, suc, ◌+◌, ◌<◌, ◌≤◌, ◌⊎◌, inl, inr, List, [], ◌∷◌, ◌++◌, length, get_or, set, Bool, true, false, cond, refl, subst, arith}
use Rattle.std.specs.List.{Contains, count_by}
use Rattle.std.proofs.lemmas.List.{get_or-set_same, length-set}
use Rattle.std.proofs.lemmas.List.Elements.{Contains-append_left, Contains-push, Contains-push_cases}
use Rattle.std.proofs.lemmas.List.Sums.{sum_by-set}
use Rattle.view_build.specs.declared.view.ViewDir.{ViewDir}
use Rattle.view_build.specs.Ends.{AreUsed, IsEndPlace, IsMarked}
use Rattle.view_build.specs.Ranked.{is_set}

still : (used : List Bool) (i k : ℕ) → get_or used k false ≡ true → get_or (set used i true) k false ≡ true
still [] i k h = h
still (b ∷ used) zero zero h = refl
still (b ∷ used) zero (suc k) h = h
still (b ∷ used) (suc i) zero h = h
still (b ∷ used) (suc i) (suc k) h = still used i k h

was : (used : List Bool) (i k : ℕ) → get_or (set used i true) k false ≡ true → (get_or used k false ≡ true) ⊎ (i ≡ k)
was [] i k h = inl h
was (b ∷ used) zero zero h = inr refl
was (b ∷ used) zero (suc k) h = inl h
was (b ∷ used) (suc i) zero h = inl h
was (b ∷ used) (suc i) (suc k) h = by (was used i k h)
  where
    by : (get_or used k false ≡ true) ⊎ (i ≡ k) → (get_or used k false ≡ true) ⊎ (suc i ≡ suc k)
    by (inl before) = inl before
    by (inr is) = inr (omega (arith, is))

count_set : (used : List Bool) (i : ℕ) → i < length used → count_by is_set (set used i true) ≤ count_by is_set used + 1
count_set used i within = omega (arith, sum_by-set (λ b. cond (is_set b) 1 0) used i true false within)

-- the marks with those of one more direction
abbrev pub with_marks : List Bool → ViewDir → List Bool
with_marks used d = set (set used d.from true) d.to true

pub count_more : (used : List Bool) (d : ViewDir) → d.from < length used → d.to < length used → count_by is_set (with_marks used d) ≤ count_by is_set used + 2
count_more used d from to =
    let wide : d.to < length (set used d.from true) = omega (arith, length-set used d.from true) in
    omega (arith, count_set used d.from from, count_set (set used d.from true) d.to wide)

pub used_more : (dirs : List ViewDir) (used : List Bool) (d : ViewDir) → d.from < length used → d.to < length used → AreUsed dirs used → AreUsed (dirs ++ d ∷ []) (with_marks used d)
used_more dirs used d from to are = record {
  all = λ x among. marked x (Contains-push_cases dirs d x among);
  only = λ place mark. to_place place (was (set used d.from true) d.to place mark);
}
  where
    marked : (x : ViewDir) → Contains dirs x ⊎ (d ≡ x) → IsMarked (with_marks used d) x
    marked x (inl before) =
        let marks = are.all x before in
        record { from = still (set used d.from true) d.to x.from (still used d.from x.from marks.from); to = still (set used d.from true) d.to x.to (still used d.from x.to marks.to) }
    marked x (inr is) =
        let wide : d.to < length (set used d.from true) = omega (arith, length-set used d.from true) in
        subst (IsMarked (with_marks used d)) is (record {
          from = still (set used d.from true) d.to d.from (get_or-set_same used d.from true false from);
          to = get_or-set_same (set used d.from true) d.to true false wide;
        })

    from_place : (place : ℕ) → (get_or used place false ≡ true) ⊎ (d.from ≡ place) → IsEndPlace (dirs ++ d ∷ []) place
    from_place place (inl mark) =
        let old = are.only place mark in
        record { direction = old.direction; among = Contains-append_left dirs (d ∷ []) old.direction old.among; is = old.is }
    from_place place (inr is) = record { direction = d; among = Contains-push dirs d; is = inl is }

    to_place : (place : ℕ) → (get_or (set used d.from true) place false ≡ true) ⊎ (d.to ≡ place) → IsEndPlace (dirs ++ d ∷ []) place
    to_place place (inl mark) = from_place place (was used d.from place mark)
    to_place place (inr is) = record { direction = d; among = Contains-push dirs d; is = inr is }
