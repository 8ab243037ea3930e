-- Reservations that remain are moved to the front, in place.
use Rattle.std.specs.Prelude.{IfSome, slice_get, slice_set}
use Rattle.std.proofs.lemmas.Option.{slice_get_cases}
use Rattle.std.proofs.Common.{◌≡◌, ◌<◌, ◌≤◌, ◌+◌, ◌⊎◌, inl, inr, Some, None, ℕ, List, [], ◌∷◌, ◌++◌, length, take, drop, Bool, true, false, cond, refl, ap, sym, ◌∙◌, subst, arith}
use lib.ListN.{get_or, set}
use Rattle.std.proofs.lemmas.List.{set-get_or, append-nil, drop_more, take_more_set, take_all, drop-set-lt, length-set}
use Rattle.plan_base.specs.declared.held.Reservation.{Reservation}
use Rattle.reservations.specs.Marks.{unmarked}
use Rattle.reservations.proofs.Unmarked.{unmarked_more}

-- the first `kept` are the unmarked ones of the first i, and from i on nothing has changed
pub record KeepsInPlace (old now : List Reservation) (marks : List Bool) (kept i : ℕ) : Type 0 where
  pub front : take kept now ≡ unmarked (take i old) (take i marks)
  pub rest : drop i now ≡ drop i old
  pub kept_before : kept ≤ i
  pub within : i ≤ length old
  pub long : length now ≡ length old

module _ {old now : List Reservation} {marks : List Bool} {kept i : ℕ} where
  both : {r : Reservation} → KeepsInPlace old now marks kept i → i < length now → r ≡ get_or now i r → r ∷ drop (i + 1) now ≡ get_or old i r ∷ drop (i + 1) old
  both {r} h below reads = ap (λ x. x ∷ drop (i + 1) now) reads ∙ sym (drop_more now i r below) ∙ h.rest ∙ drop_more old i r (omega (arith, h.long))

  more : {r : Reservation} {m : Bool} → KeepsInPlace old now marks kept i → length marks ≡ length old → i < length now → r ≡ get_or now i r → m ≡ get_or marks i false
      → unmarked (take (i + 1) old) (take (i + 1) marks) ≡ take kept now ++ cond m [] (r ∷ [])
  more {r} {m} h same below reads marked =
      let was : r ≡ get_or old i r = ap (λ l. get_or l 0 r) (both h below reads) in
      unmarked_more old marks i r m (omega (arith, h.long)) same was marked ∙ ap (λ l. l ++ cond m [] (r ∷ [])) (sym h.front)

  -- a marked one is skipped
  pub keeps_drop : {r : Reservation} {m : Bool} → KeepsInPlace old now marks kept i → length marks ≡ length old → i < length now → r ≡ get_or now i r → m ≡ get_or marks i false
      → m ≡ true → KeepsInPlace old now marks kept (i + 1)
  keeps_drop {r} {m} h same below reads marked gone = record {
    front = sym (more h same below reads marked ∙ ap (λ b. take kept now ++ cond b [] (r ∷ [])) gone ∙ append-nil (take kept now));
    rest = ap (drop 1) (both h below reads);
    kept_before = omega (arith, h.kept_before);
    within = omega (arith, h.long);
    long = h.long;
  }

  -- an unmarked one is moved to the front
  pub keeps_move : {r : Reservation} {m : Bool} → KeepsInPlace old now marks kept i → length marks ≡ length old → i < length now → r ≡ get_or now i r → m ≡ get_or marks i false
      → m ≡ false → KeepsInPlace old (set now kept r) marks (kept + 1) (i + 1)
  keeps_move {r} {m} h same below reads marked stays = record {
    front = take_more_set now kept r (omega (arith, h.kept_before)) ∙ sym (more h same below reads marked ∙ ap (λ b. take kept now ++ cond b [] (r ∷ [])) stays);
    rest = drop-set-lt (i + 1) now kept r (omega (arith, h.kept_before)) ∙ ap (drop 1) (both h below reads);
    kept_before = omega (arith, h.kept_before);
    within = omega (arith, h.long);
    long = length-set now kept r ∙ h.long;
  }

  -- the same from the clause of a call
  pub keeps_dropped : KeepsInPlace old now marks kept i → length marks ≡ length old → i < length now → get_or marks i false ≡ true → KeepsInPlace old now marks kept (i + 1)
  keeps_dropped h same below gone = at (slice_get_cases now i).1
    where
      at : ((x : Reservation) × (i < length now) × (slice_get now i ≡ Some x) × (get_or now i x ≡ x)) ⊎ ((length now ≤ i) × (slice_get now i ≡ None)) → KeepsInPlace old now marks kept (i + 1)
      at (inl found) = keeps_drop h same below (sym found.3) refl gone
      at (inr past) = absurd (omega (arith, below, past.0))

  pub keeps_moved : {new : List Reservation} → KeepsInPlace old now marks kept i → length marks ≡ length old → i < length now → get_or marks i false ≡ false
      → IfSome (slice_get now i) (λ x. new ≡ slice_set now kept x) → KeepsInPlace old new marks (kept + 1) (i + 1)
  keeps_moved {new} h same below stays moved = at (slice_get_cases now i).1
    where
      at : ((x : Reservation) × (i < length now) × (slice_get now i ≡ Some x) × (get_or now i x ≡ x)) ⊎ ((length now ≤ i) × (slice_get now i ≡ None)) → KeepsInPlace old new marks (kept + 1) (i + 1)
      at (inl found) = let is : new ≡ slice_set now kept found.0 = rw found.2 at moved in subst (λ l. KeepsInPlace old l marks (kept + 1) (i + 1)) (sym is) (keeps_move h same below (sym found.3) refl stays)
      at (inr past) = absurd (omega (arith, below, past.0))

  pub keeps_all : KeepsInPlace old now marks kept i → length marks ≡ length old → length old ≤ i → take kept now ≡ unmarked old marks
  keeps_all h same past = h.front ∙ (λ t. unmarked (take_all i old past t) (take_all i marks (omega (arith, same, past)) t))

-- a reservation that keeps its position
pub stays_put : (list : List Reservation) (from to : ℕ) → to ≡ from → IfSome (slice_get list from) (λ r. list ≡ slice_set list to r)
stays_put list from to same = at (slice_get_cases list from).1
  where
    at : ((x : Reservation) × (from < length list) × (slice_get list from ≡ Some x) × (get_or list from x ≡ x)) ⊎ ((length list ≤ from) × (slice_get list from ≡ None)) → IfSome (slice_get list from) (λ r. list ≡ slice_set list to r)
    at (inl found) = rw (found.2, same) (sym (ap (λ y. set list from y) (sym found.3) ∙ set-get_or list from found.0))
    at (inr past) = rw past.1 tt
