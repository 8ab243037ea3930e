-- A push along steps keeps the residual network within its rooms.
use Rattle.std.proofs.Common.{ℕ, suc, ◌+◌, ◌-◌, ◌<◌, ◌≤◌, ◌≡◌, ◌^◌, Bool, true, false, cond, List, [], ◌∷◌, ◌++◌, sym, refl, ap, ◌∙◌, subst, ⊎_elim, arith, length}
use Rattle.std.specs.Prelude.{All, AllPairs, zip, set, drop, take, slice_index, slice_index_or, ◌≢◌}
use Rattle.std.proofs.Math.Seq.{drop-cons}
use Rattle.std.proofs.lemmas.Bool.{cases_eq, false≢true}
use Rattle.std.proofs.lemmas.List.{get_or-set_other, get_or-set_same, append-nil, take_all}
use Rattle.std.proofs.lemmas.List.Elements.{All-head, All-tail}
use Rattle.std.proofs.Math.ListN.{drop_of_length-le}
use lib.ListN.{length-set}
use Rattle.flow_model.specs.declared.instance.Arc.{Arc}
use Rattle.residual_net.specs.Residual.{ResidualNet, IsResidualNet, room_left, units_after, flow_after, HasRoomFor, HasDistinctArcs}
use Rattle.flow_model.specs.Instance.{arc_at}
use Rattle.residual_net.proofs.Loads.{at_from_zip, zip_from_at}

pub AllPairs-head : {X : Type 0} (R : X → X → Type 0) (x : X) (xs : List X) → AllPairs R (x ∷ xs) → All (R x) xs
AllPairs-head R x xs pairs k d l = pairs 0 (suc k) d (omega arith) (omega arith)

pub AllPairs-tail : {X : Type 0} (R : X → X → Type 0) (x : X) (xs : List X) → AllPairs R (x ∷ xs) → AllPairs R xs
AllPairs-tail R x xs pairs i j d less l = pairs (suc i) (suc j) d (omega arith) (omega arith)

-- a change of one arc keeps the room of steps over others
room_kept : (arcs : List Arc) (flow : List ℕ) (amount i y : ℕ) (s : ℕ × Bool) → i ≢ s.0 → HasRoomFor arcs flow amount s → HasRoomFor arcs (set flow i y) amount s
room_kept arcs flow amount i y s ne h =
    let e = get_or-set_other flow i s.0 y 0 (λ f. ne (sym f)) in
    (h.0, subst (λ x. amount ≤ room_left (arc_at arcs s.0) s.1 x) (sym e) h.1)

-- after the first step, the later steps have their room still
pub rooms_after_first : (arcs : List Arc) (flow : List ℕ) (amount y : ℕ) (s : ℕ × Bool) (path : List (ℕ × Bool)) → All (HasRoomFor arcs flow amount) (s ∷ path) → HasDistinctArcs (s ∷ path) → All (HasRoomFor arcs (set flow s.0 y) amount) path
rooms_after_first arcs flow amount y s path rooms once k d l =
    room_kept arcs flow amount s.0 y (slice_index_or path k d) (AllPairs-head (λ (a b : ℕ × Bool). a.0 ≢ b.0) s path once k d l) (All-tail (HasRoomFor arcs flow amount) s path rooms k d l)

pub distinct_after_first : (s : ℕ × Bool) (path : List (ℕ × Bool)) → HasDistinctArcs (s ∷ path) → HasDistinctArcs path
distinct_after_first s path once = AllPairs-tail (λ (a b : ℕ × Bool). a.0 ≢ b.0) s path once

pub length-flow_after : (flow : List ℕ) (amount : ℕ) (path : List (ℕ × Bool)) → length (flow_after flow amount path) ≡ length flow
length-flow_after flow amount [] = refl
length-flow_after flow amount (s ∷ path) = length-flow_after (set flow s.0 (units_after (slice_index flow s.0) amount s.1)) amount path ∙ length-set flow s.0 (units_after (slice_index flow s.0) amount s.1)

-- a property of each arc and its units is kept by a change of one arc that has it
pub set_at : (P : Arc × ℕ → Type 0) (arcs : List Arc) (flow : List ℕ) (i y : ℕ) → length flow ≡ length arcs → i < length arcs → All P (zip arcs flow) → P (arc_at arcs i, y) → All P (zip arcs (set flow i y))
set_at P arcs flow i y long l all one = zip_from_at P arcs (set flow i y) (length-set flow i y ∙ long) (λ j k. ⊎_elim
    (λ (e : i ≡ j). subst (λ m. P (arc_at arcs m, slice_index (set flow i y) m)) e (subst (λ x. P (arc_at arcs i, x)) (sym (get_or-set_same flow i y 0 (omega (arith, long)))) one))
    (λ (ne : i ≡ j → ⊥). subst (λ x. P (arc_at arcs j, x)) (sym (get_or-set_other flow i j y 0 (λ f. ne (sym f)))) (at_from_zip P arcs flow j long k all))
    (cases_eq i j))

units_after-fits : (r x amount : ℕ) (back : Bool) → x ≤ r → amount ≤ cond back x (r - x) → units_after x amount back ≤ r
units_after-fits r x amount true le room = omega arith
units_after-fits r x amount false le room = omega arith

pub fits-flow_after : (arcs : List Arc) (flow : List ℕ) (amount : ℕ) (path : List (ℕ × Bool)) → length flow ≡ length arcs → All (λ (l : Arc × ℕ). l.1 ≤ l.0.room) (zip arcs flow) → All (HasRoomFor arcs flow amount) path → HasDistinctArcs path → All (λ (l : Arc × ℕ). l.1 ≤ l.0.room) (zip arcs (flow_after flow amount path))
fits-flow_after arcs flow amount [] long fits rooms once = fits
fits-flow_after arcs flow amount (s ∷ path) long fits rooms once =
    let P : Arc × ℕ → Type 0 = λ l. l.1 ≤ l.0.room in
    let x = slice_index flow s.0 in
    let y = units_after x amount s.1 in
    let room = All-head (HasRoomFor arcs flow amount) s path rooms in
    let one = units_after-fits (arc_at arcs s.0).room x amount s.1 (at_from_zip P arcs flow s.0 long room.0 fits) room.1 in
    fits-flow_after arcs (set flow s.0 y) amount path (length-set flow s.0 y ∙ long) (set_at P arcs flow s.0 y long room.0 fits one) (rooms_after_first arcs flow amount y s path rooms once) (distinct_after_first s path once)

-- the invariant of a push: what the later steps make of the flow is what is wanted
pub record IsPushing (arcs : List Arc) (flow : List ℕ) (amount : ℕ) (ahead : List (ℕ × Bool)) (wanted : List ℕ) : Type 0 where
  pub comes : flow_after flow amount ahead ≡ wanted
  pub long : length flow ≡ length arcs
  pub rooms : All (HasRoomFor arcs flow amount) ahead
  pub once : HasDistinctArcs ahead

pub pushing_turn : (arcs : List Arc) (flow more wanted : List ℕ) (amount : ℕ) (path : List (ℕ × Bool)) (j : ℕ) (d : ℕ × Bool) → j < length path → more ≡ set flow (slice_index_or path j d).0 (units_after (slice_index flow (slice_index_or path j d).0) amount (slice_index_or path j d).1) → IsPushing arcs flow amount (drop j path) wanted → IsPushing arcs more amount (drop (j + 1) path) wanted
pushing_turn arcs flow more wanted amount path j d l e old =
    let s = slice_index_or path j d in
    let y = units_after (slice_index flow s.0) amount s.1 in
    let next : suc j ≡ j + 1 = omega arith in
    let split : drop j path ≡ s ∷ drop (j + 1) path = drop-cons path j d l ∙ ap (λ n. s ∷ drop n path) next in
    let here = subst (λ xs. IsPushing arcs flow amount xs wanted) split old in
    subst (λ f. IsPushing arcs f amount (drop (j + 1) path) wanted) (sym e) record {
      comes = here.comes;
      long = length-set flow s.0 y ∙ here.long;
      rooms = rooms_after_first arcs flow amount y s (drop (j + 1) path) here.rooms here.once;
      once = distinct_after_first s (drop (j + 1) path) here.once;
    }

pub pushing_room : (arcs : List Arc) (flow wanted : List ℕ) (amount : ℕ) (path : List (ℕ × Bool)) (j : ℕ) (d : ℕ × Bool) → j < length path → IsPushing arcs flow amount (drop j path) wanted → HasRoomFor arcs flow amount (slice_index_or path j d)
pushing_room arcs flow wanted amount path j d l old =
    let s = slice_index_or path j d in
    let next : suc j ≡ j + 1 = omega arith in
    let split : drop j path ≡ s ∷ drop (j + 1) path = drop-cons path j d l ∙ ap (λ n. s ∷ drop n path) next in
    All-head (HasRoomFor arcs flow amount) s (drop (j + 1) path) (subst (All (HasRoomFor arcs flow amount)) split old.rooms)

pub room_forward : (r x k : ℕ) (back : Bool) → k ≤ cond back x (r - x) → r < 2 ^ 64 → x < 2 ^ 64 → back ≡ false → x + k < 2 ^ 64
room_forward r x k true room rs xs e = absurd (false≢true (sym e))
room_forward r x k false room rs xs e = omega arith

pub room_backward : (r x k : ℕ) (back : Bool) → k ≤ cond back x (r - x) → back ≡ true → k ≤ x
room_backward r x k true room e = room
room_backward r x k false room e = absurd (false≢true e)

-- a list that was written through a slice of its whole length
pub whole_again : {X : Type 0} (new items : List X) (n : ℕ) → length new ≡ n → length items ≡ n → take n (new ++ drop (length new) items) ≡ new
whole_again {X} new items n a b =
    let none : drop (length new) items ≡ [] = drop_of_length-le items (omega arith) in
    ap (λ r. take n (new ++ r)) none ∙ ap (take n) (append-nil new) ∙ take_all n new (omega arith)

pub residual_after_push : (residual : ResidualNet) (flow : List ℕ) (amount : ℕ) (path : List (ℕ × Bool)) → IsResidualNet residual → All (HasRoomFor residual.net.arcs residual.flow amount) path → HasDistinctArcs path → flow ≡ flow_after residual.flow amount path → IsResidualNet (record { net = residual.net; flow = flow })
residual_after_push residual flow amount path ok rooms once e = record {
  good = ok.good;
  long = ap length e ∙ length-flow_after residual.flow amount path ∙ ok.long;
  fits = subst (λ f. All (λ (l : Arc × ℕ). l.1 ≤ l.0.room) (zip residual.net.arcs f)) (sym e) (fits-flow_after residual.net.arcs residual.flow amount path ok.long ok.fits rooms once);
}
