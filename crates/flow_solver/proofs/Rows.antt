-- Rows of labels and of potentials in 64 bits.
use Rattle.std.proofs.Common.{ℕ, ◌+◌, ◌-◌, ◌<◌, ◌≤◌, ◌≡◌, ◌∙◌, to_z, of_z, rules, Bool, true, false, List, refl, sym, ap, subst, ⊎_elim, arith, length}
use Rattle.std.specs.Prelude.{FitsSigned, cond, map, replicate, set, slice_index, slice_index_or, ℤ, pos, ◌+ℤ◌}
use Rattle.std.proofs.lemmas.Bool.{cases_eq, cases_lt}
use Rattle.std.proofs.lemmas.Int.{ints, to_z-of_z}
use Rattle.std.proofs.lemmas.Bool.{lt-ltb}
use Rattle.std.specs.Int.{w64, w128}
use Rattle.std.proofs.lemmas.List.{get_or_past, get_or-replicate, get_or-set_other, get_or-set_same, length-map, length-set, map-set}
use Rattle.std.proofs.Math.ListN.{get_or-map}
use Rattle.residual_net.proofs.Loads.{get_or-any}
use lib.LanesLaws.{map-replicate}
use Rattle.flow_solver.specs.declared.labels.TheConstants.{UNREACHED}
use Rattle.flow_solver.specs.declared.node_potentials.TheConstants.{REACH_MAX}
use Rattle.flow_solver.specs.Meeting.{IsLifted}
use Rattle.flow_solver.specs.NodeLabels.{widened}
use Rattle.flow_solver.specs.NodePotentials.{IsMoved, IsMovedTwice, IsReaching, IsWithin, move_of}

-- a number that fits in 64 signed bits is read as it was written
pub signed_again : (z : ℤ) → IsWithin z (REACH_MAX + REACH_MAX) → to_z w64 (of_z w64 z) ≡ z
signed_again z within =
    let low = within.0 in
    let high = within.1 in
    let fits : FitsSigned w64 z = search rules in
    to_z-of_z w64 z fits

pub signed_long : (z : ℤ) → IsWithin z (REACH_MAX + REACH_MAX) → to_z w128 (of_z w128 z) ≡ z
signed_long z within =
    let low = within.0 in
    let high = within.1 in
    let fits : FitsSigned w128 z = search rules in
    to_z-of_z w128 z fits

pub move_within : (bound : ℕ) (up : Bool) (label : ℕ) → IsWithin (move_of bound up label) bound
move_within bound true label = (omega (arith, ints), omega (arith, ints))
move_within bound false label = (omega (arith, ints), omega (arith, ints))

pub widened_low : (x : ℕ) → x < 18446744073709551615 → widened x ≡ x
widened_low x l = ap (λ b. cond b x UNREACHED) (lt-ltb x 18446744073709551615 l)

pub short_none : (numbers : List ℕ) (n : ℕ) → numbers ≡ replicate n 18446744073709551615 → map widened numbers ≡ replicate n UNREACHED
short_none numbers n is = ap (map widened) is ∙ map-replicate widened n 18446744073709551615

pub short_set : (numbers : List ℕ) (v x label : ℕ) → widened x ≡ label → map widened (set numbers v x) ≡ set (map widened numbers) v label
short_set numbers v x label is = map-set widened numbers v x ∙ ap (set (map widened numbers) v) is

-- while listed nodes are moved: what a label has left to move and what its number has moved make the whole
pub record IsDraining (old new : List ℤ) (labels now : List ℕ) (bound : ℕ) (up : Bool) : Type 0 where
  pub long : length new ≡ length old
  pub as_long : length now ≡ length labels
  pub whole : (v : ℕ) → v < length old → slice_index_or new v (pos 0) +ℤ move_of bound up (slice_index now v) ≡ slice_index_or old v (pos 0) +ℤ move_of bound up (slice_index labels v)

pub drain_init : (old : List ℤ) (labels : List ℕ) (bound : ℕ) (up : Bool) → IsDraining old old labels labels bound up
drain_init old labels bound up = record { long = refl; as_long = refl; whole = λ v l. refl }

no_move : (bound : ℕ) (up : Bool) → bound ≤ REACH_MAX → move_of bound up UNREACHED ≡ pos 0
no_move bound true le = omega (arith, ints, le)
no_move bound false le = omega (arith, ints, le)

pub drain_turn : (old now next : List ℤ) (labels rest less : List ℕ) (bound : ℕ) (up : Bool) (n : ℕ) (x : ℤ) → bound ≤ REACH_MAX → n < length old → n < length labels → x ≡ slice_index_or now n (pos 0) +ℤ move_of bound up (slice_index rest n) → next ≡ set now n x → less ≡ set rest n UNREACHED → IsDraining old now labels rest bound up → IsDraining old next labels less bound up
drain_turn old now next labels rest less bound up n x le l k is next_is less_is so = subst (λ p. IsDraining old p labels less bound up) (sym next_is) (subst (λ r. IsDraining old (set now n x) labels r bound up) (sym less_is) record {
  long = length-set now n x ∙ so.long;
  as_long = length-set rest n UNREACHED ∙ so.as_long;
  whole = λ v in'. ⊎_elim
      (λ (at : n ≡ v). subst (λ w. slice_index_or (set now n x) w (pos 0) +ℤ move_of bound up (slice_index (set rest n UNREACHED) w) ≡ slice_index_or old w (pos 0) +ℤ move_of bound up (slice_index labels w)) at (
      let a = get_or-set_same now n x (pos 0) (let long = so.long in omega (arith, l, long)) in
      let b = ap (move_of bound up) (get_or-set_same rest n UNREACHED 0 (let long = so.as_long in omega (arith, k, long))) ∙ no_move bound up le in
      let h = so.whole n l in
      omega (arith, ints, a, b, h, is)))
      (λ (ne : n ≡ v → ⊥).
      let a = get_or-set_other now n v x (pos 0) (λ f. ne (sym f)) in
      let b = ap (move_of bound up) (get_or-set_other rest n v UNREACHED 0 (λ f. ne (sym f))) in
      let h = so.whole v in' in
      omega (arith, ints, a, b, h))
      (cases_eq n v);
})

pub drain_end : (old new : List ℤ) (labels rest : List ℕ) (bound : ℕ) (up : Bool) → bound ≤ REACH_MAX → length old ≡ length labels → rest ≡ replicate (length rest) UNREACHED → IsDraining old new labels rest bound up → IsMoved old new labels bound up
drain_end old new labels rest bound up le long none so = record {
  long = so.long;
  each = λ v l.
      let as_long = so.as_long in
      let b = ap (move_of bound up) (ap (λ ls. slice_index ls v) none ∙ get_or-replicate (length rest) v UNREACHED 0 (omega (arith, l, long, as_long))) ∙ no_move bound up le in
      let h = so.whole v l in
      omega (arith, ints, b, h);
}

-- a number that is still to move is within the bounds
pub drain_within : (old new : List ℤ) (labels rest : List ℕ) (bound : ℕ) (up : Bool) (n : ℕ) → bound ≤ REACH_MAX → n < length old → ((v : ℕ) → IsWithin (slice_index_or old v (pos 0)) (REACH_MAX - bound)) → IsDraining old new labels rest bound up → IsWithin (slice_index_or new n (pos 0)) REACH_MAX
drain_within old new labels rest bound up n le l within so = by up (so.whole n l)
  where
    by : (u : Bool) → slice_index_or new n (pos 0) +ℤ move_of bound u (slice_index rest n) ≡ slice_index_or old n (pos 0) +ℤ move_of bound u (slice_index labels n) → IsWithin (slice_index_or new n (pos 0)) REACH_MAX
    by true h = let w = within n in let a = w.0 in let b = w.1 in (omega (arith, ints, h, a, b, le), omega (arith, ints, h, a, b, le))
    by false h = let w = within n in let a = w.0 in let b = w.1 in (omega (arith, ints, h, a, b, le), omega (arith, ints, h, a, b, le))

-- moved numbers are within bounds that are so much wider
pub moved_within : (old new : List ℤ) (labels : List ℕ) (bound reach : ℕ) (up : Bool) → ((v : ℕ) → IsWithin (slice_index_or old v (pos 0)) reach) → IsMoved old new labels bound up → (v : ℕ) → IsWithin (slice_index_or new v (pos 0)) (reach + bound)
moved_within old new labels bound reach up within so v = ⊎_elim
    (λ (l : v < length old). by up (so.each v l))
    (λ (l : length old ≤ v). let h = get_or_past new v (pos 0) (let long = so.long in omega (arith, l, long)) in (omega (arith, ints, h), omega (arith, ints, h)))
    (cases_lt v (length old))
  where
    by : (u : Bool) → slice_index_or new v (pos 0) ≡ slice_index_or old v (pos 0) +ℤ move_of bound u (slice_index labels v) → IsWithin (slice_index_or new v (pos 0)) (reach + bound)
    by true h = let w = within v in let a = w.0 in let b = w.1 in (omega (arith, ints, h, a, b), omega (arith, ints, h, a, b))
    by false h = let w = within v in let a = w.0 in let b = w.1 in (omega (arith, ints, h, a, b), omega (arith, ints, h, a, b))

pub moved_twice : (old now new : List ℤ) (d e : List ℕ) (a b : ℕ) → IsMoved old now d a false → IsMoved now new e b true → IsMovedTwice old new d e a b
moved_twice old now new d e a b first second = record {
  long = second.long ∙ first.long;
  each = λ v l. let h = first.each v l in let k = second.each v (let long = first.long in omega (arith, l, long)) in k ∙ ap (λ z. z +ℤ move_of b true (slice_index e v)) h;
}

-- numbers above an offset
pub above_at : (numbers : List ℤ) (offset v : ℕ) → v < length numbers → slice_index_or (map (λ z. z +ℤ pos offset) numbers) v (pos 0) ≡ slice_index_or numbers v (pos 0) +ℤ pos offset
above_at numbers offset v l = get_or-any (map (λ z. z +ℤ pos offset) numbers) v (pos 0) (pos 0 +ℤ pos offset) (let n = length-map numbers (λ z. z +ℤ pos offset) in omega (arith, l, n)) ∙ get_or-map (λ z. z +ℤ pos offset) numbers v (pos 0)

pub lifted_short : (old new : List ℤ) (d e : List ℕ) (offset a b : ℕ) → a ≤ UNREACHED → b ≤ UNREACHED → IsMovedTwice old new d e a b → IsLifted (map (λ z. z +ℤ pos offset) old) (map (λ z. z +ℤ pos (offset + a)) new) d e a b
lifted_short old new d e offset a b la lb so = record {
  long = length-map new (λ z. z +ℤ pos (offset + a)) ∙ so.long ∙ sym (length-map old (λ z. z +ℤ pos offset));
  each = λ v l.
      let k : v < length old = (let n = length-map old (λ z. z +ℤ pos offset) in omega (arith, l, n)) in
      let h = so.each v k in
      let long = so.long in
      let x = above_at old offset v k in
      let y = above_at new (offset + a) v (omega (arith, k, long)) in
      omega (arith, ints, h, x, y);
}

pub reached_short : (old new : List ℤ) (d e : List ℕ) (offset reach a b : ℕ) → IsReaching old offset reach (a + b) → IsMovedTwice old new d e a b → IsReaching new (offset + a) (reach + (a + b)) 0
reached_short old new d e offset reach a b so twice = record {
  within = λ v. ⊎_elim
      (λ (l : v < length old). let h = twice.each v l in let w = so.within v in let x = w.0 in let y = w.1 in (omega (arith, ints, h, x, y), omega (arith, ints, h, x, y)))
      (λ (l : length old ≤ v). let h = get_or_past new v (pos 0) (let long = twice.long in omega (arith, l, long)) in (omega (arith, ints, h), omega (arith, ints, h)))
      (cases_lt v (length old));
  offset_low = let o = so.offset_low in omega (arith, o);
  room = let r = so.room in omega (arith, r);
}
