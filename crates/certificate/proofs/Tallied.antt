-- The balances of nodes, kept while the arcs are gone through.
use Rattle.std.proofs.Common.{ℕ, ◌+◌, ◌*◌, ◌<◌, ◌≤◌, ◌≡◌, ◌^◌, Bool, true, false, cond, List, sym, ap, ◌∙◌, subst, ⊎_elim, arith, length}
use Rattle.std.specs.Prelude.{All, take, set, nat_eq, slice_index_or, pos, ℤ, ◌+ℤ◌, ◌-ℤ◌, ◌≤ℤ◌}
use Rattle.std.proofs.lemmas.Bool.{cases_eq}
use Rattle.std.proofs.lemmas.List.{get_or-set_same, get_or-set_other, take_all}
use Rattle.std.proofs.lemmas.List.Sums.{sum_by_more}
use Rattle.std.proofs.lemmas.Int.{ints}
use lib.ListN.{length-set}
use Rattle.flow_model.proofs.Balance.{at_node, at_node-same, at_node-other}
use Rattle.flow_model.specs.declared.instance.Arc.{Arc}
use Rattle.certificate.specs.Cert.{Tallies}

-- each balance is within n times 2^64
abbrev pub Near : ℕ → List ℤ → Type 0
Near n sums = (v : ℕ) → (slice_index_or sums v (pos 0) ≤ℤ pos (n * 2 ^ 64)) × (pos 0 ≤ℤ (slice_index_or sums v (pos 0) +ℤ pos (n * 2 ^ 64)))

raised : (sums : List ℤ) (u x v : ℕ) → u < length sums → slice_index_or (set sums u (slice_index_or sums u (pos 0) +ℤ pos x)) v (pos 0) ≡ slice_index_or sums v (pos 0) +ℤ pos (at_node u x v)
raised sums u x v l = ⊎_elim
    (λ (e : u ≡ v). subst (λ w. slice_index_or (set sums u (slice_index_or sums u (pos 0) +ℤ pos x)) w (pos 0) ≡ slice_index_or sums w (pos 0) +ℤ pos (at_node u x w)) e (get_or-set_same sums u _ (pos 0) l ∙ ap (λ y. slice_index_or sums u (pos 0) +ℤ pos y) (sym (at_node-same u x))))
    (λ (ne : u ≡ v → ⊥). get_or-set_other sums u v _ (pos 0) (λ f. ne (sym f)) ∙ omega (arith, ints, at_node-other u x v ne))
    (cases_eq u v)

lowered : (sums : List ℤ) (u x v : ℕ) → u < length sums → slice_index_or (set sums u (slice_index_or sums u (pos 0) -ℤ pos x)) v (pos 0) ≡ slice_index_or sums v (pos 0) -ℤ pos (at_node u x v)
lowered sums u x v l = ⊎_elim
    (λ (e : u ≡ v). subst (λ w. slice_index_or (set sums u (slice_index_or sums u (pos 0) -ℤ pos x)) w (pos 0) ≡ slice_index_or sums w (pos 0) -ℤ pos (at_node u x w)) e (get_or-set_same sums u _ (pos 0) l ∙ ap (λ y. slice_index_or sums u (pos 0) -ℤ pos y) (sym (at_node-same u x))))
    (λ (ne : u ≡ v → ⊥). get_or-set_other sums u v _ (pos 0) (λ f. ne (sym f)) ∙ omega (arith, ints, at_node-other u x v ne))
    (cases_eq u v)

-- the balances after one arc
abbrev moved : List ℤ → ℕ → ℕ → ℕ → List ℤ
moved sums u w x = set (set sums u (slice_index_or sums u (pos 0) +ℤ pos x)) w (slice_index_or (set sums u (slice_index_or sums u (pos 0) +ℤ pos x)) w (pos 0) -ℤ pos x)

moved_at : (sums : List ℤ) (u w x v : ℕ) → u < length sums → w < length sums → slice_index_or (moved sums u w x) v (pos 0) ≡ slice_index_or sums v (pos 0) +ℤ pos (at_node u x v) -ℤ pos (at_node w x v)
moved_at sums u w x v lu lw =
    let mid = set sums u (slice_index_or sums u (pos 0) +ℤ pos x) in
    let long = length-set sums u (slice_index_or sums u (pos 0) +ℤ pos x) in
    lowered mid w x v (omega (arith, long)) ∙ ap (λ z. z -ℤ pos (at_node w x v)) (raised sums u x v lu)

small_at : (u x v : ℕ) → at_node u x v ≤ x
small_at u x v = at (nat_eq u v)
  where
    at : (b : Bool) → cond b x 0 ≤ x
    at true = omega arith
    at false = omega arith

near_more : (sums : List ℤ) (i u w x : ℕ) → u < length sums → w < length sums → x < 2 ^ 64 → Near i sums → Near (i + 1) (moved sums u w x)
near_more sums i u w x lu lw small near v = let h = moved_at sums u w x v lu lw in let n = near v in (omega (arith, ints, h, n.0, small_at u x v), omega (arith, ints, h, n.1, small_at w x v))

-- a turn of the loop over the arcs
module _ (loads : List (Arc × ℕ)) (nodes : ℕ) (sums : List ℤ) (i : ℕ) (load d : Arc × ℕ) (l : i < length loads) (e : load ≡ slice_index_or loads i d) (froms : All (λ (m : Arc × ℕ). m.0.from < nodes) loads) (tos : All (λ (m : Arc × ℕ). m.0.to < nodes) loads) (old : Tallies nodes sums (take i loads)) where
  from_in : load.0.from < length sums
  from_in = let h = subst (λ (m : Arc × ℕ). m.0.from < nodes) (sym e) (froms i d l) in omega (arith, h, old.long)

  to_in : load.0.to < length sums
  to_in = let h = subst (λ (m : Arc × ℕ). m.0.to < nodes) (sym e) (tos i d l) in omega (arith, h, old.long)

  tally_more : Tallies nodes (moved sums load.0.from load.0.to load.1) (take (i + 1) loads)
  tally_more =
      let mid = set sums load.0.from (slice_index_or sums load.0.from (pos 0) +ℤ pos load.1) in
      record {
        long = length-set mid load.0.to (slice_index_or mid load.0.to (pos 0) -ℤ pos load.1) ∙ length-set sums load.0.from (slice_index_or sums load.0.from (pos 0) +ℤ pos load.1) ∙ old.long;
        each = λ v k.
            let h = moved_at sums load.0.from load.0.to load.1 v from_in to_in in
            let out = sum_by_more (λ (b : Arc × ℕ). at_node b.0.from b.1 v) loads i d l in
            let in' = sum_by_more (λ (b : Arc × ℕ). at_node b.0.to b.1 v) loads i d l in
            omega (arith, ints, h, out, in', ap (λ (b : Arc × ℕ). at_node b.0.from b.1 v) e, ap (λ (b : Arc × ℕ). at_node b.0.to b.1 v) e, old.each v k);
      }

  pub tally_turn : (mid new : List ℤ) → mid ≡ set sums load.0.from (slice_index_or sums load.0.from (pos 0) +ℤ pos load.1) → new ≡ set mid load.0.to (slice_index_or mid load.0.to (pos 0) -ℤ pos load.1) → load.1 < 2 ^ 64 → Near i sums → Tallies nodes new (take (i + 1) loads) × Near (i + 1) new
  tally_turn mid new r w fits near =
      let same : new ≡ moved sums load.0.from load.0.to load.1 = w ∙ ap (λ (m : List ℤ). set m load.0.to (slice_index_or m load.0.to (pos 0) -ℤ pos load.1)) r in
      (subst (λ m. Tallies nodes m (take (i + 1) loads)) (sym same) tally_more, subst (Near (i + 1)) (sym same) (near_more sums i load.0.from load.0.to load.1 from_in to_in fits near))

pub tally_all : (loads : List (Arc × ℕ)) (nodes : ℕ) (sums : List ℤ) (i : ℕ) → length loads ≤ i → Tallies nodes sums (take i loads) → Tallies nodes sums loads
tally_all loads nodes sums i l old = subst (Tallies nodes sums) (take_all i loads l) old
