-- If a search does not reach the destination, the nodes that it reaches are a side that cuts.
use Rattle.std.proofs.Common.{ℕ, ◌+◌, ◌-◌, ◌*◌, ◌^◌, ◌<◌, ◌≤◌, ◌≡◌, Bool, true, false, cond, List, [], ◌∷◌, sym, refl, ap, ◌∙◌, ⊎_elim, arith, length}
use Rattle.std.specs.Prelude.{All, zip, slice_index, sum_by, nat_lt, not, ◌&&◌, ℤ, pos, ◌≤ℤ◌}
use Rattle.std.proofs.lemmas.Bool.{cases_lt, false≢true}
use Rattle.std.proofs.lemmas.Bool.{lt-ltb, le-ltb}
use Rattle.std.proofs.lemmas.List.Elements.{All-head, All-tail}
use Rattle.std.proofs.lemmas.List.Sums.{sum_by-cons}
use Rattle.std.proofs.lemmas.Int.{ints}
use Rattle.flow_model.specs.declared.instance.Arc.{Arc}
use Rattle.flow_model.specs.Instance.{Net, IsNet, arc_at, no_arc}
use Rattle.flow_model.specs.Flow.{Sends, loads}
use Rattle.flow_model.specs.Side.{Cuts, on_side, crossing}
use Rattle.flow_model.proofs.Balance.{out_sum, in_sum, balanced}
use Rattle.flow_model.proofs.Duality.{inside}
use Rattle.residual_net.specs.Residual.{ResidualNet, IsResidualNet}
use Rattle.residual_net.proofs.Loads.{zip_from_at, fits_at}
use Rattle.flow_solver.specs.Search.{tail_of, head_of, step_cost, IsNextStep, IsSearchTree, IsFlowShown, IsSettledBelow, HasBoundedPotentials}
use Rattle.flow_solver.proofs.Order.{all_forward, all_backward}
use Rattle.flow_solver.proofs.Trees.{tail_in}
use Rattle.flow_solver.specs.declared.labels.TheConstants.{UNREACHED}
use Rattle.flow_solver.proofs.Routes.{label_bound, chain_short}

-- no step leaves the side: arcs that leave it are full, arcs that enter it carry nothing
abbrev pub IsShut : List Bool → Arc × ℕ → Type 0
IsShut side l = (on_side side l.0.from ≡ true → on_side side l.0.to ≡ false → l.1 ≡ l.0.room) × (on_side side l.0.from ≡ false → on_side side l.0.to ≡ true → l.1 ≡ 0)

shut_one : (x r : ℕ) (a b : Bool) → (a ≡ true → b ≡ false → x ≡ r) × (a ≡ false → b ≡ true → x ≡ 0) → x * cond a 1 0 ≡ x * cond b 1 0 + cond (a && not b) r 0
shut_one x r true true h = omega arith
shut_one x r true false h = let e = h.0 refl refl in omega (arith, e)
shut_one x r false true h = let e = h.1 refl refl in omega (arith, e)
shut_one x r false false h = omega arith

shut_all : (side : List Bool) (arcs : List Arc) (f : List ℕ) → length f ≡ length arcs → All (IsShut side) (zip arcs f) → out_sum (inside side) (zip arcs f) ≡ in_sum (inside side) (zip arcs f) + sum_by (crossing side) arcs
shut_all side [] f long shut = refl
shut_all side (k ∷ arcs) [] long shut = absurd (omega arith)
shut_all side (k ∷ arcs) (x ∷ f) long shut =
    let one = shut_one x k.room (on_side side k.from) (on_side side k.to) (All-head (IsShut side) (k, x) (zip arcs f) shut) in
    let others = shut_all side arcs f (omega arith) (All-tail (IsShut side) (k, x) (zip arcs f) shut) in
    omega (arith, one, others, sum_by-cons (λ (l : Arc × ℕ). l.1 * inside side l.0.from) (k, x) (zip arcs f), sum_by-cons (λ (l : Arc × ℕ). l.1 * inside side l.0.to) (k, x) (zip arcs f), sum_by-cons (crossing side) k arcs)

pub shut_cuts : (net : Net) (flow : List ℕ) (n : ℕ) (side : List Bool) → IsNet net → Sends net flow n → n < net.demand → length side ≡ net.nodes → on_side side net.source ≡ true → on_side side net.destination ≡ false → All (IsShut side) (loads net flow) → Cuts net side
shut_cuts net flow n side good ok less long on off shut =
    let s : inside side net.source * n ≡ n = ap (λ b. cond b 1 0 * n) on ∙ omega arith in
    let t : inside side net.destination * n ≡ 0 = ap (λ b. cond b 1 0 * n) off ∙ omega arith in
    record {
      long = long;
      source_on = on;
      destination_off = off;
      small = omega (arith, less, s, t, shut_all side net.arcs flow ok.long shut, balanced net flow good n ok (inside side));
    }

module _ (residual : ResidualNet) (p : List ℤ) (ok : IsResidualNet residual) (shown : IsFlowShown residual p) (labels : List ℕ) (parents : List (ℕ × Bool)) (tree : IsSearchTree residual p labels parents) (settled : IsSettledBelow residual p labels UNREACHED) (bounded : HasBoundedPotentials residual.net p) where
  -- a reached node's label is far below UNREACHED
  near_low : (v : ℕ) → v < residual.net.nodes → slice_index labels v < UNREACHED → slice_index labels v ≤ 2 ^ 24 * (2 * 10 ^ 12)
  near_low v l near =
      let chain = tree.rooted v l near in
      let short = chain_short residual p ok shown labels parents tree chain.0 v chain.1 l near in
      let few = ok.good.ranges.few_nodes in
      let low = bounded.low v in
      let most = tree.most v in
      let h = label_bound residual p ok shown labels parents tree UNREACHED settled chain.0 v bounded.root chain.1 l near most in
      omega (arith, ints, h, short, few, low)

  cost_high : (s : ℕ × Bool) → IsNextStep residual s → step_cost p (arc_at residual.net.arcs s.0) s.1 ≤ℤ pos (2 * 10 ^ 12 + 2 ^ 24 * (2 * 10 ^ 12))
  cost_high s next = by (arc_at residual.net.arcs s.0) s.1 (ok.good.ranges.good_arcs s.0 no_arc next.known).most_cost
    where
      by : (a : Arc) (b : Bool) → a.cost ≤ 1999999999999 → step_cost p a b ≤ℤ pos (2 * 10 ^ 12 + 2 ^ 24 * (2 * 10 ^ 12))
      by a true cheap = let l = bounded.low a.from in let h = bounded.top a.to in let m = bounded.most in omega (arith, ints, l, h, m, cheap)
      by a false cheap = let l = bounded.low a.to in let h = bounded.top a.from in let m = bounded.most in omega (arith, ints, l, h, m, cheap)

  reaches : (s : ℕ × Bool) → IsNextStep residual s → slice_index labels (tail_of (arc_at residual.net.arcs s.0) s.1) < UNREACHED → slice_index labels (head_of (arc_at residual.net.arcs s.0) s.1) < UNREACHED
  reaches s next near =
      let h = settled s next near in
      let m = tree.most (head_of (arc_at residual.net.arcs s.0) s.1) in
      let low = near_low (tail_of (arc_at residual.net.arcs s.0) s.1) (tail_in residual s ok next.known) near in
      let high = cost_high s next in
      omega (arith, ints, h, m, low, high)

  pub labels_cut : (n : ℕ) (side : List Bool) → Sends residual.net residual.flow n → n < residual.net.demand → UNREACHED ≤ slice_index labels residual.net.destination → length side ≡ residual.net.nodes → ((v : ℕ) → v < residual.net.nodes → on_side side v ≡ nat_lt (slice_index labels v) UNREACHED) → Cuts residual.net side
  labels_cut n side sends less far long sides = shut_cuts residual.net residual.flow n side ok.good.ranges.ends sends less long (reached residual.net.source ok.good.ranges.ends.source_in (let r = tree.root in omega (arith, r))) (unreached residual.net.destination ok.good.ranges.ends.destination_in far) (zip_from_at (IsShut side) residual.net.arcs residual.flow ok.long (λ i l. (out i l, into i l)))
    where
      reached : (v : ℕ) → v < residual.net.nodes → slice_index labels v < UNREACHED → on_side side v ≡ true
      reached v l near = sides v l ∙ lt-ltb (slice_index labels v) UNREACHED near

      unreached : (v : ℕ) → v < residual.net.nodes → UNREACHED ≤ slice_index labels v → on_side side v ≡ false
      unreached v l near = sides v l ∙ le-ltb (slice_index labels v) UNREACHED near

      near : (v : ℕ) → v < residual.net.nodes → on_side side v ≡ true → slice_index labels v < UNREACHED
      near v l on = ⊎_elim (λ (k : slice_index labels v < UNREACHED). k) (λ (k : UNREACHED ≤ slice_index labels v). absurd (false≢true (sym (unreached v l k) ∙ on))) (cases_lt (slice_index labels v) UNREACHED)

      out : (i : ℕ) → i < length residual.net.arcs → on_side side (arc_at residual.net.arcs i).from ≡ true → on_side side (arc_at residual.net.arcs i).to ≡ false → slice_index residual.flow i ≡ (arc_at residual.net.arcs i).room
      out i l on off = ⊎_elim
          (λ (k : slice_index residual.flow i < (arc_at residual.net.arcs i).room). absurd (false≢true (sym off ∙ all_forward (λ a. on_side side a.from ≡ true → on_side side a.to ≡ true) residual.net.arcs residual.flow ok.good.dearer
          (λ a b e d h on'. let g = d e in ap (on_side side) (sym g.1) ∙ h (ap (on_side side) g.0 ∙ on'))
          (λ j lj next on'. reached (arc_at residual.net.arcs j).to (ok.good.ranges.ends.tos j no_arc lj) (reaches (j, false) (record { known = lj; way = next }) (near (arc_at residual.net.arcs j).from (ok.good.ranges.ends.froms j no_arc lj) on')))
          ok.fits (λ j lj. fits_at residual j ok lj) i l k on)))
          (λ (k : (arc_at residual.net.arcs i).room ≤ slice_index residual.flow i). let f = fits_at residual i ok l in omega (arith, f, k))
          (cases_lt (slice_index residual.flow i) (arc_at residual.net.arcs i).room)

      into : (i : ℕ) → i < length residual.net.arcs → on_side side (arc_at residual.net.arcs i).from ≡ false → on_side side (arc_at residual.net.arcs i).to ≡ true → slice_index residual.flow i ≡ 0
      into i l off on = ⊎_elim
          (λ (k : 0 < slice_index residual.flow i). absurd (false≢true (sym off ∙ all_backward (λ a. on_side side a.to ≡ true → on_side side a.from ≡ true) residual.net.arcs residual.flow ok.good.dearer
          (λ a b e d h on'. let g = d e in ap (on_side side) g.0 ∙ h (ap (on_side side) (sym g.1) ∙ on'))
          (λ j lj next on'. reached (arc_at residual.net.arcs j).from (ok.good.ranges.ends.froms j no_arc lj) (reaches (j, true) (record { known = lj; way = next }) (near (arc_at residual.net.arcs j).to (ok.good.ranges.ends.tos j no_arc lj) on')))
          (length residual.net.arcs - i) i (omega arith) (omega arith) k on)))
          (λ (k : slice_index residual.flow i ≤ 0). omega arith)
          (cases_lt 0 (slice_index residual.flow i))
