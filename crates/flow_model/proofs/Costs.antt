-- The cost of a flow and the room that leaves a side fit 128 bits.
use Rattle.std.proofs.Common.{ℕ, ◌*◌, ◌<◌, ◌≤◌, ◌≡◌, ◌^◌, List, Bool, true, false, cond, arith, length}
use Rattle.std.specs.Prelude.{All, slice_index_or, ◌&&◌, not}
use Rattle.std.proofs.lemmas.Nat.{mul-le}
use Rattle.std.proofs.lemmas.List.Elements.{All-weaker}
use Rattle.std.proofs.lemmas.List.Sums.{sum_by-le}
use Rattle.std.proofs.lemmas.Slice.Zip.{length-zip}
use Rattle.plan_base.specs.declared.amount.TheConstants.{MAX}
use Rattle.flow_model.specs.declared.limits.TheConstants.{ARCS_MAX, COST_MAX}
use Rattle.flow_model.specs.declared.instance.Arc.{Arc}
use Rattle.flow_model.specs.Instance.{Net, IsInstance, IsGoodArc}
use Rattle.flow_model.specs.Flow.{Fits, loads, cost_of}
use Rattle.flow_model.specs.Side.{on_side, crossing, room_leaving}
use Rattle.flow_model.proofs.Balance.{All-zip}

pub cost_fits : (net : Net) (flow : List ℕ) → IsInstance net → length flow ≡ length net.arcs → Fits net flow → cost_of net flow < 2 ^ 128
cost_fits net flow good long fits =
    omega (arith, good.ranges.few_arcs, length-zip net.arcs flow, sum_by-le (λ (l : Arc × ℕ). l.1 * l.0.cost) (MAX * COST_MAX) (loads net flow) each)
  where
    each : All (λ (l : Arc × ℕ). l.1 * l.0.cost ≤ MAX * COST_MAX) (loads net flow)
    each k d l =
        let at = slice_index_or (loads net flow) k d in
        let arc = All-zip IsGoodArc net.arcs flow good.ranges.good_arcs k d l in
        let few : at.1 ≤ MAX = omega (arith, fits k d l, arc.most_room) in
        mul-le _ _ _ _ few arc.most_cost

crossing_most : (b : Bool) (room most : ℕ) → room ≤ most → cond b room 0 ≤ most
crossing_most true room most le = le
crossing_most false room most le = omega arith

pub room_fits : (side : List Bool) (arcs : List Arc) → All (λ a. a.room ≤ MAX) arcs → length arcs ≤ ARCS_MAX → room_leaving side arcs < 2 ^ 128
room_fits side arcs rooms few =
    omega (arith, few, sum_by-le (crossing side) MAX arcs (All-weaker (λ a. a.room ≤ MAX) (λ a. crossing side a ≤ MAX) (λ a. crossing_most (on_side side a.from && not (on_side side a.to)) a.room MAX) arcs rooms))
