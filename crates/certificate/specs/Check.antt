-- What the check of a certificate returns.
use Rattle.std.specs.Prelude.{ℕ, zero, suc, ◌+◌, ◌&&◌, ◌||◌, not, Bool, List, length, map, zip, drop, position, sum_by, Option, Some, None, ◌==◌, nat_lt, nat_le, int_lt, if◌then◌else◌, ℤ, pos, ◌-ℤ◌, slice_index_or}
use Rattle.std.specs.Ordering.{int_eq}
use Rattle.flow_model.specs.declared.instance.Arc.{Arc}
use Rattle.flow_model.specs.declared.solve.Solved.{Solved}
use Rattle.flow_model.specs.declared.solve.Solved.TheVariants.{Flow, Cut}
use Rattle.flow_model.specs.Instance.{Net}
use Rattle.flow_model.specs.Flow.{loads, leaving, entering, IsFeasible, IsCheapest}
use Rattle.flow_model.specs.Potentials.{reduced_cost, ShowsCheapest}
use Rattle.flow_model.specs.Side.{Cuts, on_side, crossing}
use Rattle.certificate.specs.declared.verdict.Verdict.{Verdict}
use Rattle.certificate.specs.declared.verdict.Verdict.TheVariants.{Cheapest, NoFlow, No}
use Rattle.certificate.specs.Certificate.{Certificate}

-- the arcs with the units that they carry; the arcs of a cut carry none
abbrev pub carried : Net → Solved → List (Arc × ℕ)
carried net (Flow flow potentials) = loads net flow
carried net (Cut side) = map (λ (a : Arc). (a, 0)) net.arcs

-- the arcs that stand next to each other
abbrev pub neighbours : List (Arc × ℕ) → List ((Arc × ℕ) × (Arc × ℕ))
neighbours ls = zip ls (drop 1 ls)

abbrev pub have_other_ends : Arc → Arc → Bool
have_other_ends a b = not (a.from == b.from) || not (a.to == b.to)

-- the later arc carries units, and the earlier one isn't full
abbrev pub leaves_room : Arc × ℕ → Arc × ℕ → Bool
leaves_room l m = nat_lt 0 m.1 && not (l.1 == l.0.room)

-- two arcs of one direction whose ends differ, or of which the later one is cheaper, or is used while the earlier one
-- isn't full
abbrev pub are_disordered : (Arc × ℕ) × (Arc × ℕ) → Bool
are_disordered n = (n.0.0.dir == n.1.0.dir) && (have_other_ends n.0.0 n.1.0 || nat_lt n.1.0.cost n.0.0.cost || leaves_room n.0 n.1)

-- an arc that carries more than its room
abbrev pub is_over : Arc × ℕ → Bool
is_over l = nat_lt l.0.room l.1

-- how many more units leave a node than enter it in a feasible flow, for these ends and demand
abbrev pub due : ℕ → ℕ → ℕ → ℕ → ℤ
due source destination demand v = if v == source then pos demand else (if v == destination then pos 0 -ℤ pos demand else pos 0)

abbrev pub is_uneven_balance : ℕ → ℕ → ℕ → ℕ → ℤ → Bool
is_uneven_balance source destination demand v balance = not (int_eq balance (due source destination demand v))

-- the same test of a list of all nodes' balances
abbrev pub is_uneven_at : ℕ → ℕ → ℕ → List ℤ → ℕ → Bool
is_uneven_at source destination demand balances v = is_uneven_balance source destination demand v (slice_index_or balances v (pos 0))

abbrev pub is_uneven : Net → List ℕ → ℕ → Bool
is_uneven net flow v = is_uneven_balance net.source net.destination net.demand v (pos (leaving v (loads net flow)) -ℤ pos (entering v (loads net flow)))

-- an arc with room left has a reduced cost below 0; one with units has a reduced cost above 0
abbrev pub gains : ℕ → ℕ → ℤ → Bool
gains units room reduced = nat_lt units room && int_lt reduced (pos 0)

abbrev pub loses : ℕ → ℤ → Bool
loses units reduced = nat_lt 0 units && int_lt (pos 0) reduced

-- an arc that the potentials don't show
abbrev pub is_missed : List ℤ → Arc × ℕ → Bool
is_missed p l = gains l.1 l.0.room (reduced_cost p l.0) || loses l.1 (reduced_cost p l.0)

-- the least number below n for which the test holds
abbrev pub or_last : (ℕ → Bool) → ℕ → Option ℕ → Option ℕ
or_last test n (Some i) = Some i
or_last test n None = if test n then Some n else None

abbrev pub first_below : (ℕ → Bool) → ℕ → Option ℕ
first_below test zero = None
first_below test (suc n) = or_last test n (first_below test n)

-- a failure at an index, whose line is counted from `start`; else the later result
abbrev pub no_at : ℕ → Option ℕ → Verdict → Verdict
no_at start (Some i) later = No (start + i)
no_at start None later = later

-- each arc within its room, each node's balance, then each arc's reduced cost
abbrev pub flow_verdict : Net → List ℕ → List ℤ → Verdict
flow_verdict net flow p =
    no_at 3 (position is_over (loads net flow))
    (no_at (3 + length net.arcs) (first_below (is_uneven net flow) net.nodes)
    (no_at 3 (position (is_missed p) (loads net flow)) Cheapest))

-- the source on the side, the destination off it, then the room that leaves it
abbrev pub cut_verdict : Net → List Bool → Verdict
cut_verdict net side =
    if not (on_side side net.source) then No (3 + length net.arcs + net.source)
    else (if on_side side net.destination then No (3 + length net.arcs + net.destination)
    else (if nat_le net.demand (sum_by (crossing side) net.arcs) then No 2 else NoFlow))

abbrev pub verdict_for : Net → Solved → Verdict
verdict_for net (Flow flow potentials) = flow_verdict net flow potentials
verdict_for net (Cut side) = cut_verdict net side

-- each arc and the one before it, then the flow or the side; the line of a failure is the later arc's
abbrev pub verdict_of : Certificate → Verdict
verdict_of c = no_at 4 (position are_disordered (neighbours (carried c.net c.answer))) (verdict_for c.net c.answer)

-- the answer is a cheapest flow, and its potentials show it
abbrev pub IsShownCheapest : Net → Solved → Type 0
IsShownCheapest net (Flow flow potentials) = ShowsCheapest net flow potentials × IsCheapest net flow
IsShownCheapest net (Cut side) = ⊥

-- the answer is a side that cuts the source off, and no flow is feasible
abbrev pub IsShownCut : Net → Solved → Type 0
IsShownCut net (Flow flow potentials) = ⊥
IsShownCut net (Cut side) = Cuts net side × ((flow : List ℕ) → IsFeasible net flow → ⊥)

-- what a verdict says of a certificate's instance
abbrev pub IsTrueOf : Certificate → Verdict → Type 0
IsTrueOf c Cheapest = IsShownCheapest c.net c.answer
IsTrueOf c NoFlow = IsShownCut c.net c.answer
IsTrueOf c (No line) = Unit {0}
