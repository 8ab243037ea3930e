-- The first arc of each direction; these words serve private clauses only.
use Rattle.std.specs.Prelude.{ℕ, ◌+◌, ◌<◌, ◌≤◌, ◌≡◌, ◌≢◌, List, length, Bool}
use Rattle.flow_model.specs.declared.instance.Arc.{Arc}
use Rattle.flow_model.specs.Instance.{arc_at}
use Rattle.flow_solver.specs.Search.{IsNextOfDirection}

-- the head of a direction is its first arc, whose index it has in place of the direction's number
pub record IsHead (arcs : List Arc) (head : Arc) : Type 0 where
  pub known : head.dir < length arcs
  pub from : head.from ≡ (arc_at arcs head.dir).from
  pub to : head.to ≡ (arc_at arcs head.dir).to
  pub room : head.room ≡ (arc_at arcs head.dir).room
  pub cost : head.cost ≡ (arc_at arcs head.dir).cost
  pub starts : (k : ℕ) → k + 1 ≡ head.dir → (arc_at arcs k).dir ≢ (arc_at arcs head.dir).dir

-- the heads of the first n arcs, in their order
pub record HasHeads (arcs heads : List Arc) (n : ℕ) : Type 0 where
  pub each : (g : ℕ) → g < length heads → IsHead arcs (arc_at heads g)
  pub below : (g : ℕ) → g < length heads → (arc_at heads g).dir < n
  pub rises : (g h : ℕ) → g < h → h < length heads → (arc_at heads g).dir < (arc_at heads h).dir
  pub all : (i : ℕ) → i < n → (g : ℕ) × (g < length heads) × ((arc_at arcs (arc_at heads g).dir).dir ≡ (arc_at arcs i).dir)
  pub few : length heads ≤ n

-- the arc is the only one of its direction over which a search may use the step
pub record IsOnlyNext (arcs : List Arc) (flow : List ℕ) (head : Arc) (back : Bool) (i : ℕ) : Type 0 where
  pub known : i < length arcs
  pub dir : (arc_at arcs i).dir ≡ (arc_at arcs head.dir).dir
  pub next : IsNextOfDirection arcs flow i back
  pub only : (j : ℕ) → j < length arcs → (arc_at arcs j).dir ≡ (arc_at arcs head.dir).dir → IsNextOfDirection arcs flow j back → j ≡ i

-- a search may use the step over no arc of the direction
abbrev pub HasNoNext : List Arc → List ℕ → Arc → Bool → Type 0
HasNoNext arcs flow head back = (j : ℕ) → j < length arcs → (arc_at arcs j).dir ≡ (arc_at arcs head.dir).dir → IsNextOfDirection arcs flow j back → ⊥
