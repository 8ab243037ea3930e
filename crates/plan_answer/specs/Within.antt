-- Serves private clauses only: what a run names by index is in the view.
use Rattle.std.specs.Prelude.{◌≡◌, ◌<◌, ◌≤◌, ◌&&◌, ℕ, ℤ, List, length, All, true}
use Rattle.layer.specs.declared.ask.Ask.{Ask}
use Rattle.certificate.specs.declared.fault.CertRefusal.{CertRefusal}
use Rattle.certificate.specs.declared.fault.CertRefusal.TheVariants.{TooLarge, NoMemory}
use Rattle.plan_answer.specs.RoutesReply.{is_too_large}
use Rattle.plan_base.specs.declared.amount.TheConstants.{MAX}
use Rattle.path_split.specs.declared.part.Part.{Part}
use Rattle.view_build.specs.View.{ViewParts}
use Rattle.round_rules.specs.declared.round.Cap.{Cap}
use Rattle.round_rules.specs.declared.round.Fault.{Fault}
use Rattle.round_rules.specs.declared.round.Fault.TheVariants.{Directions, Htlc}
use Rattle.round_rules.specs.declared.round.Round.{Round}
use Rattle.round_rules.specs.declared.round.Route.{Route}
use Rattle.round_rules.specs.declared.run.Outcome.{Outcome}
use Rattle.round_rules.specs.declared.run.Outcome.TheVariants.{Parts, NoFlow, OverFee, OverDelay}
use Rattle.flow_model.specs.Instance.{Net}
use Rattle.flow_model.specs.Potentials.{IsSmall}

abbrev pub IsDirOf : ViewParts → ℕ → Type 0
IsDirOf view d = d < length view.dirs

abbrev pub IsNodeOf : ViewParts → ℕ → Type 0
IsNodeOf view v = v < length view.nodes

abbrev pub IsCapOf : ViewParts → Cap → Type 0
IsCapOf view cap = IsDirOf view cap.dir

abbrev pub IsPartOf : ViewParts → Part → Type 0
IsPartOf view part = All (IsDirOf view) part.path

-- the directions that the fault lists are the view's
abbrev pub IsFaultOf : ViewParts → Fault → Type 0
IsFaultOf view (Directions dirs) = All (IsDirOf view) dirs
IsFaultOf view (Htlc dirs) = All (IsDirOf view) dirs
IsFaultOf view other = Unit {0}

pub record IsRoundOf (view : ViewParts) (r : Round) : Type 0 where
  pub caps : All (IsCapOf view) r.caps
  pub parts : All (IsPartOf view) r.parts
  pub fault : IsFaultOf view r.fault

-- there is a hop over each direction of the path
pub record IsRouteOf (view : ViewParts) (route : Route) : Type 0 where
  pub path : All (IsDirOf view) route.path
  pub hops : length route.hops ≡ length route.path

-- what the certificate of a flow takes for granted
pub record IsFlowOf (net : Net) (flow : List ℕ) (potentials : List ℤ) : Type 0 where
  pub arcs : length flow ≡ length net.arcs
  pub units : All (λ units. units ≤ MAX) flow
  pub nodes : length potentials ≡ net.nodes
  pub small : All IsSmall potentials

-- what the outcome names is the view's, and a certificate can be printed of it
abbrev pub IsOutcomeOf : ViewParts → Outcome → Type 0
IsOutcomeOf view (Parts routes fee ppm net flow potentials) = All (IsRouteOf view) routes × IsFlowOf net flow potentials
IsOutcomeOf view (NoFlow net side) = (length side ≡ length view.nodes) × (length side ≡ net.nodes)
IsOutcomeOf view (OverFee fee) = Unit {0}
IsOutcomeOf view (OverDelay part delay) = Unit {0}

-- the ask wants a certificate, and this instance is too large for one
abbrev pub IsRefused : Ask → Net → CertRefusal → Type 0
IsRefused ask net (TooLarge arcs nodes) = ((ask.certificate && is_too_large net) ≡ true) × (arcs ≡ length net.arcs) × (nodes ≡ net.nodes)
IsRefused ask net NoMemory = Unit {0}
