use Rattle.std.proofs.Common.{rules, ap, ◌∙◌, ◌≡◌, ◌<◌, ◌≤◌, ℕ, zero, suc, List, [], ◌∷◌, sym, subst, refl, arith, ℤ, pos}
use Rattle.std.proofs.lemmas.Int.{ints}
use Rattle.std.specs.Prelude.{All, ◌≢◌}
use Rattle.std.proofs.lemmas.List.Elements.{All-cons, All-nil}
use Rattle.std.proofs.lemmas.List.Kept.{AllPairs-cons}
use Rattle.flow_model.specs.declared.instance.Arc.{Arc}
use Rattle.flow_model.specs.Instance.{Net, IsInstance, IsGoodArc, Dearer}
use Rattle.flow_model.specs.Flow.{IsCheapest, IsFilledInOrder}
use Rattle.flow_model.specs.Potentials.{IsShown}
use Rattle.flow_model.proofs.Duality.{shown_is_cheapest}
use Rattle.flow_tests.proofs.parts.a_size_cuts_each_path_evenly.Goals as goal

abbrev first : Arc
first = record { from = 0; to = 1; room = 7; cost = 1; dir = 0 }

abbrev second : Arc
second = record { from = 0; to = 1; room = 4; cost = 1; dir = 1 }

abbrev net : Net
net = record { nodes = 2; source = 0; destination = 1; demand = 11; arcs = first ∷ second ∷ [] }

both : (P : Arc → Type 0) → P first → P second → All P (first ∷ second ∷ [])
both P p q = All-cons P first (second ∷ []) p (All-cons P second [] q (All-nil P))

two_directions : IsInstance net
two_directions = record {
  ranges = record {
    ends = record {
      source_in = omega arith;
      destination_in = omega arith;
      apart = λ e. omega arith;
      froms = both (λ a. a.from < 2) (omega arith) (omega arith);
      tos = both (λ a. a.to < 2) (omega arith) (omega arith);
    };
    few_nodes = omega arith;
    few_arcs = omega arith;
    some_demand = omega arith;
    most_demand = omega arith;
    good_arcs = both IsGoodArc
        record { apart = λ e. omega arith; some_room = omega arith; most_room = omega arith; some_cost = omega arith; most_cost = omega arith; direction = omega arith }
        record { apart = λ e. omega arith; some_room = omega arith; most_room = omega arith; some_cost = omega arith; most_cost = omega arith; direction = omega arith };
  };
  dearer = AllPairs-cons Dearer first (second ∷ []) (All-cons (Dearer first) second [] (λ e. absurd (omega (arith, e))) (All-nil (Dearer first))) (AllPairs-cons Dearer second [] (All-nil (Dearer second)) (λ i j d l k. absurd (omega arith)));
  together = λ i j k d l m n e. absurd (omega arith);
}

no_other : (v : ℕ) → v < 2 → v ≢ 0 → v ≢ 1 → ⊥
no_other zero l not_0 not_1 = not_0 refl
no_other (suc zero) l not_0 not_1 = not_1 refl
no_other (suc (suc v)) l not_0 not_1 = omega (arith, l)

abbrev potentials : List ℤ
potentials = pos 0 ∷ pos 1 ∷ []

each : (P : Arc × ℕ → Type 0) → P (first, 7) → P (second, 4) → All P ((first, 7) ∷ (second, 4) ∷ [])
each P p q = All-cons P (first, 7) ((second, 4) ∷ []) p (All-cons P (second, 4) [] q (All-nil P))

cheapest : IsCheapest net (7 ∷ 4 ∷ [])
cheapest = shown_is_cheapest net (7 ∷ 4 ∷ []) potentials two_directions.ranges.ends record {
  long = refl;
  feasible = record {
    long = refl;
    fits = each (λ l. l.1 ≤ l.0.room) (omega arith) (omega arith);
    kept = λ v l not_0 not_1. absurd (no_other v l not_0 not_1);
    sent = refl;
  };
  shown = each (IsShown potentials) (λ l. absurd (omega (arith, l)), λ l. omega (arith, ints)) (λ l. absurd (omega (arith, l)), λ l. omega (arith, ints));
}

in_order : IsFilledInOrder net (7 ∷ 4 ∷ [])
in_order = refl

abbrev net_of : List Arc → Net
net_of arcs = record { nodes = 2; source = 0; destination = 1; demand = 11; arcs = arcs }

read : (P : Net → List ℕ → Type 0) (n : Net) (arcs : List Arc) (flow units : List ℕ) → n ≡ net_of arcs → arcs ≡ first ∷ second ∷ [] → flow ≡ units → units ≡ 7 ∷ 4 ∷ [] → P net (7 ∷ 4 ∷ []) → P n flow
read P n arcs flow units e a f u p = subst (λ m. P m flow) (sym (e ∙ ap net_of a)) (subst (P net) (sym (f ∙ u)) p)

pub new-instance-requires : goal.new-instance-requires
new-instance-requires g c =
    let made : c.in_ok-arcs.arcs.items ≡ first ∷ second ∷ [] = search rules in
    subst (λ xs. IsInstance (net_of xs)) (sym made) two_directions

pub split-requires-clause-cheapest : goal.split-requires-clause-cheapest
split-requires-clause-cheapest g c =
    let made : c.in_ok-arcs.arcs.items ≡ first ∷ second ∷ [] = search rules in
    let units : c.in_ok-units.units.items ≡ 7 ∷ 4 ∷ [] = search rules in
    read IsCheapest _ _ _ _ c.new-instance.ensures made c.from_vec-flow.ensures units cheapest

pub split-requires-clause-in_order : goal.split-requires-clause-in_order
split-requires-clause-in_order g c =
    let made : c.in_ok-arcs.arcs.items ≡ first ∷ second ∷ [] = search rules in
    let units : c.in_ok-units.units.items ≡ 7 ∷ 4 ∷ [] = search rules in
    read IsFilledInOrder _ _ _ _ c.new-instance.ensures made c.from_vec-flow.ensures units in_order
