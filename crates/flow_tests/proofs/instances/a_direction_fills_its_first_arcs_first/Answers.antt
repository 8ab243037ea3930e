use Rattle.std.proofs.Common.{rules, ap, ◌∙◌, ◌≡◌, ◌<◌, ◌≤◌, [], ◌∷◌, sym, subst, refl, arith}
use Rattle.std.specs.Prelude.{All, slice_index}
use Rattle.std.proofs.lemmas.List.Elements.{All-cons, All-nil, All-same}
use Rattle.std.proofs.lemmas.List.Kept.{AllPairs-cons}
use Rattle.flow_model.specs.declared.instance.Arc.{Arc}
use Rattle.flow_model.specs.Instance.{IsInstance, IsGoodArc, Dearer}
use Rattle.flow_model.specs.Flow.{room_of}
use Rattle.flow_tests.proofs.instances.a_direction_fills_its_first_arcs_first.Goals as goal

first : Arc
first = record { from = 0; to = 1; room = 300000; cost = 255000000001; dir = 0 }

second : Arc
second = record { from = 0; to = 1; room = 180000; cost = 255000000001; dir = 0 }

both : (P : Arc → Type 0) → P first → P second → All P (first ∷ second ∷ [])
both P p q = All-cons P first (second ∷ []) p (All-cons P second [] q (All-nil P))

one_direction : IsInstance record { nodes = 2; source = 0; destination = 1; demand = 350000; arcs = first ∷ second ∷ [] }
unfolding first second
one_direction = record {
  ranges = record {
    ends = record {
      source_in = omega arith;
      destination_in = omega arith;
      apart = λ e. omega arith;
      froms = both (λ a. a.from < 2) (omega arith) (omega arith);
      tos = both (λ a. a.to < 2) (omega arith) (omega arith);
    };
    few_nodes = omega arith;
    few_arcs = omega arith;
    some_demand = omega arith;
    most_demand = omega arith;
    good_arcs = both IsGoodArc
        record { apart = λ e. omega arith; some_room = omega arith; most_room = omega arith; some_cost = omega arith; most_cost = omega arith; direction = omega arith }
        record { apart = λ e. omega arith; some_room = omega arith; most_room = omega arith; some_cost = omega arith; most_cost = omega arith; direction = omega arith };
  };
  dearer = AllPairs-cons Dearer first (second ∷ []) (All-cons (Dearer first) second [] (λ _. (refl, refl, omega arith)) (All-nil (Dearer first))) (AllPairs-cons Dearer second [] (All-nil (Dearer second)) (λ i j d l k. absurd (omega arith)));
  together = λ i j k d l m n e. absurd (omega arith);
}

pub new-instance-requires : goal.new-instance-requires
unfolding first second
new-instance-requires g c =
    let made : c.in_ok-arcs.arcs.items ≡ first ∷ second ∷ [] = search rules in
    subst (λ xs. IsInstance record { nodes = 2; source = 0; destination = 1; demand = 350000; arcs = xs }) (sym made) one_direction

pub fill-requires-clause-known : goal.fill-requires-clause-known
unfolding first second
fill-requires-clause-known g c =
    let made : c.in_ok-arcs.arcs.items ≡ first ∷ second ∷ [] = search rules in
    All-same (λ a. a.dir < 1) _ _ (ap (λ n. n.arcs) c.new-instance.ensures ∙ made) (both (λ a. a.dir < 1) (omega arith) (omega arith))

pub fill-requires-clause-room : goal.fill-requires-clause-room
unfolding first second
fill-requires-clause-room g c d l =
    let made : c.in_ok-arcs.arcs.items ≡ first ∷ second ∷ [] = search rules in
    let only : d ≡ 0 = omega arith in
    subst (λ xs. slice_index (350000 ∷ []) d ≤ room_of d xs) (sym (ap (λ n. n.arcs) c.new-instance.ensures ∙ made)) (subst (λ e. slice_index (350000 ∷ []) e ≤ room_of e (first ∷ second ∷ [])) (sym only) (omega arith))
