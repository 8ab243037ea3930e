-- The nodes that directions of a view can touch.
use Rattle.std.proofs.Common.{◌≡◌, ℕ, zero, suc, ◌+◌, ◌*◌, ◌<◌, List, [], ◌∷◌, ◌++◌, length, get_or, take, refl, sym, ap, ◌∙◌, arith}
use Rattle.std.specs.List.{Contains, flat_map}
use Rattle.std.proofs.lemmas.List.{map-append, take_more}
use Rattle.channel_map.specs.declared.edge.Edge.{Edge}
use Rattle.view_build.specs.Table.{edge_ends, named_places}

pub later : {X : Type 0} (xs : List X) (x y : X) → Contains xs x → Contains (y ∷ xs) x
later xs x y (k, within, is) = (suc k, omega arith, is)

pub ends_length : (created : List Edge) → length (flat_map edge_ends created) ≡ 2 * length created
ends_length [] = omega arith
ends_length (e ∷ created) = omega (arith, ends_length created)

-- a direction's ends are among the ends of all
pub has_source : (created : List Edge) (e : Edge) → Contains created e → Contains (flat_map edge_ends created) e.source
has_source [] e (k, within, is) = absurd (omega arith)
has_source (first ∷ created) e (zero, within, is) = (zero, omega arith, ap (λ (d : Edge). d.source) is)
has_source (first ∷ created) e (suc k, within, is) =
    later (first.destination ∷ flat_map edge_ends created) e.source first.source (later (flat_map edge_ends created) e.source first.destination (has_source created e (k, omega arith, is)))

pub has_destination : (created : List Edge) (e : Edge) → Contains created e → Contains (flat_map edge_ends created) e.destination
has_destination [] e (k, within, is) = absurd (omega arith)
has_destination (first ∷ created) e (zero, within, is) = (suc zero, omega arith, ap (λ (d : Edge). d.destination) is)
has_destination (first ∷ created) e (suc k, within, is) =
    later (first.destination ∷ flat_map edge_ends created) e.destination first.source (later (flat_map edge_ends created) e.destination first.destination (has_destination created e (k, omega arith, is)))

-- one more node at its own place
pub own_place : (nodes : List (List ℕ)) (places : List ℕ) (place : ℕ) → place < length nodes → named_places nodes places ≡ take place nodes → named_places nodes (places ++ place ∷ []) ≡ take (place + 1) nodes
own_place nodes places place within before =
    map-append (λ p. get_or nodes p []) places (place ∷ []) ∙ ap (λ ids. ids ++ get_or nodes place [] ∷ []) before ∙ sym (take_more nodes place [] within)

pub nothing : {X : Type 0} (xs : List X) → length xs ≡ 0 → xs ≡ []
nothing [] h = refl
nothing (x ∷ xs) h = absurd (omega (arith, h))
