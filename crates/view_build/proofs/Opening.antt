-- Directions with the places of their ends, one after another.
use Rattle.std.proofs.Common.{◌≡◌, ◌≢◌, ℕ, ◌+◌, ◌<◌, List, [], ◌∷◌, ◌++◌, length, get_or, drop, Bool, true, false, cond, Option, Some, None, if◌then◌else◌, refl, sym, ap, subst, ◌∙◌, append_assoc, append-nil, arith}
use Rattle.std.specs.Prelude.{All, map, option_map}
use Rattle.std.specs.List.{cons_option, filter_map, list_any}
use Rattle.std.specs.Ordering.{is_lt}
use Rattle.std.proofs.lemmas.List.{drop_more, get_or-map, length-map, map-append}
use Rattle.std.proofs.lemmas.List.Elements.{All-push, filter_map-append}
use Rattle.plan_base.specs.Dir.{Direction, same_dir, dir_order}
use Rattle.layer.specs.declared.records.Update.{Update}
use Rattle.channel_map.specs.declared.edge.Edge.{Edge}
use Rattle.channel_map.specs.declared.nodes.Ends.{Ends}
use Rattle.channel_map.specs.declared.nodes.MapNodes.{MapNodes}
use Rattle.channel_map.specs.Edge.{IsGoodEdge}
use Rattle.channel_map.specs.Nodes.{AreNodesOf, ArePlaces, ends_of, named_ends}
use Rattle.view_build.specs.declared.known.Known.{Known}
use Rattle.view_build.specs.declared.open.Changes.{Changes}
use Rattle.view_build.specs.declared.open.Place.{Place}
use Rattle.view_build.specs.declared.view.ViewDir.{ViewDir}
use Rattle.view_build.specs.Built.{OpenDirection, named_direction}
use Rattle.view_build.specs.Disabled.{has_node}
use Rattle.view_build.specs.Given.{fields_at, no_fields}
use Rattle.view_build.specs.Known.{known_at, unknown}
use Rattle.view_build.specs.Merged.{below, from_dir, merged}
use Rattle.view_build.specs.Opened.{AreAffected, HasPlaces, IsPlaceOf, Opens, changed, is_usable, leaves, opened_by, opened_with, placed}
use Rattle.view_build.specs.Table.{moved_ends, named_places}

-- a direction between two ids
abbrev between : OpenDirection → List ℕ × List ℕ → OpenDirection
between o ends = record {
  dir = o.dir;
  source = ends.0;
  destination = ends.1;
  min = o.min;
  max = o.max;
  htlc_min = o.htlc_min;
  htlc_max = o.htlc_max;
  base = o.base;
  ppm = o.ppm;
  delay = o.delay;
  bias = o.bias;
}

named_placed : (ids : List (List ℕ)) (ends : Ends) (o : OpenDirection) → named_ends ids ends ≡ (o.source, o.destination) → named_direction ids (placed ends o) ≡ o
named_placed ids ends o is = ap (between o) is

named_one : (ids : List (List ℕ)) (ends : Ends) (o : OpenDirection) (old new : List ViewDir) → named_ends ids ends ≡ (o.source, o.destination) → (b : Bool)
    → new ≡ old ++ cons_option (option_map (placed ends) (cond b (Some o) None)) [] → map (named_direction ids) new ≡ map (named_direction ids) old ++ cons_option (cond b (Some o) None) []
named_one ids ends o old new same true is =
    ap (map (named_direction ids)) is ∙ map-append (named_direction ids) old (placed ends o ∷ []) ∙ ap (λ x. map (named_direction ids) old ++ x ∷ []) (named_placed ids ends o same)
named_one ids ends o old new same false is = ap (map (named_direction ids)) is ∙ map-append (named_direction ids) old []

places_one : (n : ℕ) (ends : Ends) (o : OpenDirection) (old new : List ViewDir) → HasPlaces n (placed ends o) → (b : Bool)
    → new ≡ old ++ cons_option (option_map (placed ends) (cond b (Some o) None)) [] → All (HasPlaces n) old → All (HasPlaces n) new
places_one n ends o old new at true is all = subst (All (HasPlaces n)) (sym is) (All-push (HasPlaces n) old (placed ends o) all at)
places_one n ends o old new at false is all = subst (All (HasPlaces n)) (sym (is ∙ append-nil old)) all

-- one more direction
pub opens_one : (ids : List (List ℕ)) (changes : Changes) (edge : Edge) (ends : Ends) (old new : List ViewDir) → IsGoodEdge edge → named_ends ids ends ≡ ends_of edge → ArePlaces (length ids) ends
    → new ≡ old ++ cons_option (option_map (placed ends) (opened_by changes edge)) [] → Opens ids (opened_by changes) (edge ∷ []) old new
opens_one ids changes edge ends old new good named at is =
    let fields = fields_at changes.given edge.dir in
    let o = changed fields (known_at changes.known edge.dir) (leaves changes.free_source edge) edge in
    let apart : ends.from ≢ ends.to = λ same. good.ends_differ
    (sym (ap (λ (p : List ℕ × List ℕ). p.0) named) ∙ ap (λ place. get_or ids place []) same ∙ ap (λ (p : List ℕ × List ℕ). p.1) named) in
    record {
      named = named_one ids ends o old new named (is_usable changes fields edge) is;
      places = places_one (length ids) ends o old new (record { from = at.from; to = at.to; apart = apart }) (is_usable changes fields edge) is;
    }

-- ---- the loops

below_yes : (dir : Direction) (e : Edge) (edges : List Edge) → is_lt (dir_order e.dir dir) ≡ true → below dir (e ∷ edges) ≡ e ∷ below dir edges
below_yes dir e edges less = ap (λ b. if b then e ∷ below dir edges else []) less

from_yes : (dir : Direction) (e : Edge) (edges : List Edge) → is_lt (dir_order e.dir dir) ≡ true → from_dir dir (e ∷ edges) ≡ from_dir dir edges
from_yes dir e edges less = ap (λ b. if b then from_dir dir edges else e ∷ edges) less

pub at_place : (created : List Edge) (next : ℕ) (e : Edge) → next < length created → e ≡ get_or created next e → drop next created ≡ e ∷ drop (next + 1) created
at_place created next e within is = drop_more created next e within ∙ ap (λ x. x ∷ drop (next + 1) created) (sym is)

pub below_more : (dir : Direction) (created : List Edge) (next : ℕ) (e : Edge) → next < length created → e ≡ get_or created next e → is_lt (dir_order e.dir dir) ≡ true
    → below dir (drop next created) ≡ e ∷ below dir (drop (next + 1) created)
below_more dir created next e within is less = ap (below dir) (at_place created next e within is) ∙ below_yes dir e (drop (next + 1) created) less

pub from_more : (dir : Direction) (created : List Edge) (next : ℕ) (e : Edge) → next < length created → e ≡ get_or created next e → is_lt (dir_order e.dir dir) ≡ true
    → from_dir dir (drop next created) ≡ from_dir dir (drop (next + 1) created)
from_more dir created next e within is less = ap (from_dir dir) (at_place created next e within is) ∙ from_yes dir e (drop (next + 1) created) less

-- the directions after one more
pub opens_more : (ids : List (List ℕ)) (rule : Edge → Option OpenDirection) (edges rest later : List Edge) (old new : List ViewDir) (all : List OpenDirection) → Opens ids rule edges old new → rest ≡ edges ++ later
    → map (named_direction ids) old ++ filter_map rule rest ≡ all → map (named_direction ids) new ++ filter_map rule later ≡ all
opens_more ids rule edges rest later old new all opens is before =
    let named = map (named_direction ids) in
    ap (λ xs. xs ++ filter_map rule later) opens.named ∙ append_assoc (named old) (filter_map rule edges) (filter_map rule later)
    ∙ ap (λ xs. named old ++ xs) (sym (filter_map-append rule edges later) ∙ ap (filter_map rule) (sym is)) ∙ before

-- ---- the directions of a map

module _ (nodes ids : List (List ℕ)) (moved : List ℕ) (named : named_places ids moved ≡ nodes) (within : All (λ place. place < length ids) moved) where
  pub long : length moved ≡ length nodes
  long = sym (length-map moved (λ place. get_or ids place [])) ∙ ap length named

  moved_place : (place : ℕ) → place < length nodes → get_or ids (get_or moved place 0) [] ≡ get_or nodes place []
  moved_place place below = sym (get_or-map (λ p. get_or ids p []) moved place 0 [] (omega (arith, long, below))) ∙ ap (λ list. get_or list place []) named

  pub moved_named : (ends : Ends) → ArePlaces (length nodes) ends → named_ends ids (moved_ends moved ends) ≡ named_ends nodes ends
  moved_named ends at = rw (moved_place ends.from at.from, moved_place ends.to at.to) refl

  pub moved_within : (ends : Ends) → ArePlaces (length nodes) ends → ArePlaces (length ids) (moved_ends moved ends)
  moved_within ends at = record { from = within ends.from 0 (omega (arith, long, at.from)); to = within ends.to 0 (omega (arith, long, at.to)) }

pub as_many : (edges : List Edge) (nodes : MapNodes) → AreNodesOf edges nodes → length nodes.ends.items ≡ length edges
as_many edges nodes are = sym (length-map nodes.ends.items (named_ends nodes.ids.items)) ∙ ap length are.named ∙ length-map edges ends_of

pub nodes_at : (edges : List Edge) (nodes : MapNodes) (i : ℕ) (edge : Edge) (ends : Ends) → AreNodesOf edges nodes → i < length edges → edge ≡ get_or edges i edge → ends ≡ get_or nodes.ends.items i ends
    → named_ends nodes.ids.items ends ≡ ends_of edge
nodes_at edges nodes i edge ends are below edge_is ends_is =
    let long = as_many edges nodes are in
    ap (named_ends nodes.ids.items) ends_is
    ∙ sym (get_or-map (named_ends nodes.ids.items) nodes.ends.items i ends (ends_of edge) (omega (arith, long, below)))
    ∙ ap (λ list. get_or list i (ends_of edge)) are.named
    ∙ get_or-map ends_of edges i edge (ends_of edge) below ∙ ap ends_of (sym edge_is)

pub merged_more : (edges created : List Edge) (i : ℕ) (e : Edge) (next : List Edge) → i < length edges → e ≡ get_or edges i e → next ≡ from_dir e.dir created
    → merged (drop i edges) created ≡ below e.dir created ++ e ∷ merged (drop (i + 1) edges) next
merged_more edges created i e next below_all is rest =
    ap (λ list. merged list created) (at_place edges i e below_all is) ∙ ap (λ list. below e.dir created ++ e ∷ merged (drop (i + 1) edges) list) (sym rest)

-- ---- directions of which nothing is said, and disabled ends

pub plain : (changes : Changes) (edge : Edge) (fields : Update) (known : Known) → AreAffected changes → list_any (same_dir edge.dir) changes.affected.items ≡ false → fields ≡ no_fields edge.dir → known ≡ unknown
    → opened_with changes fields known edge ≡ opened_by changes edge
plain changes edge fields known are none fields_are known_is =
    ap (λ (u : Update). opened_with changes u known edge) (fields_are ∙ sym (are.given edge.dir none))
    ∙ ap (λ (n : Known). opened_with changes (fields_at changes.given edge.dir) n edge) (known_is ∙ sym (are.known edge.dir none))

pub within_marks : (changes : Changes) (ids : List (List ℕ)) (marks : List Bool) (moved : List ℕ) → marks ≡ map (has_node changes.disabled) ids → All (λ place. place < length ids) moved → All (λ place. place < length marks) moved
within_marks changes ids marks moved is all k d within = omega (arith, all k d within, ap length is, length-map ids (has_node changes.disabled))

pub marked_ends : (changes : Changes) (edge : Edge) (ids : List (List ℕ)) (marks : List Bool) (ends : Ends) (place : Place) → marks ≡ map (has_node changes.disabled) ids → named_ends ids ends ≡ ends_of edge → ArePlaces (length ids) ends
    → place.source_disabled ≡ get_or marks ends.from false → place.destination_disabled ≡ get_or marks ends.to false → IsPlaceOf changes edge place
marked_ends changes edge ids marks ends place is named at source destination = record {
  source = source ∙ mark ends.from at.from ∙ ap (λ (p : List ℕ × List ℕ). has_node changes.disabled p.0) named;
  destination = destination ∙ mark ends.to at.to ∙ ap (λ (p : List ℕ × List ℕ). has_node changes.disabled p.1) named;
}
  where
    mark : (p : ℕ) → p < length ids → get_or marks p false ≡ has_node changes.disabled (get_or ids p [])
    mark p within = ap (λ ms. get_or ms p false) is ∙ get_or-map (has_node changes.disabled) ids p [] false within
