-- The places of nodes: among the nodes found, with one more of them, and among the nodes in order.
use Rattle.std.proofs.Common.{◌≡◌, ℕ, suc, ◌+◌, ◌<◌, ◌≤◌, List, [], ◌∷◌, ◌++◌, length, map, take, get_or, Bool, true, false, All, if◌then◌else◌, refl, sym, ap, subst, ◌∙◌, arith}
use Rattle.std.specs.Prelude.{bytes_eq}
use Rattle.std.specs.List.{Contains, list_any}
use Rattle.std.specs.List.Sorted.{IsPermutation}
use Rattle.std.proofs.lemmas.List.{get_or-map, get_or_append_left, length-append, length-map, map-append, take_more}
use Rattle.std.proofs.lemmas.Cmp.{nat_list_eq_equiv}
use Rattle.std.proofs.lemmas.List.Elements.{All-map, Contains-get_or}
use Rattle.std.proofs.lemmas.List.Sorted.{Contains-permutation}
use Rattle.std.proofs.lemmas.Map.Views.{list_any-from_Contains}
use Rattle.channel_map.specs.declared.edge.Edge.{Edge}
use Rattle.channel_map.specs.declared.nodes.Ends.{Ends}
use Rattle.channel_map.specs.Nodes.{ArePlaces, ends_at, id_at, named_ends}
use Rattle.channel_map.specs.Reading.{with_ends, with_node}

abbrev pair : List ℕ → List ℕ → List ℕ × List ℕ
pair a b = (a, b)

both : (a b c d : List ℕ) → a ≡ c → b ≡ d → pair a b ≡ pair c d
both a b c d e f = ap (λ x. pair x b) e ∙ ap (pair c) f

-- ---- one more node

pub one_more : (nodes : List (List ℕ)) (node : List ℕ) → length (with_node nodes node) ≤ length nodes + 1
one_more nodes node = by (list_any (bytes_eq node) nodes)
  where
    by : (b : Bool) → length (if b then nodes else nodes ++ node ∷ []) ≤ length nodes + 1
    by true = omega arith
    by false = omega (arith, length-append nodes (node ∷ []))

pub no_fewer : (nodes : List (List ℕ)) (node : List ℕ) → length nodes ≤ length (with_node nodes node)
no_fewer nodes node = by (list_any (bytes_eq node) nodes)
  where
    by : (b : Bool) → length nodes ≤ length (if b then nodes else nodes ++ node ∷ [])
    by true = omega arith
    by false = omega (arith, length-append nodes (node ∷ []))

pub kept : (nodes : List (List ℕ)) (node : List ℕ) (i : ℕ) → i < length nodes → get_or (with_node nodes node) i [] ≡ get_or nodes i []
kept nodes node i within = by (list_any (bytes_eq node) nodes)
  where
    by : (b : Bool) → get_or (if b then nodes else nodes ++ node ∷ []) i [] ≡ get_or nodes i []
    by true = refl
    by false = get_or_append_left nodes (node ∷ []) [] i within

-- the first end, and then the second
module _ (first second : List (List ℕ)) where
  pub added_names : (source destination : List ℕ) (from to : ℕ) → second ≡ with_node first destination → get_or first from [] ≡ source → from < length first → get_or second to [] ≡ destination
      → named_ends second (record { from = from; to = to }) ≡ pair source destination
  added_names source destination from to is named within last = both _ _ _ _ (ap (λ nodes. get_or nodes from []) is ∙ kept first destination from within ∙ named) last

  pub added_places : (destination : List ℕ) (from to : ℕ) → second ≡ with_node first destination → from < length first → to < length second → ArePlaces (length second) (record { from = from; to = to })
  added_places destination from to is within last = record { from = omega (arith, ap length is, no_fewer first destination, within); to = last }

-- ---- the ends of one more direction

module _ (nodes : List (List ℕ)) (edge : Edge) where
  pub two_more : length (with_ends nodes edge) ≤ length nodes + 2
  two_more = omega (arith, one_more nodes edge.source, one_more (with_node nodes edge.source) edge.destination)

  still : (i : ℕ) → i < length nodes → get_or (with_ends nodes edge) i [] ≡ get_or nodes i []
  still i within = kept (with_node nodes edge.source) edge.destination i (omega (arith, no_fewer nodes edge.source, within)) ∙ kept nodes edge.source i within

  further : (i : ℕ) → i < length nodes → i < length (with_ends nodes edge)
  further i within = omega (arith, no_fewer nodes edge.source, no_fewer (with_node nodes edge.source) edge.destination, within)

  pub still_named : (list : List Ends) → All (ArePlaces (length nodes)) list → map (named_ends (with_ends nodes edge)) list ≡ map (named_ends nodes) list
  still_named [] all = refl
  still_named (ends ∷ list) all =
      let at = all 0 ends (omega arith) in
      ap (λ x. x ∷ map (named_ends (with_ends nodes edge)) list) (both _ _ _ _ (still ends.from at.from) (still ends.to at.to))
      ∙ ap (λ l. named_ends nodes ends ∷ l) (still_named list (λ k d within. all (suc k) d (omega (arith, within))))

  pub still_within : (list : List Ends) → All (ArePlaces (length nodes)) list → All (ArePlaces (length (with_ends nodes edge))) list
  still_within list all k d within = let at = all k d within in record { from = further (get_or list k d).from at.from; to = further (get_or list k d).to at.to }

-- ---- the nodes in order

pub all_among : (before sorted : List (List ℕ)) → IsPermutation before sorted → All (Contains sorted) before
all_among before sorted moved k d within = Contains-permutation before sorted (get_or before k d) moved (Contains-get_or before k d within)

module _ (sorted before : List (List ℕ)) (places : List ℕ) (is : map (id_at sorted) places ≡ before) where
  pub as_many : length places ≡ length before
  as_many = sym (length-map places (id_at sorted)) ∙ ap length is

  moved_name : (i : ℕ) → i < length before → get_or sorted (get_or places i 0) [] ≡ get_or before i []
  moved_name i within = sym (get_or-map (id_at sorted) places i 0 [] (omega (arith, as_many, within))) ∙ ap (λ l. get_or l i []) is

  pub moved_names : (list : List Ends) → All (ArePlaces (length before)) list → map (named_ends sorted) (map (ends_at places) list) ≡ map (named_ends before) list
  moved_names [] all = refl
  moved_names (ends ∷ list) all =
      let at = all 0 ends (omega arith) in
      ap (λ x. x ∷ map (named_ends sorted) (map (ends_at places) list)) (both _ _ _ _ (moved_name ends.from at.from) (moved_name ends.to at.to))
      ∙ ap (λ l. named_ends before ends ∷ l) (moved_names list (λ k d within. all (suc k) d (omega (arith, within))))

  pub moved_within : (list : List Ends) → All (λ place. place < length sorted) places → All (ArePlaces (length before)) list → All (ArePlaces (length sorted)) (map (ends_at places) list)
  moved_within list places_within all = All-map (ArePlaces (length sorted)) (ends_at places) list (λ k d within.
      (let at = all k d within in
      record {
        from = places_within (get_or list k d).from 0 (omega (arith, as_many, at.from));
        to = places_within (get_or list k d).to 0 (omega (arith, as_many, at.to));
      }))

pub moved_more : (places : List ℕ) (list : List Ends) (i : ℕ) (d : Ends) → i < length list → map (ends_at places) (take (i + 1) list) ≡ map (ends_at places) (take i list) ++ ends_at places (get_or list i d) ∷ []
moved_more places list i d within = ap (map (ends_at places)) (take_more list i d within) ∙ map-append (ends_at places) (take i list) (get_or list i d ∷ [])

-- a node that stands at a place is not added
pub there : (nodes : List (List ℕ)) (node : List ℕ) (place : ℕ) → place < length nodes → get_or nodes place [] ≡ node → with_node nodes node ≡ nodes
there nodes node place within is =
    ap (λ b. if b then nodes else nodes ++ node ∷ []) (list_any-from_Contains nat_list_eq_equiv node nodes (subst (Contains nodes) is (Contains-get_or nodes place [] within)))
