-- The view from its directions.
use Rattle.std.proofs.Common.{◌≡◌, ℕ, zero, suc, ◌+◌, ◌*◌, ◌≤◌, ◌⊎◌, List, [], ◌∷◌, length, Bool, true, false, cond, Option, Some, None, refl, sym, ap, subst, ◌∙◌, arith}
use Rattle.std.specs.Prelude.{All, map, option_map, slice_index_or}
use Rattle.std.specs.List.{Contains, cons_option, filter_map, find}
use Rattle.std.specs.List.Sorted.{IsStrictlySortedBy}
use Rattle.std.specs.Option.{option_and_then}
use Rattle.std.specs.Ordering.{nat_cmp}
use Rattle.std.specs.Cmp.Lexicographic.{slice_cmp}
use Rattle.std.specs.declared.cmp.Ordering.TheVariants.{Less}
use Rattle.std.proofs.lemmas.List.{get_or_default, length-map}
use Rattle.std.proofs.lemmas.List.Elements.{All-contains, All-from_recursion, All-weaker, recursion_from_All}
use Rattle.std.proofs.lemmas.Map.Keys.{sorted_head, sorted_tail}
use Rattle.plan_base.specs.Dir.{same_dir, dir_order}
use Rattle.channel_map.specs.declared.edge.Edge.{Edge}
use Rattle.channel_map.specs.Edge.{IsAscending, IsGoodEdge}
use Rattle.channel_map.proofs.Ascending.{same_dir_equiv}
use Rattle.view_build.specs.declared.open.Changes.{Changes}
use Rattle.view_build.specs.declared.view.TheConstants.{DIRECTIONS_MAX}
use Rattle.view_build.specs.declared.view.ViewDir.{ViewDir}
use Rattle.layer.specs.Ask.{IsGoodAsk, asks_for}
use Rattle.layer.specs.declared.ask.TheConstants.{PARTS_MAX}
use Rattle.layer.specs.declared.ask.Auto.TheVariants.{LocalChans, SourceFree, NoMpp}
use Rattle.layer.specs.declared.ask.Asked.{Asked}
use Rattle.layer.specs.declared.ask.Asked.TheVariants.{Auto, Named}
use Rattle.layer.specs.Layer.{LayerLists}
use Rattle.auto_layers.specs.Expanded.{expanded_layers}
use Rattle.view_build.specs.View.{IsGoodView, IsGoodViewDir}
use Rattle.view_build.specs.Built.{ViewSources, OpenDirection, IsTouched, IsView, named_direction}
use Rattle.view_build.specs.Ends.{HasEnd, IsPlace}
use Rattle.view_build.specs.Merged.{merged}
use Rattle.view_build.specs.Opened.{AreChangesOf, AreCreated, AreDirections, HasPlaces, IsGoodOpen, IsOpened, Opens, opened, opened_by}
use Rattle.view_build.proofs.Each.{each_unmap, same_filtered}
use Rattle.view_build.proofs.Filtered.{found_filtered, still_sorted, less_apart}
use Rattle.view_build.proofs.Merging.{each_merged, itself, merged_edge, merged_length, merged_up}
use Rattle.view_build.proofs.Rules.{edge_found, opened_dir, opened_same}
use Rattle.view_build.proofs.Tables.{later}

filtered_length : {X Y : Type 0} (f : X → Option Y) (xs : List X) → length (filter_map f xs) ≤ length xs
filtered_length f [] = omega arith
filtered_length {Y} f (x ∷ xs) = by (filtered_length f xs) (f x)
  where
    by : length (filter_map f xs) ≤ length xs → (o : Option Y) → length (cons_option o (filter_map f xs)) ≤ suc (length xs)
    by rest None = omega arith
    by rest (Some y) = omega arith

-- the directions of a view from those of the map and the created ones
module _ (sources : ViewSources) (changes : Changes) (created : List Edge) (ids : List (List ℕ)) (dirs : List ViewDir)
    (are : AreChangesOf sources changes)
    (map_up : IsAscending sources.channels) (created_are : AreCreated sources created)
    (map_good : All IsGoodEdge sources.channels) (created_good : All IsGoodEdge created)
    (few : length sources.channels + length created ≤ DIRECTIONS_MAX)
    (opens : Opens ids (opened_by changes) (merged sources.channels created) [] dirs) where
  opens_ruled : map (named_direction ids) dirs ≡ filter_map (opened sources) (merged sources.channels created)
  opens_ruled = opens.named ∙ same_filtered IsGoodEdge (opened_by changes) (opened sources) (λ edge h. opened_same sources changes are edge h) (merged sources.channels created)
      (each_merged IsGoodEdge sources.channels created (recursion_from_All IsGoodEdge sources.channels map_good) (recursion_from_All IsGoodEdge created created_good))

  up : IsAscending (merged sources.channels created)
  up = merged_up sources.channels created map_up created_are.ascending created_are.apart

  pub all_opened : IsOpened sources (map (named_direction ids) dirs)
  all_opened = record {
    each = λ dir. ap (find (λ (o : OpenDirection). same_dir o.dir dir)) opens_ruled
        ∙ found_filtered (λ (e : Edge). e.dir) (λ (o : OpenDirection). o.dir) (opened sources) (opened_dir sources) dir (merged sources.channels created) up
        ∙ ap (option_and_then (opened sources)) (sym (edge_found dir (merged sources.channels created)) ∙ merged_edge sources.channels created created_are.apart dir) ∙ created_are.ruled dir;
    ascending = subst (λ list. IsStrictlySortedBy dir_order (map (λ (o : OpenDirection). o.dir) list)) (sym opens_ruled)
        (still_sorted (λ (e : Edge). e.dir) (λ (o : OpenDirection). o.dir) (opened sources) (opened_dir sources) (merged sources.channels created) up);
    few = omega (arith, ap length opens_ruled, filtered_length (opened sources) (merged sources.channels created), merged_length sources.channels created);
  }

pub few_expanded : (local : LayerLists) (asked : List Asked) (layers : List LayerLists) → length (expanded_layers local asked layers) ≤ length asked
few_expanded local [] layers = omega arith
few_expanded local (Auto LocalChans ∷ asked) layers = omega (arith, few_expanded local asked layers)
few_expanded local (Auto SourceFree ∷ asked) layers = omega (arith, few_expanded local asked layers)
few_expanded local (Auto NoMpp ∷ asked) layers = omega (arith, few_expanded local asked layers)
few_expanded local (Named name ∷ asked) [] = omega arith
few_expanded local (Named name ∷ asked) (lists ∷ layers) = omega (arith, few_expanded local asked layers)

-- a direction is found by itself
found_self : (list : List OpenDirection) (o : OpenDirection) → IsStrictlySortedBy dir_order (map (λ (x : OpenDirection). x.dir) list) → Contains list o
    → find (λ (x : OpenDirection). same_dir x.dir o.dir) list ≡ Some o
found_self [] o up (k, within, is) = absurd (omega arith)
found_self (x ∷ list) o up (zero, within, is) = rw (← is, itself x.dir) refl
found_self (x ∷ list) o up (suc k, within, is) =
    let above = each_unmap (λ d. dir_order x.dir d ≡ Less) (λ (y : OpenDirection). y.dir) list (sorted_head dir_order x.dir (map (λ (y : OpenDirection). y.dir) list) up) in
    let less : dir_order x.dir o.dir ≡ Less = ap (λ (y : OpenDirection). dir_order x.dir y.dir) (sym is) ∙ All-from_recursion (λ (y : OpenDirection). dir_order x.dir y.dir ≡ Less) list above k o (omega arith) in
    let apart : same_dir x.dir o.dir ≡ false = same_dir_equiv.symm x.dir o.dir ∙ less_apart x.dir o.dir less in
    rw apart (found_self list o (sorted_tail dir_order x.dir (map (λ (y : OpenDirection). y.dir) list) up) (k, omega arith, is))

-- what is found is there
there : {X : Type 0} (test : X → Bool) (xs : List X) (x : X) → find test xs ≡ Some x → Contains xs x
there test [] x e = absurd (cc)
there test (y ∷ xs) x e = by (there test xs x) (test y) e
  where
    by : (find test xs ≡ Some x → Contains xs x) → (b : Bool) → cond b (Some y) (find test xs) ≡ Some x → Contains (y ∷ xs) x
    by rest true e = (zero, omega arith, cc)
    by rest false e = later xs x y (rest e)

mapped : (ids : List (List ℕ)) (dirs : List ViewDir) (d : ViewDir) → Contains dirs d → Contains (map (named_direction ids) dirs) (named_direction ids d)
mapped ids [] d (k, within, is) = absurd (omega arith)
mapped ids (x ∷ dirs) d (zero, within, is) = (zero, omega arith, ap (named_direction ids) is)
mapped ids (x ∷ dirs) d (suc k, within, is) = later (map (named_direction ids) dirs) (named_direction ids d) (named_direction ids x) (mapped ids dirs d (k, omega arith, is))

pub record Unmapped (ids : List (List ℕ)) (dirs : List ViewDir) (o : OpenDirection) : Type 0 where
  pub direction : ViewDir
  pub among : Contains dirs direction
  pub is : named_direction ids direction ≡ o

unmapped : (ids : List (List ℕ)) (dirs : List ViewDir) (o : OpenDirection) → Contains (map (named_direction ids) dirs) o → Unmapped ids dirs o
unmapped ids [] o (k, within, is) = absurd (omega arith)
unmapped ids (x ∷ dirs) o (zero, within, is) = record { direction = x; among = (zero, omega arith, refl); is = is }
unmapped ids (x ∷ dirs) o (suc k, within, is) =
    let rest = unmapped ids dirs o (k, omega arith, is) in
    record { direction = rest.direction; among = later dirs rest.direction x rest.among; is = rest.is }

module _ (sources : ViewSources) (ids : List (List ℕ)) (dirs : List ViewDir) (are : IsOpened sources (map (named_direction ids) dirs)) (good : All IsGoodOpen dirs) where
  -- an end of a direction is touched
  touched : (node : List ℕ) → HasEnd ids dirs node → IsTouched sources node
  touched node end =
      let d = end.direction in
      record {
        dir = d.dir;
        is_end = record {
          direction = named_direction ids d;
          side = (All-contains IsGoodOpen dirs d good end.among).side;
          listed = sym (are.each d.dir) ∙ found_self (map (named_direction ids) dirs) (named_direction ids d) are.ascending (mapped ids dirs d end.among);
          ends = end.ends;
        };
      }

  -- what is touched is an end of a direction
  ends_touched : (node : List ℕ) → IsTouched sources node → HasEnd ids dirs node
  ends_touched node at =
      let o = at.is_end.direction in
      let found = unmapped ids dirs o (there (λ (x : OpenDirection). same_dir x.dir at.dir) (map (named_direction ids) dirs) o (are.each at.dir ∙ at.is_end.listed)) in
      record { direction = found.direction; among = found.among; ends = subst (λ (x : OpenDirection). (x.source ≡ node) ⊎ (x.destination ≡ node)) (sym found.is) at.is_end.ends }

  -- the same directions between the nodes that they touch
  pub directions : (nodes : List (List ℕ)) (renamed : List ViewDir) → IsStrictlySortedBy (slice_cmp nat_cmp) nodes → length nodes ≤ 2 * length dirs
      → ((node : List ℕ) → HasEnd ids dirs node → Contains nodes node) → All (HasEnd ids dirs) nodes
      → map (named_direction nodes) renamed ≡ map (named_direction ids) dirs → All (IsGoodViewDir (length nodes)) renamed → AreDirections sources nodes renamed
  directions nodes renamed ascend few all only same good_renamed =
      let long : length renamed ≡ length dirs = sym (length-map renamed (named_direction nodes)) ∙ ap length same ∙ length-map dirs (named_direction ids) in
      record {
        opened = subst (IsOpened sources) (sym same) are;
        good = good_renamed;
        ascend = ascend;
        few = omega (arith, long, few);
        only = All-weaker (HasEnd ids dirs) (IsTouched sources) touched nodes only;
        all = λ node at. all node (ends_touched node at);
      }

-- a direction with good amounts between two places
pub good_dirs : (n : ℕ) (dirs : List ViewDir) → All IsGoodOpen dirs → All (HasPlaces n) dirs → All (IsGoodViewDir n) dirs
good_dirs n dirs goods places k d within =
    let good = goods k d within in
    let at = places k d within in
    record {
      from_in = at.from;
      to_in = at.to;
      apart = at.apart;
      bounds = good.bounds;
      most = good.most;
      htlc_min = good.htlc_min;
      htlc_max = good.htlc_max;
      base = good.base;
      ppm = good.ppm;
      delay = good.delay;
      bias_low = good.bias_low;
      bias_high = good.bias_high;
    }

pub place_among : (nodes : List (List ℕ)) (node : List ℕ) (place : ℕ) → IsPlace nodes node place → Contains nodes node
place_among nodes node place at = (place, at.within, get_or_default nodes place node [] at.within ∙ at.is)

map_map : {X Y Z : Type 0} (f : X → Y) (g : Y → Z) (xs : List X) → map g (map f xs) ≡ map (λ x. g (f x)) xs
map_map f g [] = refl
map_map f g (x ∷ xs) = ap (λ rest. g (f x) ∷ rest) (map_map f g xs)

find_map : {X Y : Type 0} (f : X → Y) (test : Y → Bool) (xs : List X) → option_map f (find (λ x. test (f x)) xs) ≡ find test (map f xs)
find_map f test [] = refl
find_map {X} {Y} f test (x ∷ xs) = by (find_map f test xs) (test (f x))
  where
    by : option_map f (find (λ x. test (f x)) xs) ≡ find test (map f xs) → (b : Bool) → option_map f (cond b (Some x) (find (λ x. test (f x)) xs)) ≡ cond b (Some (f x)) (find test (map f xs))
    by rest true = refl
    by rest false = rest

-- the view of these directions, between these nodes
module _ (sources : ViewSources) (nodes : List (List ℕ)) (dirs : List ViewDir) (source destination maxparts : ℕ)
    (are : AreDirections sources nodes dirs)
    (source_is : IsPlace nodes sources.ask.source source) (destination_is : IsPlace nodes sources.ask.destination destination)
    (ask : IsGoodAsk sources.ask) (maxparts_is : maxparts ≡ cond (asks_for NoMpp sources.ask.layers) 1 sources.ask.maxparts) where
  dirs_up : IsStrictlySortedBy dir_order (map (λ (d : ViewDir). d.dir) dirs)
  dirs_up = subst (IsStrictlySortedBy dir_order) (map_map (named_direction nodes) (λ (o : OpenDirection). o.dir) dirs) are.opened.ascending

  some_parts : (one : Bool) (most : ℕ) → 1 ≤ most → 1 ≤ cond one 1 most
  some_parts true most h = omega arith
  some_parts false most h = h

  few_parts : (one : Bool) (most : ℕ) → most ≤ PARTS_MAX → cond one 1 most ≤ PARTS_MAX
  few_parts true most h = omega arith
  few_parts false most h = h

  pub good_view : IsGoodView (record { nodes = nodes; dirs = dirs; source = source; destination = destination; maxparts = maxparts })
  good_view = record {
    few_dirs = omega (arith, length-map dirs (named_direction nodes), are.opened.few);
    few_nodes = are.few;
    ascending = dirs_up;
    good = are.good;
    source_in = source_is.within;
    destination_in = destination_is.within;
    ends_differ = λ same. ask.apart (sym source_is.is ∙ ap (λ place. slice_index_or nodes place []) same ∙ destination_is.is);
    some_parts = rw maxparts_is (some_parts (asks_for NoMpp sources.ask.layers) sources.ask.maxparts ask.some_parts);
    few_parts = rw maxparts_is (few_parts (asks_for NoMpp sources.ask.layers) sources.ask.maxparts ask.few_parts);
  }

  pub is_view : IsView sources (record { nodes = nodes; dirs = dirs; source = source; destination = destination; maxparts = maxparts })
  is_view = record {
    each = λ dir _. find_map (named_direction nodes) (λ (o : OpenDirection). same_dir o.dir dir) dirs ∙ are.opened.each dir;
    ascending = dirs_up;
    nodes_ascend = are.ascend;
    touched = are.only;
    source_is = source_is.is;
    destination_is = destination_is.is;
    maxparts_is = maxparts_is;
  }
