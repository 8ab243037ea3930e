-- The rule of a direction, from what maps of directions say.
use Rattle.std.proofs.Common.{◌≡◌, ℕ, ◌≤◌, List, [], ◌∷◌, Bool, true, false, cond, Option, Some, None, refl, sym, ap, ◌∙◌, arith}
use Rattle.std.specs.Prelude.{◌==◌, ◌&&◌, min, not, option_map, unwrap_or}
use Rattle.std.specs.List.{filter_map, find}
use Rattle.std.specs.Option.{option_or, option_and_then, is_some}
use Rattle.std.specs.Map.{lookup}
use Rattle.std.specs.BTreeMap.{BTreeMap, IsOrdered, get, is_at}
use Rattle.std.proofs.lemmas.Bool.Decides.{nat_tests}
use Rattle.plan_base.specs.declared.amount.TheConstants.{MAX}
use Rattle.plan_base.specs.Dir.{Direction, same_dir, dir_order}
use Rattle.channel_map.specs.declared.edge.Edge.{Edge}
use Rattle.channel_map.specs.Edge.{IsAscending, IsGoodEdge}
use Rattle.channel_map.specs.Listed.{edge_for}
use Rattle.channel_map.proofs.Ascending.{same_dir_equiv}
use Rattle.layer.specs.Layer.{LayerLists}
use Rattle.layer.specs.declared.records.Created.{Created}
use Rattle.layer.specs.declared.records.Constraint.{Constraint}
use Rattle.layer.specs.declared.records.Update.{Update}
use Rattle.view_build.specs.declared.open.Changes.{Changes}
use Rattle.view_build.specs.Built.{ViewSources, OpenDirection, direction_rule, is_free, is_open, open_direction}
use Rattle.view_build.specs.Channels.{channel_at, created_for, is_enabled}
use Rattle.view_build.specs.Given.{fields_at, fields_of, no_fields}
use Rattle.view_build.specs.Opened.{AreChangesOf, AreCreated, opened, opened_by}
use Rattle.view_build.specs.Rules.{all_constraints, changed_edge, created_edge, created_in, first_created, given, least_bound}
use Rattle.view_build.proofs.Bounds.{least_min}
use Rattle.view_build.proofs.Dirs.{equal_is_same, same_is_equal}
use Rattle.view_build.proofs.Filtered.{found_filtered, still_sorted}
use Rattle.view_build.proofs.Merging.{AreApart}

pub edge_found : (dir : Direction) (edges : List Edge) → edge_for dir edges ≡ find (λ (e : Edge). same_dir e.dir dir) edges
edge_found dir [] = refl
edge_found dir (e ∷ edges) = ap (cond (same_dir e.dir dir) (Some e)) (edge_found dir edges)

-- ---- an opened direction

max_is : (dir : Direction) (capacity : ℕ) (cs : List Constraint) → capacity ≤ MAX → min capacity (least_bound dir MAX cs) ≡ least_bound dir capacity cs
max_is dir capacity cs few = sym (least_min dir capacity MAX cs) ∙ ap (λ amount. least_bound dir amount cs) (omega arith)

pub opened_same : (sources : ViewSources) (changes : Changes) → AreChangesOf sources changes → (edge : Edge) → IsGoodEdge edge → opened_by changes edge ≡ opened sources edge
opened_same sources changes are edge good =
    rw (are.given edge.dir, are.known edge.dir, are.disabled edge.source, are.disabled edge.destination, are.free edge, max_is edge.dir edge.capacity (all_constraints sources.layers) good.capacity_fits) refl

pub opened_dir : (sources : ViewSources) (edge : Edge) (o : OpenDirection) → opened sources edge ≡ Some o → o.dir ≡ edge.dir
opened_dir sources edge o e =
    by (is_open sources (changed_edge sources.layers (is_free sources.ask edge) edge)) (open_direction sources (changed_edge sources.layers (is_free sources.ask edge) edge)) refl e
  where
    by : (b : Bool) (x : OpenDirection) → x.dir ≡ edge.dir → cond b (Some x) None ≡ Some o → o.dir ≡ edge.dir
    by true x is e = let same : x ≡ o = cc in ap (λ (d : OpenDirection). d.dir) (sym same) ∙ is
    by false x is e = absurd (cc)

-- ---- a created direction

passes : {X : Type 0} (test : X → Bool) (xs : List X) (x : X) → find test xs ≡ Some x → test x ≡ true
passes test [] x e = absurd (cc)
passes test (y ∷ xs) x e = by (passes test xs x) (test y) refl e
  where
    by : (find test xs ≡ Some x → test x ≡ true) → (b : Bool) → test y ≡ b → cond b (Some y) (find test xs) ≡ Some x → test x ≡ true
    by rest true is e = let same : y ≡ x = cc in rw (← same) is
    by rest false is e = rest e

created_scid : (scid : ℕ) (layers : List LayerLists) (c : Created) → first_created scid layers ≡ Some c → c.scid ≡ scid
created_scid scid [] c e = absurd (cc)
created_scid scid (lists ∷ layers) c e = by (created_scid scid layers c) (created_in scid lists) refl e
  where
    by : (first_created scid layers ≡ Some c → c.scid ≡ scid) → (o : Option Created) → created_in scid lists ≡ o → option_or o (first_created scid layers) ≡ Some c → c.scid ≡ scid
    by rest None is e = rest e
    by rest (Some d) is e =
        let same : d ≡ c = cc in
        let test : (c.scid == scid) ≡ true = rw (← same) (passes (λ (x : Created). x.scid == scid) lists.created d is) in
        grind (arith, nat_tests)

enabled_or : (o : Option Bool) → unwrap_or o false ≡ is_enabled o
enabled_or None = refl
enabled_or (Some b) = refl

-- a created direction that no layer enables
unused : (sources : ViewSources) (dir : Direction) (c : Created) → c.scid ≡ dir.scid → is_enabled (given (λ change. change.enabled) dir sources.layers) ≡ false
    → opened sources (created_edge dir.side c) ≡ None
unused sources dir c same off =
    let at : record { scid = c.scid; side = dir.side } ≡ dir = ap (λ scid. record { scid = scid; side = dir.side }) same in
    let disabled : unwrap_or (given (λ change. change.enabled) (record { scid = c.scid; side = dir.side }) sources.layers) false ≡ false = rw at (enabled_or (given (λ change. change.enabled) dir sources.layers) ∙ off) in
    rw disabled refl

module _ (sources : ViewSources) (map : BTreeMap Direction Update) (channels : BTreeMap ℕ Created)
    (fields : (dir : Direction) → fields_at map dir ≡ fields_of dir sources.layers) (first : (scid : ℕ) → channel_at channels scid ≡ first_created scid sources.layers)
    (ordered : IsOrdered dir_order map) where
  abbrev rule : Direction × Update → Option Edge
  rule e = created_for channels sources.channels e.0 e.1

  created_dir : (e : Direction × Update) (edge : Edge) → rule e ≡ Some edge → edge.dir ≡ e.0
  created_dir e edge is = by (is_enabled e.1.enabled && not (is_some (edge_for e.0 sources.channels))) (channel_at channels e.0.scid) refl is
    where
      by : (b : Bool) (o : Option Created) → channel_at channels e.0.scid ≡ o → cond b (option_map (created_edge e.0.side) o) None ≡ Some edge → edge.dir ≡ e.0
      by true (Some c) at h =
          let same : created_edge e.0.side c ≡ edge = cc in
          ap (λ (x : Edge). x.dir) (sym same) ∙ ap (λ scid. record { scid = scid; side = e.0.side }) (created_scid e.0.scid sources.layers c (sym (first e.0.scid) ∙ at))
      by true None at h = absurd (cc)
      by false o at h = absurd (cc)

  abbrev pub created_list : List Edge
  created_list = filter_map rule map.entries

  created_up : IsAscending created_list
  created_up = still_sorted (λ (e : Direction × Update). e.0) (λ (e : Edge). e.dir) rule created_dir map.entries ordered

  entry_found : (dir : Direction) (es : List (Direction × Update)) → lookup (is_at (dir_order dir)) es ≡ option_map (λ (e : Direction × Update). e.1) (find (λ (e : Direction × Update). same_dir e.0 dir) es)
  entry_found dir [] = refl
  entry_found dir (e ∷ es) =
      ap (λ b. cond b (Some e.1) (lookup (is_at (dir_order dir)) es)) (equal_is_same dir e.0 ∙ same_dir_equiv.symm dir e.0) ∙ by (entry_found dir es) (same_dir e.0 dir)
    where
      by : lookup (is_at (dir_order dir)) es ≡ option_map (λ (e : Direction × Update). e.1) (find (λ (e : Direction × Update). same_dir e.0 dir) es) → (b : Bool)
          → cond b (Some e.1) (lookup (is_at (dir_order dir)) es) ≡ option_map (λ (e : Direction × Update). e.1) (cond b (Some e) (find (λ (e : Direction × Update). same_dir e.0 dir) es))
      by rest true = refl
      by rest false = rest

  created_found : (dir : Direction) → edge_for dir created_list ≡ option_and_then (created_for channels sources.channels dir) (get dir_order map dir)
  created_found dir =
      edge_found dir created_list ∙ found_filtered (λ (e : Direction × Update). e.0) (λ (e : Edge). e.dir) rule created_dir dir map.entries ordered
      ∙ by (find (λ (e : Direction × Update). same_dir e.0 dir) map.entries) refl ∙ ap (option_and_then (created_for channels sources.channels dir)) (sym (entry_found dir map.entries))
    where
      by : (o : Option (Direction × Update)) → find (λ (e : Direction × Update). same_dir e.0 dir) map.entries ≡ o
          → option_and_then rule o ≡ option_and_then (created_for channels sources.channels dir) (option_map (λ (e : Direction × Update). e.1) o)
      by None is = refl
      by (Some e) is = rw (same_is_equal e.0 dir (passes (λ (x : Direction × Update). same_dir x.0 dir) map.entries e is)) refl

  created_apart : AreApart sources.channels created_list
  created_apart dir some = created_found dir ∙ by (get dir_order map dir)
    where
      by : (o : Option Update) → option_and_then (created_for channels sources.channels dir) o ≡ None
      by None = refl
      by (Some f) = rw some (off (is_enabled f.enabled) (option_map (created_edge dir.side) (channel_at channels dir.scid)))
        where
          off : (b : Bool) (o : Option Edge) → cond (b && false) o None ≡ None
          off true o = refl
          off false o = refl

  -- a direction that no layer enables
  none_enabled : (dir : Direction) → is_enabled (given (λ change. change.enabled) dir sources.layers) ≡ false
      → option_and_then (opened sources) (option_map (created_edge dir.side) (first_created dir.scid sources.layers)) ≡ None
  none_enabled dir off = by (first_created dir.scid sources.layers) refl
    where
      by : (o : Option Created) → first_created dir.scid sources.layers ≡ o → option_and_then (opened sources) (option_map (created_edge dir.side) o) ≡ None
      by None is = refl
      by (Some c) is = unused sources dir c (created_scid dir.scid sources.layers c is) off

  step : (dir : Direction) → edge_for dir sources.channels ≡ None → (o : Option Update) → get dir_order map dir ≡ o
      → option_and_then (opened sources) (option_and_then (created_for channels sources.channels dir) o)
      ≡ option_and_then (opened sources) (option_map (created_edge dir.side) (first_created dir.scid sources.layers))
  step dir lacks None is =
      let off = ap (λ (u : Update). is_enabled u.enabled) (sym (fields dir)) ∙ ap (λ o. is_enabled (unwrap_or o (no_fields dir)).enabled) is in
      sym (none_enabled dir off)
  step dir lacks (Some f) is = by (is_enabled f.enabled) refl
    where
      same : is_enabled (given (λ change. change.enabled) dir sources.layers) ≡ is_enabled f.enabled
      same = ap (λ (u : Update). is_enabled u.enabled) (sym (fields dir)) ∙ ap (λ o. is_enabled (unwrap_or o (no_fields dir)).enabled) is

      by : (b : Bool) → is_enabled f.enabled ≡ b
          → option_and_then (opened sources) (created_for channels sources.channels dir f) ≡ option_and_then (opened sources) (option_map (created_edge dir.side) (first_created dir.scid sources.layers))
      by true e = ap (option_and_then (opened sources)) (rw (e, lacks) (ap (option_map (created_edge dir.side)) (first dir.scid)))
      by false e = let none : created_for channels sources.channels dir f ≡ None = rw e refl in ap (option_and_then (opened sources)) none ∙ sym (none_enabled dir (same ∙ e))

  ruled : (dir : Direction) → option_and_then (opened sources) (option_or (edge_for dir sources.channels) (edge_for dir created_list)) ≡ direction_rule sources dir
  ruled dir = by (edge_for dir sources.channels) refl
    where
      by : (o : Option Edge) → edge_for dir sources.channels ≡ o
          → option_and_then (opened sources) (option_or o (edge_for dir created_list)) ≡ option_and_then (opened sources) (option_or o (option_map (created_edge dir.side) (first_created dir.scid sources.layers)))
      by (Some e) is = refl
      by None is = ap (option_and_then (opened sources)) (created_found dir) ∙ step dir is (get dir_order map dir) refl

  pub are_created : AreCreated sources created_list
  are_created = record { ascending = created_up; apart = created_apart; ruled = ruled }
