use Rattle.std.proofs.Common.{◌+◌, ◌≤◌, List, [], length, refl, sym, ap, subst, ◌∙◌, arith}
use Rattle.std.specs.Prelude.{All, map as rename}
use Rattle.std.proofs.lemmas.List.Elements.{All-nil}
use Rattle.channel_map.specs.declared.edge.Edge.{Edge}
use Rattle.channel_map.specs.Edge.{IsAscending, IsGoodEdge}
use Rattle.channel_map.specs.Nodes.{AreNodesOf}
use Rattle.view_build.specs.declared.view.TheConstants.{DIRECTIONS_MAX}
use Rattle.view_build.specs.Built.{ViewSources, named_direction}
use Rattle.view_build.specs.Ends.{HasEnd}
use Rattle.view_build.specs.Merged.{merged}
use Rattle.view_build.specs.Opened.{HasPlaces, Opens, opened_by}
use Rattle.view_build.specs.Table.{IsTable}
use Rattle.view_build.proofs.Views.{all_opened, directions, good_dirs}
use Rattle.view_build.proofs.built.directions_of.Goals as goal

pub table_of-requires : goal.table_of-requires
table_of-requires c = record {
  ascend = rw c.deref.ensures.value c.nodes-nodes.ensures.ascend;
  few = omega (arith, c.nodes-nodes.ensures.few, ap length c.deref.ensures.value, ap length c.deref-2.ensures.value, c.in_ok-created.ensures.few, c.in_ok-given.ensures.few, ap length c.as_slice.ensures, c.requires.few);
}

pub open_all-requires : goal.open_all-requires
open_all-requires c =
    let nodes = c.nodes-nodes.result.now in
    let table = c.in_ok-table.table in
    record {
      changes = c.in_ok-changes.ensures.good;
      affected = c.in_ok-changes.ensures.affected;
      edges = subst (All IsGoodEdge) (sym c.dirs.ensures.list) c.dirs.ensures.good.good;
      ascend = subst IsAscending (sym c.dirs.ensures.list) c.dirs.ensures.good.ascending;
      nodes = subst (λ (edges : List Edge). AreNodesOf edges nodes) (sym c.dirs.ensures.list) c.nodes-nodes.ensures;
      created = subst (All IsGoodEdge) (sym c.deref-3.ensures.value) c.in_ok-created.ensures.good;
      table = subst (λ ids. IsTable ids c.deref-3.result.now table) c.deref.ensures.value
          (subst (λ (created : List Edge). IsTable c.deref.result.now created table) (c.deref-2.ensures.value ∙ sym c.deref-3.ensures.value) c.in_ok-table.ensures);
    }

pub number_dirs-requires : goal.number_dirs-requires
number_dirs-requires c =
    let table = c.in_ok-table.ensures in
    let ids = c.in_ok-table.table.ids.items in
    let places = c.in_ok-dirs.ensures.opens.places (All-nil (HasPlaces (length ids))) in
    record {
      ascend = rw c.deref-4.ensures.value table.ascend;
      few = rw c.deref-4.ensures.value table.few;
      good = rw c.deref-4.ensures.value (good_dirs (length ids) c.in_ok-dirs.dirs.items c.in_ok-dirs.ensures.good places);
    }

pub returns : goal.returns
returns c =
    let map = c.args.map.now in
    let created = c.in_ok-created.created.items in
    let changes = c.in_ok-changes.changes in
    let sources : ViewSources = record { channels = map; ask = c.args.snapshot.now.ask; layers = c.args.expanded.now.layers; held = c.args.snapshot.now.held } in
    let few : length map + length created ≤ DIRECTIONS_MAX =
    omega (arith, c.dirs.ensures.good.few, c.in_ok-created.ensures.few, c.in_ok-given.ensures.few, ap length c.as_slice.ensures, c.requires.few) in
    let ids = c.in_ok-table.table.ids.items in
    let dirs = c.in_ok-dirs.dirs.items in
    let edges = ap (λ edges. merged edges c.deref-3.result.now) c.dirs.ensures.list ∙ ap (merged map) c.deref-3.ensures.value in
    let opens : Opens ids (opened_by changes) (merged map created) [] dirs = subst (λ (edges : List Edge). Opens ids (opened_by changes) edges [] dirs) edges c.in_ok-dirs.ensures.opens in
    let opened = all_opened sources changes created ids dirs (c.in_ok-changes.ensures.changes sources refl refl refl) c.dirs.ensures.good.ascending
    (c.in_ok-created.ensures.created sources refl (sym c.as_slice-2.ensures)) c.dirs.ensures.good.good c.in_ok-created.ensures.good few opens in
    let n = c.in_ok-numbered.ensures in
    let is = c.deref-4.ensures.value in
    directions sources ids dirs opened c.in_ok-dirs.ensures.good c.in_ok-numbered.numbered.nodes.items c.in_ok-numbered.numbered.dirs.items n.ascend n.few
    (λ node end. n.all node (subst (λ list. HasEnd list dirs node) (sym is) end)) (subst (λ list. All (HasEnd list dirs) c.in_ok-numbered.numbered.nodes.items) is n.only)
    (n.dirs ∙ ap (λ list. rename (named_direction list) dirs) is) n.good
