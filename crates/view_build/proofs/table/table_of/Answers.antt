use Rattle.std.proofs.Common.{◌≡◌, ◌<◌, List, length, get_or, IfOk, sym, ap, subst, ◌∙◌, arith}
use Rattle.std.specs.Prelude.{All}
use Rattle.std.specs.List.{Contains, flat_map}
use Rattle.std.proofs.lemmas.Bool.Decides.{nat_tests}
use Rattle.std.proofs.lemmas.List.Elements.{Contains-append_left, Contains-append_right, Contains-get_or}
use Rattle.channel_map.specs.declared.edge.Edge.{Edge}
use Rattle.view_build.specs.Table.{IsTable, edge_ends, named_places}
use Rattle.view_build.proofs.Tables.{has_source, has_destination, nothing}
use Rattle.view_build.proofs.table.table_of.Goals as goal

pub places_of-requires : goal.places_of-requires
places_of-requires c =
    let nodes = c.args.nodes.now in
    let ids = c.in_ok-ids.ensures in
    record {
      ascend = rw c.deref.ensures.value ids.ascend;
      few = rw c.deref.ensures.value (omega (arith, ids.few, c.requires.few));
      among = λ node h. subst (λ list. Contains list node) (sym c.deref.ensures.value) (ids.all node (Contains-append_left nodes (flat_map edge_ends c.args.created.now) node h));
    }

pub returns-then-is_empty : goal.returns-then-is_empty
returns-then-is_empty c =
    let none : length c.args.created.now ≡ 0 = grind (arith, nat_tests) in
    subst (λ (created : List Edge). IfOk c.unmoved.result (IsTable c.args.nodes.now created)) (sym (nothing c.args.created.now none)) c.unmoved.ensures

pub returns : goal.returns
returns c =
    let nodes = c.args.nodes.now in
    let created = c.args.created.now in
    let ids = c.in_ok-ids.ensures in
    let list = c.in_ok-ids.ids.items in
    let ends = flat_map edge_ends created in
    record {
      ascend = ids.ascend;
      few = omega (arith, ids.few, c.requires.few);
      named = ap (λ list. named_places list c.in_ok-moved.moved.items) (sym c.deref.ensures.value) ∙ c.in_ok-moved.ensures.named;
      within = subst (λ (list : _). All (λ place. place < length list) c.in_ok-moved.moved.items) c.deref.ensures.value c.in_ok-moved.ensures.within;
      ends = λ k d within.
          (let edge = get_or created k d in
          let among = Contains-get_or created k d within in
          record {
            source = ids.all edge.source (Contains-append_right nodes ends edge.source (has_source created edge among));
            destination = ids.all edge.destination (Contains-append_right nodes ends edge.destination (has_destination created edge among));
          });
    }
