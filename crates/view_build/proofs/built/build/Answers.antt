use Rattle.std.proofs.Common.{cond, length, sym, ap, subst, ◌∙◌, arith}
use Rattle.std.specs.List.{Contains}
use Rattle.std.proofs.lemmas.List.Elements.{All-contains}
use Rattle.layer.specs.declared.ask.Ask.{Ask}
use Rattle.layer.specs.declared.ask.Auto.TheVariants.{NoMpp}
use Rattle.layer.specs.Ask.{asks_for}
use Rattle.auto_layers.specs.LocalLayer.{local_lists}
use Rattle.view_build.specs.Built.{ViewSources, IsTouched, IsView, sources_of}
use Rattle.view_build.specs.Ends.{IsPlace}
use Rattle.view_build.specs.Opened.{AreDirections}
use Rattle.view_build.proofs.Views.{few_expanded, good_view, is_view, place_among}
use Rattle.view_build.proofs.built.build.Goals as goal

pub directions_of-requires-clause-few : goal.directions_of-requires-clause-few
directions_of-requires-clause-few c =
    let few = few_expanded (local_lists c.args.local.now) c.args.snapshot.now.ask.layers c.args.snapshot.now.layers in
    omega (arith, few, c.ask-ask.ensures.good.few_layers, ap length c.in_ok-expanded.ensures.layers)

pub returns-in-None-clause-err : goal.returns-in-None-clause-err
returns-in-None-clause-err c at =
    let snapshot = c.args.snapshot.now in
    let ask = snapshot.ask in
    let n = c.in_ok-nodes.field-0 in
    let are : AreDirections (sources_of c.args.map.now c.args.local.now snapshot) n.nodes.items n.dirs.items =
    subst (λ ls. AreDirections (record { channels = c.args.map.now; ask = ask; layers = ls; held = snapshot.held }) n.nodes.items n.dirs.items) c.in_ok-expanded.ensures.layers c.in_ok-nodes.ensures in
    let among = subst (λ ns. Contains ns ask.source) (sym c.deref.ensures.value) (are.all ask.source at) in
    c.in-None.ensures (subst (λ (a : Ask). Contains c.deref.result.now a.source) (sym c.ask-ask.ensures.value) among)

pub returns-in-None-find-clause-err : goal.returns-in-None-find-clause-err
returns-in-None-find-clause-err c =
    let snapshot = c.args.snapshot.now in
    let ask = snapshot.ask in
    let n = c.in_ok-nodes.field-0 in
    let sources : ViewSources = sources_of c.args.map.now c.args.local.now snapshot in
    let are : AreDirections sources n.nodes.items n.dirs.items =
    subst (λ ls. AreDirections (record { channels = c.args.map.now; ask = ask; layers = ls; held = snapshot.held }) n.nodes.items n.dirs.items) c.in_ok-expanded.ensures.layers c.in_ok-nodes.ensures in
    let source : IsPlace n.nodes.items ask.source c.in-Some.place =
    subst (λ ns. IsPlace ns ask.source c.in-Some.place) c.deref.ensures.value (subst (λ (a : Ask). IsPlace c.deref.result.now a.source c.in-Some.place) c.ask-ask.ensures.value c.in-Some.ensures) in
    let none = λ (at : IsTouched sources ask.destination).
    (let among = subst (λ ns. Contains ns ask.destination) (sym c.deref-2.ensures.value) (are.all ask.destination at) in
    c.in-None-find.ensures (subst (λ (a : Ask). Contains c.deref-2.result.now a.destination) (sym c.ask-ask.ensures.value) among)) in
    (All-contains (IsTouched sources) n.nodes.items ask.source are.only (place_among n.nodes.items ask.source c.in-Some.place source), none)

pub new-requires : goal.new-requires
new-requires c =
    let snapshot = c.args.snapshot.now in
    let ask = snapshot.ask in
    let n = c.in_ok-nodes.field-0 in
    let sources : ViewSources = sources_of c.args.map.now c.args.local.now snapshot in
    let are : AreDirections sources n.nodes.items n.dirs.items =
    subst (λ ls. AreDirections (record { channels = c.args.map.now; ask = ask; layers = ls; held = snapshot.held }) n.nodes.items n.dirs.items) c.in_ok-expanded.ensures.layers c.in_ok-nodes.ensures in
    let source : IsPlace n.nodes.items ask.source c.in-Some.place =
    subst (λ ns. IsPlace ns ask.source c.in-Some.place) c.deref.ensures.value (subst (λ (a : Ask). IsPlace c.deref.result.now a.source c.in-Some.place) c.ask-ask.ensures.value c.in-Some.ensures) in
    let destination : IsPlace n.nodes.items ask.destination c.in-Some-find.place =
    subst (λ ns. IsPlace ns ask.destination c.in-Some-find.place) c.deref-2.ensures.value
    (subst (λ (a : Ask). IsPlace c.deref-2.result.now a.destination c.in-Some-find.place) c.ask-ask.ensures.value c.in-Some-find.ensures) in
    let maxparts = c.maxparts_of-maxparts.ensures ∙ ap (λ one. cond one 1 c.ask-ask.result.now.maxparts) c.in_ok-expanded.ensures.single ∙ ap (λ (a : Ask). cond (asks_for NoMpp ask.layers) 1 a.maxparts) c.ask-ask.ensures.value in
    good_view sources n.nodes.items n.dirs.items c.in-Some.place c.in-Some-find.place c.maxparts_of-maxparts.result are source destination c.ask-ask.ensures.good maxparts

pub returns-clause-ok : goal.returns-clause-ok
returns-clause-ok c =
    let snapshot = c.args.snapshot.now in
    let ask = snapshot.ask in
    let n = c.in_ok-nodes.field-0 in
    let sources : ViewSources = sources_of c.args.map.now c.args.local.now snapshot in
    let are : AreDirections sources n.nodes.items n.dirs.items =
    subst (λ ls. AreDirections (record { channels = c.args.map.now; ask = ask; layers = ls; held = snapshot.held }) n.nodes.items n.dirs.items) c.in_ok-expanded.ensures.layers c.in_ok-nodes.ensures in
    let source : IsPlace n.nodes.items ask.source c.in-Some.place =
    subst (λ ns. IsPlace ns ask.source c.in-Some.place) c.deref.ensures.value (subst (λ (a : Ask). IsPlace c.deref.result.now a.source c.in-Some.place) c.ask-ask.ensures.value c.in-Some.ensures) in
    let destination : IsPlace n.nodes.items ask.destination c.in-Some-find.place =
    subst (λ ns. IsPlace ns ask.destination c.in-Some-find.place) c.deref-2.ensures.value
    (subst (λ (a : Ask). IsPlace c.deref-2.result.now a.destination c.in-Some-find.place) c.ask-ask.ensures.value c.in-Some-find.ensures) in
    let maxparts = c.maxparts_of-maxparts.ensures ∙ ap (λ one. cond one 1 c.ask-ask.result.now.maxparts) c.in_ok-expanded.ensures.single ∙ ap (λ (a : Ask). cond (asks_for NoMpp ask.layers) 1 a.maxparts) c.ask-ask.ensures.value in
    subst (IsView sources) (sym c.new.ensures.value) (is_view sources n.nodes.items n.dirs.items c.in-Some.place c.in-Some-find.place c.maxparts_of-maxparts.result are source destination c.ask-ask.ensures.good maxparts)
