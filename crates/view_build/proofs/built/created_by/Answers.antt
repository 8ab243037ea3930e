use Rattle.std.proofs.Common.{sym, ap, subst, ◌∙◌}
use Rattle.std.specs.List.{filter_map}
use Rattle.plan_base.specs.Dir.{Direction}
use Rattle.layer.specs.declared.records.Update.{Update}
use Rattle.view_build.specs.Channels.{created_for}
use Rattle.view_build.specs.Given.{fields_of}
use Rattle.view_build.specs.Rules.{first_created}
use Rattle.view_build.specs.Opened.{AreCreated}
use Rattle.view_build.proofs.Rules.{are_created}
use Rattle.view_build.proofs.built.created_by.Goals as goal

pub returns-clause-created : goal.returns-clause-created
returns-clause-created c sources channels_is layers_is =
    let given = c.args.given.now in
    let channels = c.in_ok-channels.channels in
    let list = c.in_ok-edges.ensures.edges ∙ ap (λ (m : _). filter_map (λ (e : Direction × Update). created_for channels m e.0 e.1) given.entries) (sym channels_is) in
    subst (AreCreated sources) (sym list)
    (are_created sources given channels (λ dir. c.requires dir ∙ ap (fields_of dir) (sym layers_is)) (λ scid. c.in_ok-channels.ensures.first scid ∙ ap (first_created scid) (sym layers_is)) c.in_ok-edges.ensures.ordered)
