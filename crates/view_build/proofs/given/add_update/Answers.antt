use Rattle.std.proofs.Common.{ap, sym, ◌∙◌, subst}
use Rattle.layer.specs.Update.{IsGoodUpdate}
use Rattle.plan_base.specs.Dir.{same_dir}
use Rattle.view_build.specs.Given.{no_fields, with_update, fields_at}
use Rattle.view_build.proofs.Maps.{changed_by, either}
use Rattle.view_build.proofs.Fields.{good_updated}
use Rattle.view_build.proofs.given.add_update.Goals as goal

pub returns-clause-ok : goal.returns-clause-ok
returns-clause-ok c dir =
    changed_by no_fields (λ before. with_update before c.args.change.now) c.args.map.now c.insert.new.self c.args.change.now.dir c.with_update.result
    (c.with_update.ensures ∙ ap (λ before. with_update before c.args.change.now) c.fields_at-before.ensures) c.in_ok-insert.ensures.updates dir

pub returns-clause-good : goal.returns-clause-good
returns-clause-good c dir =
    let before = fields_at c.args.map.now dir in
    let good = c.requires.good dir in
    subst IsGoodUpdate (sym (returns-clause-ok c dir))
    (either IsGoodUpdate (same_dir c.args.change.now.dir dir) (with_update before c.args.change.now) before (good_updated before c.args.change.now good c.requires.good_change) good)
