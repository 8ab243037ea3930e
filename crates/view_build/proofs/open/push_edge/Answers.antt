use Rattle.std.proofs.Common.{[], ◌++◌, sym, ap, subst, ◌∙◌}
use Rattle.std.specs.Prelude.{option_map}
use Rattle.std.specs.List.{cons_option}
use Rattle.layer.specs.Update.{IsGoodUpdate}
use Rattle.view_build.specs.Opened.{placed}
use Rattle.view_build.proofs.Opening.{plain}
use Rattle.view_build.proofs.open.push_edge.Goals as goal

pub push_with-requires-clause-fields : goal.push_with-requires-clause-fields
push_with-requires-clause-fields c =
    let dir = c.args.edge.now.dir in
    let none = sym c.requires.affected ∙ c.if-affected.false in
    subst IsGoodUpdate (c.requires.all.given dir none ∙ sym c.no_fields.ensures) (c.requires.changes dir)

pub returns-clause-dirs : goal.returns-clause-dirs
returns-clause-dirs c =
    let edge = c.args.edge.now in
    let none = sym c.requires.affected ∙ c.if-affected.false in
    c.in_ok-push_with.ensures.dirs
    ∙ ap (λ o. c.args.dirs.now.items ++ cons_option (option_map (placed c.args.place.ends) o) []) (plain c.args.changes.now edge c.no_fields.result c.unknown.result c.requires.all none c.no_fields.ensures c.unknown.ensures)
