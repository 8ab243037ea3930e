use Rattle.std.proofs.Common.{sym, ap, ◌∙◌, arith}
use Rattle.std.proofs.lemmas.List.{get_or_default}
use Rattle.plan_base.specs.Dir.{Direction, same_dir}
use Rattle.view_build.proofs.Walking.{here, not_there}
use Rattle.view_build.proofs.affected.is_at.Goals as goal

pub returns-then-at-dirs : goal.returns-then-at-dirs
returns-then-at-dirs c =
    let dirs = c.args.dirs.now in
    let at = c.args.at in
    let dir = c.args.dir in
    let within = c.if-at-dirs.true in
    let is = c.index-dirs-at.is ∙ get_or_default dirs at c.index-dirs-at.result dir within in
    c.eq.ensures ∙ ap (λ (x : Direction). same_dir x dir) is ∙ here dirs at dir c.requires.ascend c.requires.passed within (c.requires.stops within)

pub returns : goal.returns
returns c = sym (not_there c.args.dirs.now c.args.at c.args.dir c.requires.ascend c.requires.passed (omega arith))
