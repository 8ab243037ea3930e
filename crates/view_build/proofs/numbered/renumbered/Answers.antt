use Rattle.std.proofs.Common.{◌<◌, length, ap, ◌∙◌, arith}
use Rattle.view_build.specs.Ranked.{with_ranks}
use Rattle.view_build.proofs.Numbering.{changed_more, unchanged}
use Rattle.view_build.proofs.numbered.renumbered.Goals as goal

pub loop-i-preserved : goal.loop-i-preserved
loop-i-preserved c =
    let l = c.loop-i in
    let xs = c.args.dirs.items in
    let f = with_ranks c.args.ranks.now in
    let d = c.index.result.now in
    let within : l.i < length xs = omega arith in
    let is = c.renumber.ensures ∙ ap f (c.index.ensures ∙ unchanged f xs l.dirs.items l.i d within l.invariant) in
    changed_more f xs l.dirs.items l.i d within l.invariant c.renumber.result is
