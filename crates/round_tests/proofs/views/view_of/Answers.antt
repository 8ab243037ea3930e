use Rattle.std.proofs.Common.{◌≡◌, length, subst, Vec, Global}
use Rattle.std.specs.Prelude.{IfSome}
use Rattle.view_build.specs.declared.view.ViewDir.{ViewDir}
use Rattle.round_tests.specs.Channels.{AreGoodDirs}
use Rattle.round_tests.proofs.Ascending.{good_view}
use Rattle.round_tests.proofs.views.view_of.Goals as goal

pub new-requires : goal.new-requires
new-requires c =
    let row = c.args.row.now in
    let long = subst (λ o. IfSome o (λ (dirs : Vec ViewDir Global). length dirs.items ≡ length row.channels.now)) c.in-Some.is c.in_ok-dirs.ensures.long in
    let good = subst (λ o. IfSome o (λ (dirs : Vec ViewDir Global). AreGoodDirs row.nodes 0 dirs.items)) c.in-Some.is c.in_ok-dirs.ensures.good in
    good_view c.in_ok-nodes.nodes.items c.in-Some.dirs.items row.nodes (length row.channels.now) row.maxparts c.in_ok-nodes.ensures long c.if-row-gt100.false c.if-row.false c.if-row-lt2.false c.if-row-lt1.false c.if-row-gt100-2.false good
