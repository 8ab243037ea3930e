use Rattle.std.proofs.Common.{◌∙◌, ◌+◌, ◌≡◌, arith, ap, sym, subst, length}
use Rattle.round_tests.specs.Channels.{AreGoodDirs, scid_at}
use Rattle.round_tests.proofs.Ascending.{good_push, length_more}
use Rattle.round_tests.proofs.views.dirs_of.Goals as goal

pub loop-i-preserved : goal.loop-i-preserved
loop-i-preserved c =
    let dirs = c.loop-i.dirs.items in
    let dir = c.in-Some-dir_of.dir in
    let i = c.loop-i.i in
    let long = c.loop-i.invariant.long in
    let e : i ≡ 0 + length dirs = omega (arith, long) in
    let grows = c.in_ok-push.ensures.items in
    let is = c.in-Some-dir_of.ensures.dir ∙ ap (λ n. record { scid = n; side = 0 }) (c.in-Some.ensures ∙ ap scid_at e) in
    record {
      long = ap length grows ∙ length_more dirs dir ∙ ap (λ n. n + 1) long;
      good = subst (AreGoodDirs c.args.nodes 0) (sym grows) (good_push c.args.nodes 0 dirs dir c.loop-i.invariant.good is c.in-Some-dir_of.ensures.good);
    }
