use Rattle.std.proofs.Common.{◌≡◌, position}
use Rattle.plan_base.specs.Dir.{same_dir}
use Rattle.layer.proofs.Index.{position_within}
use Rattle.layer.proofs.indexed.Indexed.place.Goals as goal

pub returns : goal.returns
returns g c =
    let at = c.self.invariant c.args.dir in
    let place : c.get.result ≡ position (λ item. same_dir (g.T.Directed.dir item) c.args.dir) c.args.self.now = rw (← c.self.view_is) (cc) in
    record { place = place; within = position_within _ _ _ place }
