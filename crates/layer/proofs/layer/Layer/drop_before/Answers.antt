use Rattle.std.proofs.Common.{◌≡◌, refl, true}
use Rattle.std.specs.Prelude.{nat_le}
use Rattle.std.specs.List.{list_all}
use Rattle.layer.proofs.Kept.{since_all}
use Rattle.layer.proofs.layer.Layer.drop_before.Goals as goal

pub returns-then-keeps_all-clause-kept : goal.returns-then-keeps_all-clause-kept
returns-then-keeps_all-clause-kept c =
    let all : list_all (λ constraint. nat_le c.args.cutoff constraint.moment) c.args.self.now.constraints ≡ true =
    rw (← c.constraints.ensures.list, ← c.keeps_all.ensures) c.if-keeps_all.true in
    rw (since_all c.args.cutoff c.args.self.now.constraints all) refl
