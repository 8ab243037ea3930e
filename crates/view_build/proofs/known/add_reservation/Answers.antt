use Rattle.std.proofs.Common.{◌≤◌, ◌+◌, ◌^◌, ap, sym, ◌∙◌, subst, arith}
use Rattle.plan_base.specs.Dir.{same_dir}
use Rattle.view_build.specs.declared.known.Known.{Known}
use Rattle.view_build.specs.Known.{known_at, unknown, with_reserved}
use Rattle.view_build.proofs.Maps.{changed_by, either}
use Rattle.view_build.proofs.known.add_reservation.Goals as goal

pub returns-clause-ok : goal.returns-clause-ok
returns-clause-ok c dir =
    changed_by (λ _. unknown) (λ known. with_reserved known c.args.reservation.now.amount) c.args.map.now c.insert.new.self c.args.reservation.now.dir c.with_reserved.result
    (c.with_reserved.ensures.value ∙ ap (λ (known : Known). with_reserved known c.args.reservation.now.amount) c.known_at-known.ensures) c.in_ok-insert.ensures.updates dir

pub returns-clause-small : goal.returns-clause-small
returns-clause-small c dir n within =
    let known = known_at c.args.map.now dir in
    let amount : c.args.reservation.now.amount ≤ 2 ^ 64 = omega (arith, ap (λ (k : Known). k.reserved) c.with_reserved.ensures.value, c.with_reserved.ensures.small) in
    subst (λ (k : Known). k.reserved ≤ n + 2 ^ 64) (sym (returns-clause-ok c dir))
    (either (λ (k : Known). k.reserved ≤ n + 2 ^ 64) (same_dir c.args.reservation.now.dir dir) (with_reserved known c.args.reservation.now.amount) known (omega arith) (omega arith))
