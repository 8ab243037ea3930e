use Rattle.std.proofs.Common.{ap, sym, ◌∙◌, subst, arith, ◌+◌}
use Rattle.std.proofs.lemmas.Int.{ints}
use Rattle.plan_base.specs.Dir.{same_dir}
use Rattle.view_build.specs.declared.known.Known.{Known}
use Rattle.view_build.specs.Known.{IsWithin, known_at, unknown, with_bias}
use Rattle.view_build.proofs.Maps.{changed_by, either}
use Rattle.view_build.proofs.known.add_bias.Goals as goal

pub returns-clause-ok : goal.returns-clause-ok
returns-clause-ok c dir =
    changed_by (λ _. unknown) (λ known. with_bias known c.args.bias.now) c.args.map.now c.insert.new.self c.args.bias.now.dir c.with_bias.result
    (c.with_bias.ensures ∙ ap (λ (known : Known). with_bias known c.args.bias.now) c.known_at-known.ensures) c.in_ok-insert.ensures.updates dir

pub returns-clause-small : goal.returns-clause-small
returns-clause-small c dir n within =
    let known = known_at c.args.map.now dir in
    subst (λ (k : Known). IsWithin (n + 100) k.bias) (sym (returns-clause-ok c dir))
    (either (λ (k : Known). IsWithin (n + 100) k.bias) (same_dir c.args.bias.now.dir dir) (with_bias known c.args.bias.now) known
    (record { low = omega (arith, ints); high = omega (arith, ints) }) (record { low = omega (arith, ints); high = omega (arith, ints) }))
