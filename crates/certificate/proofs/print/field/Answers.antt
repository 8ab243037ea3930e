use Rattle.std.proofs.Common.{◌≡◌, ◌+◌, ◌-◌, ◌≤◌, arith, ap, ◌∷◌, length}
use Rattle.std.specs.Prelude.{decimal}
use Rattle.std.proofs.lemmas.List.{drop-set}
use Rattle.certificate.proofs.Printed.{short_number}
use Rattle.certificate.proofs.print.field.Goals as goal

pub write_digits-start-requires : goal.write_digits-start-requires
write_digits-start-requires c =
    let short : length (decimal c.args.number) ≤ 20 = short_number c.args.number c.ranges.number.fits in
    (omega (arith, short, c.requires), c.requires.1)

pub overflow_sub-start : goal.overflow_sub-start
overflow_sub-start c = omega (arith, short_number c.args.number c.ranges.number.fits, c.requires, c.write_digits-start.ensures.start)

pub returns-clause-above : goal.returns-clause-above
returns-clause-above c = omega (arith, short_number c.args.number c.ranges.number.fits, c.requires, c.write_digits-start.ensures.start)

pub returns-clause-written : goal.returns-clause-written
returns-clause-written c =
    let short = short_number c.args.number c.ranges.number.fits in
    let first : c.write_digits-start.result - 1 + 1 ≡ c.write_digits-start.result = omega (arith, short, c.requires, c.write_digits-start.ensures.start) in
    rw (drop-set c.write_digits-start.new.buf (c.write_digits-start.result - 1) 32 (omega (arith, short, c.requires, c.write_digits-start.ensures.start, c.write_digits-start.auto.buf)), first) (ap (λ t. 32 ∷ t) c.write_digits-start.ensures.written)
