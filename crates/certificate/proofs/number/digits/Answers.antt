use Rattle.std.proofs.Common.{◌≡◌, ◌-◌, ◌≤◌, arith, rules, sym, ap, refl, ◌∙◌, get_or, true, false}
use Rattle.std.specs.Char.{is_ascii_digit}
use Rattle.certificate.proofs.Decimals.{digits_turn, digits_end, value_small}
use Rattle.certificate.proofs.number.digits.Goals.{else-loop-byte-test, then-loop-byte-test+then-not-is_ascii_digit}
use Rattle.certificate.proofs.number.digits.Goals as goal

pub push-value-requires-clause-fits : goal.push-value-requires-clause-fits
push-value-requires-clause-fits g c =
    let i = c.loop-byte.invariant in
    let short : c.loop-byte.len ≤ g.N.Digits.places - 1 = omega (arith, c.requires, c.loop-byte-test.true, i.read) in
    omega (arith, value_small c.args.text.now c.loop-byte.len (g.N.Digits.places - 1) short i.all, i.value)

pub loop-byte-preserved : goal.loop-byte-preserved
loop-byte-preserved g c =
    let i = c.loop-byte.invariant in
    let digit : is_ascii_digit (get_or c.args.text.now c.loop-byte.byte-index 0) ≡ true = search rules in
    let h = digits_turn c.args.text.now _ _ _ (get_or c.args.text.now c.loop-byte.byte-index 0) i.read c.loop-byte-test.true refl digit i.all i.value in
    record { read = omega (arith, i.read); all = h.0; value = c.push-value.ensures ∙ h.1 }

pub returns-clause-len : goal.returns-clause-len
returns-clause-len g c =
    let i = c.loop-byte.invariant in
    elim c.loop-byte-test.branch [
      | else-loop-byte-test w ↦ sym (digits_end c.args.text.now c.loop-byte.len (omega (arith, i.read, c.loop-byte.auto.byte-index-end)) i.all (λ l. absurd (omega (arith, l, i.read, w.loop-byte-test.false))))
      | then-loop-byte-test+then-not-is_ascii_digit w ↦
          let other : is_ascii_digit (get_or c.args.text.now c.loop-byte.byte-index 0) ≡ false = search rules in
          sym (digits_end c.args.text.now c.loop-byte.len (omega (arith, i.read, c.loop-byte.auto.byte-index-end)) i.all (λ l. ap (λ k. is_ascii_digit (get_or c.args.text.now k 0)) i.read ∙ other))
    ]
