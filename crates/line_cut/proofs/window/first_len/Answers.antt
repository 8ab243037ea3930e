use Rattle.std.proofs.Common.{ℕ, ◌≤◌, length, sym, arith}
use Rattle.std.proofs.lemmas.Bool.{false_from_ne_true}
use Rattle.std.proofs.lemmas.List.Sums.{position_or_len_is}
use Rattle.line_cut.specs.Lines.{is_feed}
use Rattle.line_cut.specs.FirstLen.{first_len}
use Rattle.line_cut.proofs.window.first_len.Goals as goal

pub returns-in-Some-clause-len : goal.returns-in-Some-clause-len
unfolding first_len
returns-in-Some-clause-len c =
    let place : ℕ = c.in-Some.place in
    let within : place ≤ length c.args.bytes.now = omega (arith, c.in-Some.ensures.0.high) in
    sym (position_or_len_is is_feed c.args.bytes.now place 0 within
    (λ k below. false_from_ne_true _ (c.in-Some.ensures.0.before k (omega arith) below)) (λ inside. c.in-Some.ensures.1))

pub returns-in-None-clause-len : goal.returns-in-None-clause-len
unfolding first_len
returns-in-None-clause-len c =
    let within : length c.args.bytes.now ≤ length c.args.bytes.now = omega arith in
    sym (position_or_len_is is_feed c.args.bytes.now (length c.args.bytes.now) 0 within
    (λ k below. false_from_ne_true _ (c.in-None.ensures k (omega arith) below)) (λ inside. absurd (omega (arith, inside))))
