use Rattle.std.proofs.Common.{◌≡◌, ℕ, ◌≤◌, ◌<◌, length, arith}
use Rattle.std.specs.List.{position_or_len}
use Rattle.std.proofs.lemmas.Bool.{false_from_ne_true}
use Rattle.std.proofs.lemmas.List.Sums.{position_or_len_is}
use Rattle.line_cut.specs.Lines.{is_feed}
use Rattle.workload.proofs.Lines.{line_before_feed, last_line}
use Rattle.workload.proofs.totals.cut_line.Goals as goal

pub returns-in-Some-clause-lines : goal.returns-in-Some-clause-lines
returns-in-Some-clause-lines c =
    let bytes = c.args.bytes.now in
    let place : ℕ = c.in-Some.end in
    let inside : place < length bytes = omega (arith, c.in-Some.ensures.0.high) in
    let within : place ≤ length bytes = omega arith in
    let is : position_or_len is_feed bytes ≡ place = position_or_len_is is_feed bytes place 0 within
    (λ k below. false_from_ne_true _ (c.in-Some.ensures.0.before k (omega arith) below)) (λ _. c.in-Some.ensures.1) in
    line_before_feed bytes place is inside

pub returns-in-None-clause-lines : goal.returns-in-None-clause-lines
returns-in-None-clause-lines c =
    let bytes = c.args.bytes.now in
    let within : length bytes ≤ length bytes = omega arith in
    let is : position_or_len is_feed bytes ≡ length bytes = position_or_len_is is_feed bytes (length bytes) 0 within
    (λ k below. false_from_ne_true _ (c.in-None.ensures k (omega arith) below)) (λ inside. absurd (omega (arith, inside))) in
    last_line bytes is c.requires
