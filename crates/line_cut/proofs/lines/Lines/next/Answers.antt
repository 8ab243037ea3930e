use Rattle.std.proofs.Common.{◌≡◌, true, false, sym, ap, ◌∙◌, Result, Ok, Err}
use Rattle.std.specs.Result.{OnErr}
use Rattle.line_cut.specs.Buffered.{Buffered, has_feed}
use Rattle.line_cut.specs.Steps.{wants_more}
use Rattle.line_cut.specs.declared.cut.Cut.TheVariants.{Line, End, Long}
use Rattle.line_cut.proofs.Calls.{cut_is_line, cut_is_end, cut_is_long, cut_is_end_again, cut_is_long_again, cut_keeps_ended, cuts_line, cuts_at_feed, line_has_no_feed, nothing_left, long_next}
use Rattle.line_cut.proofs.FirstLine.{begins_long}
use Rattle.line_cut.proofs.Waiting.{open_when_wanted, no_feed_when_wanted, still_when_ended, still_when_long, still_when_whole}
use Rattle.line_cut.proofs.lines.Lines.next.Goals as goal

on_err : {T E : Type 0} {P : Type 0} (result : Result T E) → P → OnErr result P
on_err (Ok value) holds = tt
on_err (Err fault) holds = holds

-- a contradiction: a read is wanted although none was wanted at first
no_read : (old mid : Buffered) {P : Type 0} → (wants_more old ≡ false → (mid ≡ old) × P) → wants_more mid ≡ true → wants_more old ≡ false → ⊥
no_read old mid same wanted still = let wrong : true ≡ false = sym wanted ∙ ap wants_more (same still).0 ∙ still in cc

pub returns-in_err-fill-clause-long_again : goal.returns-in_err-fill-clause-long_again
returns-in_err-fill-clause-long_again g c = λ long.
    absurd (no_read _ _ c.reads.invariant.4 (sym c.wants_more.ensures ∙ c.reads-test.true) (still_when_long _ long))

pub returns-in_err-fill-clause-end_again : goal.returns-in_err-fill-clause-end_again
returns-in_err-fill-clause-end_again g c = λ ended none.
    absurd (no_read _ _ c.reads.invariant.4 (sym c.wants_more.ensures ∙ c.reads-test.true) (still_when_ended _ ended))

pub returns-in_err-fill-clause-no_feed : goal.returns-in_err-fill-clause-no_feed
returns-in_err-fill-clause-no_feed g c =
    on_err _ (ap (λ (h : Buffered). has_feed h.rest) c.in_err-fill.ensures.fault ∙ no_feed_when_wanted c.reads.self (sym c.wants_more.ensures ∙ c.reads-test.true))

pub returns-in_err-fill-clause-open : goal.returns-in_err-fill-clause-open
returns-in_err-fill-clause-open g c =
    on_err _ (ap (λ (h : Buffered). h.ended) c.in_err-fill.ensures.fault ∙ open_when_wanted c.reads.self (sym c.wants_more.ensures ∙ c.reads-test.true))

pub returns-in_err-fill-clause-stops : goal.returns-in_err-fill-clause-stops
returns-in_err-fill-clause-stops g c = λ ended.
    absurd (no_read _ _ c.reads.invariant.4 (sym c.wants_more.ensures ∙ c.reads-test.true) (still_when_ended _ ended))

pub returns-in_err-fill-clause-ready : goal.returns-in_err-fill-clause-ready
returns-in_err-fill-clause-ready g c = λ feed.
    absurd (no_read _ _ c.reads.invariant.4 (sym c.wants_more.ensures ∙ c.reads-test.true) (still_when_whole _ feed))

pub returns-in_err-fill-clause-ended : goal.returns-in_err-fill-clause-ended
returns-in_err-fill-clause-ended g c = λ ended.
    absurd (no_read _ _ c.reads.invariant.4 (sym c.wants_more.ensures ∙ c.reads-test.true) (still_when_ended _ ended))

pub returns-clause-line : goal.returns-clause-line
returns-clause-line g c = λ is.
    let line : c.cut.result ≡ Line = cc in
    cuts_line _ _ c.reads.self _ c.reads.invariant.0 (cut_is_line _ _ _ c.cut.ensures line)

pub returns-clause-behind : goal.returns-clause-behind
returns-clause-behind g c = λ is going.
    let line : c.cut.result ≡ Line = cc in
    cuts_at_feed _ _ c.reads.self _ c.reads.invariant.0 (cut_is_line _ _ _ c.cut.ensures line) going

pub returns-clause-whole : goal.returns-clause-whole
returns-clause-whole g c = λ is.
    let line : c.cut.result ≡ Line = cc in
    line_has_no_feed c.reads.self _ (cut_is_line _ _ _ c.cut.ensures line)

pub returns-clause-none_left : goal.returns-clause-none_left
returns-clause-none_left g c = λ is.
    let end : c.cut.result ≡ End = cc in
    let (same, none, ended) = cut_is_end _ _ _ c.cut.ensures end in
    nothing_left _ _ c.reads.self c.reads.invariant.0 none ended

pub returns-clause-long : goal.returns-clause-long
returns-clause-long g c = λ is.
    let long : c.cut.result ≡ Long = cc in
    let two = cut_is_long _ _ _ c.cut.ensures long in
    rw two.0 (long_next _ c.reads.self two.1)

pub returns-clause-stuck : goal.returns-clause-stuck
returns-clause-stuck g c = λ is.
    let long : c.cut.result ≡ Long = cc in
    let two = cut_is_long _ _ _ c.cut.ensures long in
    rw two.0 (begins_long c.reads.self.rest two.1)

pub returns-clause-long_again : goal.returns-clause-long_again
returns-clause-long_again g c = λ long.
    let same = (c.reads.invariant.4 (still_when_long _ long)).0 in
    ap Ok (cut_is_long_again _ _ _ c.cut.ensures (rw same long))

pub returns-clause-end_again : goal.returns-clause-end_again
returns-clause-end_again g c = λ ended none.
    let same = (c.reads.invariant.4 (still_when_ended _ ended)).0 in
    ap Ok (cut_is_end_again _ _ _ c.cut.ensures (ap (λ (h : Buffered). h.rest) same ∙ none))

pub returns-clause-stops : goal.returns-clause-stops
returns-clause-stops g c = λ ended. (c.reads.invariant.4 (still_when_ended _ ended)).1

pub returns-clause-ready : goal.returns-clause-ready
returns-clause-ready g c = λ feed. (c.reads.invariant.4 (still_when_whole _ feed)).1

pub returns-clause-ended : goal.returns-clause-ended
returns-clause-ended g c = λ ended.
    cut_keeps_ended _ _ _ c.cut.ensures ∙ ap (λ (h : Buffered). h.ended) (c.reads.invariant.4 (still_when_ended _ ended)).0 ∙ ended

pub returns-in_err-fill-clause-at_end : goal.returns-in_err-fill-clause-at_end
returns-in_err-fill-clause-at_end g c = λ going ended. c.in_err-fill.ensures.at_end ended

pub returns-clause-at_end : goal.returns-clause-at_end
returns-clause-at_end g c = λ going ended. c.reads.invariant.5 going (sym (cut_keeps_ended _ _ _ c.cut.ensures) ∙ ended)
