use Rattle.std.proofs.Common.{◌≡◌, ◌≤◌, arith}
use Rattle.session.specs.declared.limits.TheConstants.{LINES_MAX}
use Rattle.session.specs.Outcome.{SessionState}
use Rattle.session.specs.Loop.{LoopState}
use Rattle.session.proofs.Going.{told_ends_as, told_last}
use Rattle.session.proofs.lines.serve_lines.Goals as goal

pub returns-in-Some-clause-session : goal.returns-in-Some-clause-session
returns-in-Some-clause-session g c =
    let old : SessionState = record { log = g.H.Caller.seen c.args.caller.now; clock = g.C.Clock.moments c.args.clock.now } in
    let before : LoopState = record { lines = c.lines.lines; left = g.W.Wire.left c.lines.wire; written = g.W.Wire.written c.lines.wire; state = record { log = g.H.Caller.seen c.lines.caller; clock = g.C.Clock.moments c.lines.clock } } in
    let now : LoopState = record { lines = c.serve_next.new.lines; left = g.W.Wire.left c.serve_next.new.wire; written = g.W.Wire.written c.serve_next.new.wire; state = record { log = g.H.Caller.seen c.serve_next.new.caller; clock = g.C.Clock.moments c.serve_next.new.clock } } in
    told_ends_as (g.A.Answerer.answers c.args.answerer.now) (g.H.Caller.who c.args.caller.now) (g.H.Caller.who c.lines.caller) c.in-Some.end (g.W.Wire.left c.args.wire.now) old (g.W.Wire.written c.args.wire.now) before now c.lines._served
    c.lines.invariant.1 c.lines.invariant.0 c.lines-test.true c.in-Some.ensures.outcome c.in-Some.ensures.source

pub returns-clause-session : goal.returns-clause-session
returns-clause-session g c =
    let old : SessionState = record { log = g.H.Caller.seen c.args.caller.now; clock = g.C.Clock.moments c.args.clock.now } in
    let state : SessionState = record { log = g.H.Caller.seen c.lines.caller; clock = g.C.Clock.moments c.lines.clock } in
    let before : LoopState = record { lines = c.lines.lines; left = g.W.Wire.left c.lines.wire; written = g.W.Wire.written c.lines.wire; state = state } in
    let now : LoopState = record { lines = c.after_last.new.lines; left = g.W.Wire.left c.after_last.new.wire; written = g.W.Wire.written c.after_last.new.wire; state = state } in
    let few : c.lines._served ≤ LINES_MAX = c.lines.auto._served-end in
    let all : c.lines._served ≡ LINES_MAX = omega (arith, c.lines-test.false, few) in
    told_last (g.A.Answerer.answers c.args.answerer.now) (g.H.Caller.who c.args.caller.now) c.after_last.result (g.W.Wire.left c.args.wire.now) old (g.W.Wire.written c.args.wire.now) before now c.lines._served
    c.lines.invariant.0 all (c.after_last.ensures.outcome state) c.after_last.ensures.source
