use Rattle.std.proofs.Common.{◌≡◌, ◌≤◌, ◌+◌}
use Rattle.session.specs.declared.limits.TheConstants.{LINES_MAX}
use Rattle.session.proofs.Going.{Going}
use Rattle.session.proofs.lines.serve_lines.Given as goal

abbrev pub invariant-lines : goal.invariant-lines
invariant-lines g l =
    Going (g.A.Answerer.answers l.fn.answerer) (g.H.Caller.who l.initial.caller) (g.W.Wire.left l.initial.wire)
    (record { log = g.H.Caller.seen l.initial.caller; clock = g.C.Clock.moments l.initial.clock }) (g.W.Wire.written l.initial.wire)
    (record { lines = l.lines; left = g.W.Wire.left l.wire; written = g.W.Wire.written l.wire; state = record { log = g.H.Caller.seen l.caller; clock = g.C.Clock.moments l.clock } }) l._served
    × (g.H.Caller.who l.caller ≡ g.H.Caller.who l.initial.caller)
    × (LINES_MAX ≤ g.H.Caller.commands_left l.caller + l._served)
    × (g.W.Wire.read_faults l.initial.wire ≤ g.W.Wire.read_faults l.wire)
    × (g.W.Wire.write_faults l.initial.wire ≤ g.W.Wire.write_faults l.wire)
    × (g.H.Caller.reference l.caller ≡ g.H.Caller.reference l.initial.caller)
    × g.H.Caller.ready l.caller
    × g.H.Caller.goes_on l.initial.caller l.caller
    × (g.W.Wire.references l.wire ≡ g.W.Wire.references l.initial.wire)
