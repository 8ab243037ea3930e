use Rattle.std.proofs.Common.{◌≡◌, take}
use Rattle.turn_desk.specs.Absorbing.{count_of}
use Rattle.turn_desk.proofs.closing.count.Given as goal

abbrev pub invariant-loop-pass : goal.invariant-loop-pass
invariant-loop-pass g l = l.given ≡ count_of (take l.pass-index l.passes)
