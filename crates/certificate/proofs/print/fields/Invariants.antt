use Rattle.std.proofs.Common.{◌≡◌, ◌≤◌, ◌<◌, ◌*◌, drop, length}
use Rattle.certificate.specs.Text as Text
use Rattle.certificate.proofs.print.fields.Given as goal

abbrev pub invariant-loop-left : goal.invariant-loop-left
invariant-loop-left l = record {
  few : l.left ≤ length l.numbers;
  room : 21 * l.left ≤ l.start;
  within : l.start < length l.room;
  written : drop l.start l.room ≡ Text.fields (drop l.left l.numbers);
}

abbrev pub decreases-loop-left : goal.decreases-loop-left
decreases-loop-left l = l.left
