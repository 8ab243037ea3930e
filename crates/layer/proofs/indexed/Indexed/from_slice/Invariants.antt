use Rattle.std.proofs.Common.{◌≡◌, take}
use Rattle.layer.proofs.indexed.Indexed.from_slice.Given as goal

abbrev pub invariant-loop-item : goal.invariant-loop-item
invariant-loop-item g l = l.indexed ≡ take l.item-index l.items
