use Rattle.std.proofs.Common.{◌≡◌, ◌*◌, take}
use Rattle.plan_base.specs.Dir.{Direction}
use Rattle.view_build.specs.Known.{IsWithin, known_at, known_of}
use Rattle.view_build.proofs.known.known_by.Given as goal

abbrev pub invariant-loop-layer : goal.invariant-loop-layer
invariant-loop-layer l = record {
  known : (dir : Direction) → known_at l.map dir ≡ known_of dir (take l.layer-index l.layers) l.held;
  small : (dir : Direction) → IsWithin (l.layer-index * 6553600) (known_at l.map dir).bias;
}
