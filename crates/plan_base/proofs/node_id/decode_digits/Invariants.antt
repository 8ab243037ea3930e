use Rattle.std.proofs.Common.{◌≡◌, ◌*◌, take, drop, length}
use Rattle.hex.specs.Hex.{decode_pairs}
use Rattle.hex.proofs.Pairs.{prepend}
use Rattle.plan_base.proofs.node_id.decode_digits.Given as goal

abbrev pub invariant-bytes : goal.invariant-bytes
invariant-bytes l =
    (length l.bytes ≡ 33)
    × (decode_pairs 0 l.digits ≡ prepend (take l.i l.bytes) (decode_pairs (2 * l.i) (drop (2 * l.i) l.digits)))
