use Rattle.std.proofs.Common.{◌≡◌, ◌-◌, ◌+◌, ◌*◌, ◌≤◌, length, drop, reverse}
use Rattle.fee_backward.specs.Hop.{amounts_of, carried_before, delay_after}
use Rattle.fee_backward.proofs.hop.hops.Given as goal

abbrev pub invariant-loop-i : goal.invariant-loop-i
invariant-loop-i l = record {
  made : reverse l.hops.items ≡ amounts_of (drop (length l.tolls - l.i) l.tolls) l.delivered l.final_cltv;
  next : l.carried ≡ carried_before (reverse l.hops.items) l.delivered;
  delayed : l.delay ≡ delay_after (reverse l.hops.items) l.final_cltv;
  small : l.delay ≤ 65535 * (l.i + 1);
}
