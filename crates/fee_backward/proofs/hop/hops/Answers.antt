use Rattle.std.proofs.Common.{arith}
use Rattle.plan_base.specs.declared.fee.Toll.{Toll}
use Rattle.fee_backward.proofs.Turns.{hops_turn}
use Rattle.fee_backward.proofs.hop.hops.Goals as goal

pub loop-i-preserved : goal.loop-i-preserved
loop-i-preserved c =
    let none : Toll = record { base = 0; ppm = 0; delay = 0 } in
    let i = c.loop-i.invariant in
    let h = hops_turn c.args.tolls.now c.loop-i.hops.items c.push.new.self.items c.hop_over-hop.result none c.loop-i.i c.loop-i.carried c.loop-i.delay c.args.delivered c.args.final_cltv c.loop-i-test.true i.made i.next i.delayed c.hop_over-hop.ensures.hop c.in_ok-push.ensures.items in
    record { made = h.0; next = h.1; delayed = h.2; small = omega (arith, c.hop_over-hop.ensures.more, i.small) }
