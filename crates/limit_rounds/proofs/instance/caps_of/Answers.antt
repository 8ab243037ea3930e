use Rattle.std.proofs.Common.{◌∙◌, arith}
use Rattle.round_rules.specs.declared.round.Cap.{Cap}
use Rattle.limit_rounds.proofs.Building.{cap_turn}
use lib.ListN.{length-set}
use Rattle.limit_rounds.proofs.instance.caps_of.Goals as goal

pub loop-i-preserved : goal.loop-i-preserved
loop-i-preserved c =
    let none : Cap = record { dir = 0; cap = 0; times = 0 } in
    let l = c.loop-i-test.true in
    record {
      long = length-set c.loop-i.all.items _ _ ∙ c.loop-i.invariant.long;
      caps = cap_turn c.loop-i.all.items c.args.caps.now c.args.count c.loop-i.i none l (c.requires _ none (omega (arith, l))) c.loop-i.invariant.long c.loop-i.invariant.caps;
    }
