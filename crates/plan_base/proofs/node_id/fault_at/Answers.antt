use Rattle.std.proofs.lemmas.Bool.{ne_eqb}
use Rattle.plan_base.proofs.NodeIds.{fault_at_digit, fault_at_end}
use Rattle.plan_base.proofs.node_id.fault_at.Goals as goal

pub returns-in-Some : goal.returns-in-Some
returns-in-Some c =
    fault_at_digit c.args.text.now c.min-end.result _ c.min-end.ensures (rw c.as_bytes.ensures.value at c.in-Some.ensures)

pub returns-in-None-2 : goal.returns-in-None-2
returns-in-None-2 c =
    fault_at_end c.args.text.now c.min-end.result c.min-end.ensures (rw c.as_bytes.ensures.value at c.in-None-2.ensures)
    (ne_eqb _ _ c.if-text-eq66.false)
