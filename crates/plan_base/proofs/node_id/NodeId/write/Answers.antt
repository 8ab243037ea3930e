use Rattle.plan_base.proofs.NodeIds.{written_node_id}
use Rattle.plan_base.proofs.node_id.NodeId.write.Goals as goal

pub returns-clause-read_back : goal.returns-clause-read_back
returns-clause-read_back c = rw (c.in_ok-encode.ensures, ← c.self.view_is) (written_node_id c.self.inside.bytes c.self.invariant)
