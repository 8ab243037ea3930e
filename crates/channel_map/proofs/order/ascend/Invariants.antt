use Rattle.std.proofs.Common.{◌≡◌, ℕ, ◌+◌, ◌<◌, get_or}
use Rattle.std.specs.declared.cmp.Ordering.TheVariants.{Less}
use Rattle.plan_base.specs.Dir.{dir_order}
use Rattle.channel_map.specs.declared.edge.Edge.{Edge}
use Rattle.channel_map.proofs.order.ascend.Given as goal

abbrev pub invariant-loop-place : goal.invariant-loop-place
invariant-loop-place l = (k : ℕ) (d : Edge) → k + 1 < l.place → dir_order (get_or l.edges k d).dir (get_or l.edges (k + 1) d).dir ≡ Less
