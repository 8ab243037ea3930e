use Rattle.std.proofs.Common.{refl, subst, sym, ◌+◌}
use Rattle.flow_solver.specs.Heads.{HasHeads}
use Rattle.flow_solver.proofs.Firsts.{heads_push, heads_skip}
use Rattle.flow_solver.proofs.heads.first_arcs.Goals as goal
use Rattle.flow_solver.proofs.heads.first_arcs.Goals.{then-is_first+in_ok-push, else-is_first}

pub loop-i-preserved : goal.loop-i-preserved
loop-i-preserved c =
    let arcs = c.args.arcs.now in
    let i = c.loop-i.i in
    let old = c.loop-i.heads.items in
    elim c.if-is_first.branch [
      | then-is_first+in_ok-push w ↦ subst (λ v. HasHeads arcs v.items (i + 1)) (sym w.heads-is) (heads_push arcs old w.push.new.self.items w.head_at.result i c.loop-i-test.true w.in_ok-push.ensures.items w.head_at.ensures (w.if-is_first.ensures.yes refl) c.loop-i.invariant)
      | else-is_first w ↦ subst (λ v. HasHeads arcs v.items (i + 1)) (sym w.heads-is) (heads_skip arcs old i c.loop-i-test.true (w.if-is_first.ensures.no refl) c.loop-i.invariant)
    ]
