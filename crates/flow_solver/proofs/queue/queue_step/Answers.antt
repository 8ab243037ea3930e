use Rattle.std.proofs.Common.{ℕ, ◌<◌, ◌∷◌, cond, heap_items, arith, ap, subst, ◌∙◌, ◌≡◌, ◌+◌}
use Rattle.std.specs.Prelude.{IfSome, set, slice_index, min, nat_lt}
use Rattle.std.specs.List.Sorted.{IsPermutation}
use Rattle.std.specs.BinaryHeap.{KeepsHeap}
use Rattle.std.specs.Ordering.{nat_cmp}
use Rattle.std.proofs.lemmas.Int.{ints}
use Rattle.flow_solver.proofs.Turned.{seen_nodes}
use Rattle.flow_solver.proofs.Queues.{grows_lowered}
use Rattle.flow_solver.proofs.Seen.{meeting_lowered}
use Rattle.flow_solver.proofs.queue.queue_step.Goals as goal

pub returns-in_ok-push-in-Some-clause-meeting : goal.returns-in_ok-push-in-Some-clause-meeting
returns-in_ok-push-in-Some-clause-meeting c =
    let labels = c.args.side.now.labels in
    let far = c.in-Some.node in
    let other = c.args.other.now.labels in
    let label = c.in-Some.label in
    let n = c.requires.tree.long in
    let m = seen_nodes c.args.turned c.args.residual.now in
    let l = subst (λ o. IfSome o (λ (r : ℕ × ℕ). r.0 < c.args.residual.now.net.nodes)) c.in-Some.is c.in_ok-lowered.ensures.node in
    let lower = subst (λ o. IfSome o (λ (r : ℕ × ℕ). r.1 < slice_index c.args.side.now.labels r.0)) c.in-Some.is c.in_ok-lowered.ensures.lower in
    let set_is = subst (λ o. IfSome o (λ (r : ℕ × ℕ). c.lower_over.new.side.labels ≡ set c.args.side.now.labels r.0 r.1)) c.in-Some.is c.in_ok-lowered.ensures.labels in
    let o = c.requires.other in
    let at : c.get.result ≡ slice_index other far = c.get.ensures in
    let sum : label + c.get.result ≡ label + slice_index other far = ap (λ x. label + x) at in
    meeting_lowered c.args.residual.now.net.nodes labels c.lower_over.new.side.labels other c.args.meeting.best c.args.meeting.node far label c.better.result.best c.better.result.node
    (omega (arith, l, n, m)) (n ∙ m) lower set_is
    (c.better.ensures.best ∙ ap (λ x. min c.args.meeting.best x) sum)
    (c.better.ensures.node ∙ ap (λ x. cond (nat_lt x c.args.meeting.best) far c.args.meeting.node) sum)
    c.requires.meeting

pub returns-in_ok-push-in-Some-clause-progress : goal.returns-in_ok-push-in-Some-clause-progress
returns-in_ok-push-in-Some-clause-progress c =
    let far = c.in-Some.node in
    let n = c.requires.tree.long in
    let m = seen_nodes c.args.turned c.args.residual.now in
    let l = subst (λ o. IfSome o (λ (r : ℕ × ℕ). r.0 < c.args.residual.now.net.nodes)) c.in-Some.is c.in_ok-lowered.ensures.node in
    let lower = subst (λ o. IfSome o (λ (r : ℕ × ℕ). r.1 < slice_index c.args.side.now.labels r.0)) c.in-Some.is c.in_ok-lowered.ensures.lower in
    let set_is = subst (λ o. IfSome o (λ (r : ℕ × ℕ). c.lower_over.new.side.labels ≡ set c.args.side.now.labels r.0 r.1)) c.in-Some.is c.in_ok-lowered.ensures.labels in
    let heap = c.in_ok-lowered.ensures.heap in
    grows_lowered c.args.side.now.labels (heap_items c.args.side.now.heap) c.lower_over.new.side.labels (heap_items c.push.new.self) far c.in-Some.label c.key_of.result (omega (arith, l, n, m)) lower set_is c.key_of.ensures
    (subst (λ ks. IsPermutation (c.key_of.result ∷ ks) (heap_items c.push.new.self)) heap c.in_ok-push-in-Some.ensures.permutation)
    (subst (λ ks. KeepsHeap nat_cmp ks (heap_items c.push.new.self)) heap c.in_ok-push-in-Some.ensures.heap_order)

pub returns-in_ok-push-in-Some-clause-relaxed : goal.returns-in_ok-push-in-Some-clause-relaxed
returns-in_ok-push-in-Some-clause-relaxed c =
    let h = c.in_ok-lowered.ensures.relaxed in
    let b = c.better.ensures.best in
    omega (arith, ints, h, b)
