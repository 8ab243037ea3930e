use Rattle.std.proofs.Common.{arith, ap, sym, subst, ◌∙◌, ◌≡◌, ◌<◌, ◌+◌, length}
use Rattle.std.specs.Prelude.{slice_index, set, IsTrue}
use Rattle.flow_solver.specs.Search.{IsRelaxedTo}
use Rattle.flow_solver.specs.Turned.{seen, seen_potentials}
use Rattle.flow_solver.proofs.Answers.{all_small}
use Rattle.flow_solver.proofs.Tries.{label_fits, tried, step_low}
use Rattle.flow_solver.proofs.Turned.{seen_ok, seen_shown, seen_nodes}
use Rattle.flow_solver.proofs.Queues.{lowered_step, tried_lower, tried_relaxed}
use Rattle.flow_solver.proofs.Seen.{next_low, near_in, far_in, near_is, far_is, seen_step, seen_is, seen_most}
use Rattle.flow_solver.proofs.queue.lower_over.Goals as goal

pub cost_of_next-requires-clause-small : goal.cost_of_next-requires-clause-small
cost_of_next-requires-clause-small c = all_small c.args.residual.now.net c.args.potentials.now c.requires.bounded

pub cost_of_next-requires-clause-low : goal.cost_of_next-requires-clause-low
cost_of_next-requires-clause-low c = next_low c.args.residual.now c.args.potentials.now c.arcs-arcs.ensures.bounds c.requires.shown c.requires.bounded c.args.turned c.args.step c.requires.step

pub overflow_add-label : goal.overflow_add-label
overflow_add-label c =
    let residual = c.args.residual.now in
    let p = c.args.potentials.now in
    let t = c.args.turned in
    let s = c.args.step in
    let ok = c.arcs-arcs.ensures.bounds in
    let R = seen t residual in
    let q = seen_potentials t p in
    let labels = c.args.side.now.labels in
    let near = c.ends_of-near.result.0 in
    let far = c.ends_of-near.result.1 in
    let cost = c.cost_of_next.result in
    let next = seen_step residual p ok c.requires.shown c.requires.bounded t s c.requires.step in
    let cost_at = seen_is residual p ok c.requires.shown c.requires.bounded t s c.requires.step cost c.cost_of_next.ensures in
    let near_l = near_in residual p ok c.requires.shown c.requires.bounded t s c.requires.step near c.ends_of-near.ensures.near in
    let n = c.requires.tree.long in
    let m = seen_nodes t residual in
    let label : c.get.result ≡ slice_index labels near = c.get.ensures in
    let most = seen_most residual p ok c.requires.shown c.requires.bounded t s c.requires.step in
    let fits = label_fits R q (seen_ok t residual ok) (seen_shown t residual p ok c.requires.shown) labels c.args.side.now.parents.items c.requires.tree s.arc s.back next.known next.way near cost cost_at most in
    omega (arith, fits, label)

pub returns-then-branch-clause-tree : goal.returns-then-branch-clause-tree
returns-then-branch-clause-tree c =
    let residual = c.args.residual.now in
    let p = c.args.potentials.now in
    let t = c.args.turned in
    let s = c.args.step in
    let ok = c.arcs-arcs.ensures.bounds in
    let R = seen t residual in
    let q = seen_potentials t p in
    let labels = c.args.side.now.labels in
    let near = c.ends_of-near.result.0 in
    let far = c.ends_of-near.result.1 in
    let cost = c.cost_of_next.result in
    let next = seen_step residual p ok c.requires.shown c.requires.bounded t s c.requires.step in
    let cost_at = seen_is residual p ok c.requires.shown c.requires.bounded t s c.requires.step cost c.cost_of_next.ensures in
    let near_l = near_in residual p ok c.requires.shown c.requires.bounded t s c.requires.step near c.ends_of-near.ensures.near in
    let n = c.requires.tree.long in
    let m = seen_nodes t residual in
    let label : c.get.result ≡ slice_index labels near = c.get.ensures in
    let near_at = c.ends_of-near.ensures.near ∙ near_is residual p ok c.requires.shown c.requires.bounded t s c.requires.step in
    let far_at = c.ends_of-near.ensures.far ∙ far_is residual p ok c.requires.shown c.requires.bounded t s c.requires.step in
    let sum : c.get.result + cost ≡ slice_index labels near + cost = ap (λ x. x + cost) label in
    let lower = λ (e : IsTrue c.in_ok-lower_end.field-0). subst (λ x. x < slice_index labels far) sum (c.in_ok-lower_end.ensures.lower e) in
    let made = λ (e : IsTrue c.in_ok-lower_end.field-0). c.in_ok-lower_end.ensures.labels e ∙ ap (λ x. set labels far x) sum in
    tried R q (seen_ok t residual ok) (seen_shown t residual p ok c.requires.shown) labels c.args.side.now.parents.items c.requires.tree s.arc s.back next.known next.way near far cost c.in_ok-lower_end.field-0 _ _ near_at far_at cost_at lower made c.in_ok-lower_end.ensures.parents c.in_ok-lower_end.ensures.same c.in_ok-lower_end.ensures.kept

pub returns-then-branch-clause-relaxed : goal.returns-then-branch-clause-relaxed
returns-then-branch-clause-relaxed c =
    let residual = c.args.residual.now in
    let p = c.args.potentials.now in
    let t = c.args.turned in
    let s = c.args.step in
    let ok = c.arcs-arcs.ensures.bounds in
    let R = seen t residual in
    let q = seen_potentials t p in
    let labels = c.args.side.now.labels in
    let near = c.ends_of-near.result.0 in
    let far = c.ends_of-near.result.1 in
    let cost = c.cost_of_next.result in
    let next = seen_step residual p ok c.requires.shown c.requires.bounded t s c.requires.step in
    let cost_at = seen_is residual p ok c.requires.shown c.requires.bounded t s c.requires.step cost c.cost_of_next.ensures in
    let near_l = near_in residual p ok c.requires.shown c.requires.bounded t s c.requires.step near c.ends_of-near.ensures.near in
    let n = c.requires.tree.long in
    let m = seen_nodes t residual in
    let label : c.get.result ≡ slice_index labels near = c.get.ensures in
    let near_at = c.ends_of-near.ensures.near ∙ near_is residual p ok c.requires.shown c.requires.bounded t s c.requires.step in
    let far_at = c.ends_of-near.ensures.far ∙ far_is residual p ok c.requires.shown c.requires.bounded t s c.requires.step in
    let sum : c.get.result + cost ≡ slice_index labels near + cost = ap (λ x. x + cost) label in
    let lower = λ (e : IsTrue c.in_ok-lower_end.field-0). subst (λ x. x < slice_index labels far) sum (c.in_ok-lower_end.ensures.lower e) in
    let made = λ (e : IsTrue c.in_ok-lower_end.field-0). c.in_ok-lower_end.ensures.labels e ∙ ap (λ x. set labels far x) sum in
    let so = tried_lower R q labels c.lower_end.new.side.labels s.arc near far cost s.back c.in_ok-lower_end.field-0 near_at far_at cost_at lower made c.if-branch.true in
    let low = step_low R q (seen_ok t residual ok) (seen_shown t residual p ok c.requires.shown) labels c.args.side.now.parents.items c.requires.tree s.arc s.back next.known next.way in
    let far_l = far_in residual p ok c.requires.shown c.requires.bounded t s c.requires.step far c.ends_of-near.ensures.far in
    let l = subst (λ w. w < length labels) far_at (let k : far < length labels = omega (arith, far_l, n, m) in k) in
    let facts = lowered_step R q labels c.lower_end.new.side.labels s.arc so.0 s.back low l so.1 in
    facts.2 c.args.bound

pub returns-then-branch-clause-tail : goal.returns-then-branch-clause-tail
returns-then-branch-clause-tail c =
    let residual = c.args.residual.now in
    let p = c.args.potentials.now in
    let t = c.args.turned in
    let s = c.args.step in
    let ok = c.arcs-arcs.ensures.bounds in
    let R = seen t residual in
    let q = seen_potentials t p in
    let labels = c.args.side.now.labels in
    let near = c.ends_of-near.result.0 in
    let far = c.ends_of-near.result.1 in
    let cost = c.cost_of_next.result in
    let next = seen_step residual p ok c.requires.shown c.requires.bounded t s c.requires.step in
    let cost_at = seen_is residual p ok c.requires.shown c.requires.bounded t s c.requires.step cost c.cost_of_next.ensures in
    let near_l = near_in residual p ok c.requires.shown c.requires.bounded t s c.requires.step near c.ends_of-near.ensures.near in
    let n = c.requires.tree.long in
    let m = seen_nodes t residual in
    let label : c.get.result ≡ slice_index labels near = c.get.ensures in
    let near_at = c.ends_of-near.ensures.near ∙ near_is residual p ok c.requires.shown c.requires.bounded t s c.requires.step in
    let far_at = c.ends_of-near.ensures.far ∙ far_is residual p ok c.requires.shown c.requires.bounded t s c.requires.step in
    let sum : c.get.result + cost ≡ slice_index labels near + cost = ap (λ x. x + cost) label in
    let lower = λ (e : IsTrue c.in_ok-lower_end.field-0). subst (λ x. x < slice_index labels far) sum (c.in_ok-lower_end.ensures.lower e) in
    let made = λ (e : IsTrue c.in_ok-lower_end.field-0). c.in_ok-lower_end.ensures.labels e ∙ ap (λ x. set labels far x) sum in
    let so = tried_lower R q labels c.lower_end.new.side.labels s.arc near far cost s.back c.in_ok-lower_end.field-0 near_at far_at cost_at lower made c.if-branch.true in
    let low = step_low R q (seen_ok t residual ok) (seen_shown t residual p ok c.requires.shown) labels c.args.side.now.parents.items c.requires.tree s.arc s.back next.known next.way in
    let far_l = far_in residual p ok c.requires.shown c.requires.bounded t s c.requires.step far c.ends_of-near.ensures.far in
    let l = subst (λ w. w < length labels) far_at (let k : far < length labels = omega (arith, far_l, n, m) in k) in
    let facts = lowered_step R q labels c.lower_end.new.side.labels s.arc so.0 s.back low l so.1 in
    facts.0

pub returns-else-branch-clause-relaxed : goal.returns-else-branch-clause-relaxed
returns-else-branch-clause-relaxed c =
    let residual = c.args.residual.now in
    let p = c.args.potentials.now in
    let t = c.args.turned in
    let s = c.args.step in
    let ok = c.arcs-arcs.ensures.bounds in
    let R = seen t residual in
    let q = seen_potentials t p in
    let labels = c.args.side.now.labels in
    let near = c.ends_of-near.result.0 in
    let far = c.ends_of-near.result.1 in
    let cost = c.cost_of_next.result in
    let next = seen_step residual p ok c.requires.shown c.requires.bounded t s c.requires.step in
    let cost_at = seen_is residual p ok c.requires.shown c.requires.bounded t s c.requires.step cost c.cost_of_next.ensures in
    let near_l = near_in residual p ok c.requires.shown c.requires.bounded t s c.requires.step near c.ends_of-near.ensures.near in
    let n = c.requires.tree.long in
    let m = seen_nodes t residual in
    let label : c.get.result ≡ slice_index labels near = c.get.ensures in
    let near_at = c.ends_of-near.ensures.near ∙ near_is residual p ok c.requires.shown c.requires.bounded t s c.requires.step in
    let far_at = c.ends_of-near.ensures.far ∙ far_is residual p ok c.requires.shown c.requires.bounded t s c.requires.step in
    let relaxed = tried_relaxed R q labels s.arc near far cost c.args.bound s.back c.in_ok-lower_end.field-0 near_at far_at cost_at (λ e. let h = c.in_ok-lower_end.ensures.relaxed e in omega (arith, h, label)) c.if-branch.false in
    subst (λ ls. IsRelaxedTo R.net.arcs q ls c.args.bound s.arc s.back) (sym (c.in_ok-lower_end.ensures.same c.if-branch.false)) relaxed
