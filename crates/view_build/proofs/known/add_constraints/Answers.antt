use Rattle.std.proofs.Common.{◌≡◌, ◌+◌, ◌∷◌, [], ◌++◌, take, cond, sym, ap, ◌∙◌}
use Rattle.std.proofs.lemmas.List.{take_more}
use Rattle.plan_base.specs.Dir.{same_dir}
use Rattle.view_build.specs.declared.known.Known.{Known}
use Rattle.view_build.specs.Known.{known_at, with_bound, with_constraints}
use Rattle.view_build.proofs.Bounds.{constraints_push}
use Rattle.view_build.proofs.known.add_constraints.Goals as goal

pub loop-constraint-preserved : goal.loop-constraint-preserved
loop-constraint-preserved c dir =
    let l = c.loop-constraint in
    let constraints = c.args.constraints.now in
    let item = c.constraint-item.result in
    let before = known_at c.args.map.now dir in
    let more : take (l.constraint-index + 1) constraints ≡ take l.constraint-index constraints ++ item ∷ [] =
    take_more constraints l.constraint-index item c.loop-constraint-test.true ∙ ap (λ y. take l.constraint-index constraints ++ y ∷ []) (sym c.constraint-item.is) in
    c.in_ok-add_constraint.ensures dir ∙ ap (λ (k : Known). cond (same_dir item.dir dir) (with_bound k item.bound item.amount) k) (l.invariant dir)
    ∙ sym (constraints_push dir before (take l.constraint-index constraints) item) ∙ ap (with_constraints dir before) (sym more)
