use Rattle.std.proofs.Common.{◌≡◌, arith, false}
use Rattle.std.specs.Option.{is_some, option_or}
use Rattle.std.specs.BTreeMap.{get}
use Rattle.std.proofs.lemmas.Grind.{common_steps}
use Rattle.plan_base.specs.Dir.{Direction, dir_order}
use Rattle.layer.specs.Places.{shared_place, known}
use Rattle.layer.proofs.Learned.{learned}
use Rattle.layer.proofs.places.Places.learn.Goals as goal

pub returns-in_ok-insert-in-Some-clause-ok : goal.returns-in_ok-insert-in-Some-clause-ok
returns-in_ok-insert-in-Some-clause-ok c other =
    let own = c.args.self.now.own in
    let shared = c.in_ok-shared.shared.now.value in
    let before : (dir : Direction) → get dir_order shared dir ≡ shared_place c.args.self.now.shared dir = λ dir. grind (arith, common_steps) in
    let unknown : is_some (known c.args.self.now c.args.dir) ≡ false = grind (arith, common_steps) in
    let none : is_some (option_or (get dir_order own c.args.dir) (get dir_order shared c.args.dir)) ≡ false = rw (before c.args.dir) unknown in
    let updates = rw c.in-Some.ensures.value at c.in_ok-insert-in-Some.ensures.updates in
    rw (← before other) (learned own shared c.insert.new.self c.args.dir c.args.place none updates other)
