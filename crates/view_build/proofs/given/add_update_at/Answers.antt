use Rattle.std.proofs.Common.{◌≡◌, Some, true, false, eqb, arith, sym, ◌∙◌}
use Rattle.std.specs.Option.{option_eq}
use Rattle.std.proofs.lemmas.Bool.Decides.{nat_tests}
use Rattle.plan_base.specs.Dir.{Direction}
use Rattle.layer.specs.declared.records.Update.{Update}
use Rattle.view_build.specs.Given.{fields_at, with_update}
use Rattle.view_build.proofs.Firsts.{turn_first, turn_later, place_is, place_is_not}
use Rattle.view_build.proofs.given.add_update_at.Goals as goal

abbrev dir_of : Update → Direction
dir_of change = change.dir

pub returns-then-ne-clause-ok : goal.returns-then-ne-clause-ok
returns-then-ne-clause-ok c dir before h =
    let list = c.updates.ensures.list in
    let is = rw list at c.index-updates-i.is in
    let other : option_eq eqb c.update_place.result (Some c.args.i) ≡ false = grind (arith, nat_tests) in
    let later = rw c.update_place.ensures.place at (place_is_not c.update_place.result c.args.i other) in
    turn_later dir_of with_update c.args.layer.now.updates c.args.i c.index-updates-i.result c.requires.place is dir later before (fields_at c.args.map.now dir) h

pub returns-clause-ok : goal.returns-clause-ok
returns-clause-ok c dir before h =
    let list = c.updates.ensures.list in
    let is = rw list at c.index-updates-i.is in
    let same : option_eq eqb c.update_place.result (Some c.args.i) ≡ true = grind (arith, nat_tests) in
    let first = sym c.update_place.ensures.place ∙ place_is c.update_place.result c.args.i same in
    turn_first dir_of with_update c.args.layer.now.updates c.args.i c.index-updates-i.result c.requires.place is dir first before (fields_at c.args.map.now dir) (fields_at c.add_update.new.map dir) h (c.in_ok-add_update.ensures.ok dir)
