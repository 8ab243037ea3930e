use Rattle.std.proofs.Common.{◌≡◌, Some, true, false, eqb, arith, sym, ◌∙◌}
use Rattle.std.specs.Option.{option_eq}
use Rattle.std.proofs.lemmas.Bool.Decides.{nat_tests}
use Rattle.plan_base.specs.Dir.{Direction}
use Rattle.layer.specs.declared.records.Bias.{Bias}
use Rattle.view_build.specs.Known.{known_at, with_bias}
use Rattle.view_build.proofs.Firsts.{turn_first, turn_later, place_is, place_is_not}
use Rattle.view_build.proofs.known.add_bias_at.Goals as goal

abbrev dir_of : Bias → Direction
dir_of bias = bias.dir

pub returns-then-ne-clause-ok : goal.returns-then-ne-clause-ok
returns-then-ne-clause-ok c dir before h =
    let list = c.biases.ensures.list in
    let is = rw list at c.index-biases-i.is in
    let other : option_eq eqb c.bias_place.result (Some c.args.i) ≡ false = grind (arith, nat_tests) in
    let later = rw c.bias_place.ensures.place at (place_is_not c.bias_place.result c.args.i other) in
    turn_later dir_of with_bias c.args.layer.now.biases c.args.i c.index-biases-i.result c.requires.place is dir later before (known_at c.args.map.now dir) h

pub returns-clause-ok : goal.returns-clause-ok
returns-clause-ok c dir before h =
    let list = c.biases.ensures.list in
    let is = rw list at c.index-biases-i.is in
    let same : option_eq eqb c.bias_place.result (Some c.args.i) ≡ true = grind (arith, nat_tests) in
    let first = sym c.bias_place.ensures.place ∙ place_is c.bias_place.result c.args.i same in
    turn_first dir_of with_bias c.args.layer.now.biases c.args.i c.index-biases-i.result c.requires.place is dir first before (known_at c.args.map.now dir) (known_at c.add_bias.new.map dir) h (c.in_ok-add_bias.ensures.ok dir)
