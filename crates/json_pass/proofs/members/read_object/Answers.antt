use Rattle.std.proofs.Common.{◌≡◌, [], None, ap, ◌∙◌, arith}
use Rattle.json_pass.specs.Value.{value_as}
use Rattle.json_pass.specs.Members.{texts, wanted_values}
use Rattle.json_pass.proofs.Fronts.{no_token_as}
use Rattle.json_pass.proofs.members.read_object.Goals as goal

pub returns-in_err-token-clause-value : goal.returns-in_err-token-clause-value
returns-in_err-token-clause-value c =
    let empty : c.args.reader.now ≡ [] = grind arith in
    let none : value_as (wanted_values (texts c.args.names.now)) c.args.depth c.args.reader.now ≡ None = ap (value_as (wanted_values (texts c.args.names.now)) c.args.depth) empty ∙ no_token_as (wanted_values (texts c.args.names.now)) c.args.depth in
    grind (arith, none)
