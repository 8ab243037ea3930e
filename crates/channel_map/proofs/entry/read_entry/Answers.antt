use Rattle.std.proofs.Common.{◌≡◌, [], None, ap, ◌∙◌, arith}
use Rattle.json_pass.specs.Value.{value_as}
use Rattle.json_pass.proofs.Fronts.{no_token_as}
use Rattle.channel_map.specs.Entry.{entry_of}
use Rattle.channel_map.proofs.entry.read_entry.Goals as goal

pub returns-in_err-token-clause-value : goal.returns-in_err-token-clause-value
returns-in_err-token-clause-value c =
    let empty : c.args.reader.now ≡ [] = grind arith in
    let none : value_as entry_of c.args.depth c.args.reader.now ≡ None = ap (value_as entry_of c.args.depth) empty ∙ no_token_as entry_of c.args.depth in
    grind (arith, none)
