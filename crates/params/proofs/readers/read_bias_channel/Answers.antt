use Rattle.std.proofs.Common.{refl, rules, w8}
use Rattle.std.specs.Prelude.{FitsSigned}
use Rattle.std.proofs.lemmas.Int.{to_z-of_z}
use Rattle.params.specs.Methods.{bias_channel_command}
use Rattle.params.proofs.readers.read_bias_channel.Goals as goal

-- a bias of one byte is written and read back
pub returns-clause-ok : goal.returns-clause-ok
unfolding bias_channel_command
returns-clause-ok c =
    let fits : FitsSigned w8 c.in_ok-bias.bias = search rules in
    rw (
      c.in_ok-refuse_extra_items.ensures.ok,
      c.in_ok-layer.ensures.ok,
      c.in_ok-dir.ensures.ok,
      c.in_ok-bias.ensures.ok,
      c.in_ok-refuse_unknown_names.ensures.ok,
      to_z-of_z w8 c.in_ok-bias.bias fits,
    ) refl
