use Rattle.std.proofs.Common.{ap, ◌∙◌, arith}
use Rattle.std.specs.Prelude.{unwrap_or}
use Rattle.hex.specs.Hex.{hex_digit_value}
use Rattle.plan_base.proofs.Digits.{value_in_table}
use Rattle.plan_base.proofs.node_id.digit_value.Goals as goal

pub returns : goal.returns
returns c = value_in_table c.from.result 0 (omega arith) ∙ ap (λ k. unwrap_or (hex_digit_value k) 255) c.from.ensures
