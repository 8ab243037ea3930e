-- Preferences for or against directions.
use Rattle.std.specs.Prelude.{◌≤ℤ◌}
use Rattle.layer.specs.declared.records.TheConstants.{BIAS_MIN, BIAS_MAX}
use Rattle.layer.specs.declared.records.Bias.{Bias}

-- from BIAS_MIN to BIAS_MAX percent
pub record IsGoodBias (bias : Bias) : Type 0 where
  pub low : BIAS_MIN ≤ℤ bias.bias
  pub high : bias.bias ≤ℤ BIAS_MAX
