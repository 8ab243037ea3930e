-- Serves private clauses only: lists of asked layers.
use Rattle.std.specs.Prelude.{◌≡◌, ℕ, ◌≤◌, List, length, All}
use Rattle.std.specs.List.{IsDistinct}
use Rattle.layer.specs.Ask.{IsGoodAsked, named_layers, same_asked}
use Rattle.layer.specs.declared.ask.Asked.{Asked}
use Rattle.layer.specs.declared.ask.TheConstants.{ASKED_MAX}

-- layers that an ask may have, so many of them by name
pub record AreGoodLayers (count : ℕ) (asked : List Asked) : Type 0 where
  pub few : length asked ≤ ASKED_MAX
  pub names : All IsGoodAsked asked
  pub distinct : IsDistinct same_asked asked
  pub named : length (named_layers asked) ≡ count
