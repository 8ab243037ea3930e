-- Serves private clauses only: the layers that are read for an ask.
use Rattle.std.specs.Prelude.{◌≤◌, List, length, All}
use Rattle.std.specs.List.{IsDistinct}
use Rattle.layer.specs.Ask.{IsGoodAsked, same_asked}
use Rattle.layer.specs.declared.ask.TheConstants.{ASKED_MAX}
use Rattle.layer.specs.declared.ask.Asked.{Asked}

-- at most ASKED_MAX layers, each good and each once
pub record AreGoodLayers (layers : List Asked) : Type 0 where
  pub few : length layers ≤ ASKED_MAX
  pub names : All IsGoodAsked layers
  pub distinct : IsDistinct same_asked layers
