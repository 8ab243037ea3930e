-- What an answer to an ask is computed from: the layers that it names and the reservations, both of one moment.
use Rattle.std.specs.Prelude.{◌≡◌, List, length, All}
use Rattle.plan_base.specs.declared.held.Reservation.{Reservation}
use Rattle.plan_base.specs.Held.{IsGoodReservation}
use Rattle.layer.specs.Layer.{LayerLists}
use Rattle.layer.specs.Ask.{IsGoodAsk, named_layers}
use Rattle.layer.specs.declared.ask.Ask.{Ask}

-- an ask, the layers that it names, in its order, and all reservations
pub record SnapshotParts : Type 0 where
  pub ask : Ask
  pub layers : List LayerLists
  pub held : List Reservation

-- the invariant of a snapshot: one layer for each name
pub record IsGoodSnapshot (parts : SnapshotParts) : Type 0 where
  pub ask : IsGoodAsk parts.ask
  pub layers : length parts.layers ≡ length (named_layers parts.ask.layers)
  pub held : All IsGoodReservation parts.held
