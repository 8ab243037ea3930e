-- Which commands are good. These are the commands that a request can be read as. Ids of nodes, directions, fees and delays
-- have their ranges by their types.
use Rattle.std.specs.Prelude.{◌≡◌, ◌≤◌, ◌==◌, ℕ, List, length, Bool, All, true, false, IfSome}
use Rattle.plan_base.specs.declared.held.Held.{Held}
use Rattle.plan_base.specs.Held.{IsGoodHeld}
use Rattle.plan_base.specs.declared.amount.TheConstants.{MAX}
use Rattle.layer.specs.Name.{is_good_name}
use Rattle.layer.specs.Created.{IsGoodCreated}
use Rattle.layer.specs.Update.{IsGoodUpdate}
use Rattle.layer.specs.Bias.{IsGoodBias}
use Rattle.layer.specs.Ask.{IsGoodAsk}
use Rattle.askrene_command.specs.declared.command.TheConstants.{PATH_MAX}
use Rattle.askrene_command.specs.declared.command.Inform.{Inform}
use Rattle.askrene_command.specs.declared.command.Inform.TheVariants.{Constrained, Unconstrained, Succeeded}
use Rattle.askrene_command.specs.declared.command.Command.{Command}
use Rattle.askrene_command.specs.declared.command.Command.TheVariants.{CreateLayer, RemoveLayer, ListLayers, CreateChannel, UpdateChannel, InformChannel, BiasChannel, DisableNode, Age, Reserve, Unreserve, ListReservations, GetRoutes}

-- the name of a layer
abbrev pub IsGoodName : List ℕ → Type 0
IsGoodName layer = is_good_name layer ≡ true

-- a payment of 0 msat cannot fail for lack of liquidity
abbrev pub is_impossible : Inform → ℕ → Bool
is_impossible Constrained amount = amount == 0
is_impossible Unconstrained amount = false
is_impossible Succeeded amount = false

pub record IsGoodInform (amount : ℕ) (kind : Inform) : Type 0 where
  pub possible : is_impossible kind amount ≡ false
  pub most : amount ≤ MAX

-- 1 to PATH_MAX items, each with a valid amount
pub record IsGoodPath (path : List Held) : Type 0 where
  pub some : 1 ≤ length path
  pub few : length path ≤ PATH_MAX
  pub amounts : All IsGoodHeld path

abbrev pub IsGoodCommand : Command → Type 0
IsGoodCommand (CreateLayer layer) = IsGoodName layer
IsGoodCommand (RemoveLayer layer) = IsGoodName layer
IsGoodCommand (ListLayers layer) = IfSome layer IsGoodName
IsGoodCommand (CreateChannel layer channel) = IsGoodName layer × IsGoodCreated channel
IsGoodCommand (UpdateChannel layer change) = IsGoodName layer × IsGoodUpdate change
IsGoodCommand (InformChannel layer dir amount kind) = IsGoodName layer × IsGoodInform amount kind
IsGoodCommand (BiasChannel layer bias) = IsGoodName layer × IsGoodBias bias
IsGoodCommand (DisableNode layer node) = IsGoodName layer
IsGoodCommand (Age layer cutoff) = IsGoodName layer
IsGoodCommand (Reserve path) = IsGoodPath path
IsGoodCommand (Unreserve path) = IsGoodPath path
IsGoodCommand ListReservations = Unit {0}
IsGoodCommand (GetRoutes ask) = IsGoodAsk ask
