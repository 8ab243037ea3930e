-- What a payer asks for: an amount from one node to another, with the layers to use and the limits of the answer.
use Rattle.std.specs.Prelude.{◌≡◌, ◌≢◌, ℕ, ◌≤◌, List, [], ◌∷◌, length, All, Bool, true, false, nat_eq}
use Rattle.std.specs.List.{IsDistinct, list_any}
use Rattle.std.specs.Cmp.Lexicographic.{pointwise}
use Rattle.plan_base.specs.declared.amount.TheConstants.{MAX}
use Rattle.layer.specs.Name.{is_good_name}
use Rattle.layer.specs.declared.ask.TheConstants.{ASKED_MAX, PARTS_MAX}
use Rattle.layer.specs.declared.ask.Auto as automatic
use Rattle.layer.specs.declared.ask.Auto.TheVariants.{LocalChans, SourceFree, NoMpp}
use Rattle.layer.specs.declared.ask.Asked.{Asked}
use Rattle.layer.specs.declared.ask.Asked.TheVariants.{Auto, Named}
use Rattle.layer.specs.declared.ask.Ask.{Ask}

abbrev pub same_automatic : automatic.Auto → automatic.Auto → Bool
same_automatic LocalChans LocalChans = true
same_automatic LocalChans SourceFree = false
same_automatic LocalChans NoMpp = false
same_automatic SourceFree LocalChans = false
same_automatic SourceFree SourceFree = true
same_automatic SourceFree NoMpp = false
same_automatic NoMpp LocalChans = false
same_automatic NoMpp SourceFree = false
same_automatic NoMpp NoMpp = true

-- whether two items of an ask's layers are the same layer
abbrev pub same_asked : Asked → Asked → Bool
same_asked (Auto a) (Auto b) = same_automatic a b
same_asked (Auto a) (Named name) = false
same_asked (Named name) (Auto a) = false
same_asked (Named a) (Named b) = pointwise nat_eq a b

-- a named layer has the name of a layer
abbrev pub IsGoodAsked : Asked → Type 0
IsGoodAsked (Auto a) = Unit {0}
IsGoodAsked (Named name) = is_good_name name ≡ true

-- from one node to another, 1 to MAX msat; at most ASKED_MAX layers, each once; fees of at most MAX msat; 1 to PARTS_MAX
-- parts
pub record IsGoodAsk (ask : Ask) : Type 0 where
  pub apart : ask.source ≢ ask.destination
  pub some : 1 ≤ ask.amount
  pub most : ask.amount ≤ MAX
  pub few_layers : length ask.layers ≤ ASKED_MAX
  pub names : All IsGoodAsked ask.layers
  pub distinct : IsDistinct same_asked ask.layers
  pub fees : ask.maxfee ≤ MAX
  pub some_parts : 1 ≤ ask.maxparts
  pub few_parts : ask.maxparts ≤ PARTS_MAX

-- the names of the layers that are asked for by name, in order
abbrev pub named_layers : List Asked → List (List ℕ)
named_layers [] = []
named_layers (Auto a ∷ asked) = named_layers asked
named_layers (Named name ∷ asked) = name ∷ named_layers asked

-- whether an item is this automatic layer
abbrev pub is_automatic_layer : automatic.Auto → Asked → Bool
is_automatic_layer wanted (Auto a) = same_automatic wanted a
is_automatic_layer wanted (Named name) = false

-- whether an automatic layer is asked for
abbrev pub asks_for : automatic.Auto → List Asked → Bool
asks_for wanted asked = list_any (is_automatic_layer wanted) asked
