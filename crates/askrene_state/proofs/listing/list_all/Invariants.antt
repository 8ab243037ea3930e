use Rattle.std.proofs.Common.{◌≡◌, map, take}
use Rattle.askrene_state.specs.LayerSteps.{listed_of}
use Rattle.askrene_state.proofs.listing.list_all.Given as goal

abbrev pub invariant-loop-place : goal.invariant-loop-place
invariant-loop-place l = l.list ≡ map listed_of (take l.place l.layers.entries)
