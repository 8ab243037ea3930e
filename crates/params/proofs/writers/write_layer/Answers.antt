use Rattle.askrene_command.specs.declared.command.Command.TheVariants.{CreateLayer, RemoveLayer}
use Rattle.params.proofs.Trips.{layer_trip}
use Rattle.params.proofs.writers.write_layer.Goals as goal

pub returns-clause-created : goal.returns-clause-created
returns-clause-created c = layer_trip CreateLayer _ c.in_ok-put_required.ensures.back

pub returns-clause-removed : goal.returns-clause-removed
returns-clause-removed c = layer_trip RemoveLayer _ c.in_ok-put_required.ensures.back
