use Rattle.askrene_command.specs.declared.command.Command.TheVariants.{Reserve, Unreserve}
use Rattle.params.proofs.Trips.{path_trip}
use Rattle.params.proofs.writers.write_path.Goals as goal

pub returns-clause-reserved : goal.returns-clause-reserved
returns-clause-reserved c = path_trip Reserve _ c.in_ok-put_required.ensures.back

pub returns-clause-unreserved : goal.returns-clause-unreserved
returns-clause-unreserved c = path_trip Unreserve _ c.in_ok-put_required.ensures.back
