use Rattle.std.proofs.Common.{rules}
use Rattle.channel_map.specs.Reading.{local_reading}
use Rattle.askrened.proofs.load.load_local.Goals as goal

pub returns-in_err-text-clause-err : goal.returns-in_err-text-clause-err
returns-in_err-text-clause-err g c = let tells = c.in_err-text.ensures.err local_reading in search rules
