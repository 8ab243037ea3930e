use Rattle.std.proofs.Common.{rules}
use Rattle.channel_map.specs.Reading.{map_reading}
use Rattle.askrened.proofs.load.load_map.Goals as goal

pub returns-in_err-text-clause-err : goal.returns-in_err-text-clause-err
returns-in_err-text-clause-err g c = let tells = c.in_err-text.ensures.err map_reading in search rules
