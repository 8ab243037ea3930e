use Rattle.std.proofs.Common.{◌∷◌, length}
use Rattle.json.specs.Reads.{token_of}
use Rattle.channel_map.specs.Found.{gathered_in}
use Rattle.channel_map.specs.Pieces.{Opens}
use Rattle.channel_map.proofs.Progress.{Progress}
use Rattle.channel_map.proofs.pieces.read_piece.Given as goal

abbrev pub invariant-entries : goal.invariant-entries
invariant-entries l = Progress l.depth (gathered_in l.fn.found) l.fn.reader (gathered_in l.found) (token_of l.token ∷ l.reader) × Opens l.fn.reader

abbrev pub decreases-entries : goal.decreases-entries
decreases-entries l = length l.reader
