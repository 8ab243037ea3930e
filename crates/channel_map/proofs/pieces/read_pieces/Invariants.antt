use Rattle.std.proofs.Common.{length}
use denote.Text.{Utf8}
use denote.Shadow.{shadow}
use Rattle.channel_map.specs.Found.{gathered_in}
use Rattle.channel_map.proofs.Progress.{IsReadTo}
use Rattle.channel_map.proofs.pieces.read_pieces.Given as goal

abbrev pub invariant-pieces : goal.invariant-pieces
invariant-pieces l = shadow (Utf8 l.rest) × IsReadTo l.text (gathered_in l.found) l.rest

abbrev pub decreases-pieces : goal.decreases-pieces
decreases-pieces l = length l.rest
