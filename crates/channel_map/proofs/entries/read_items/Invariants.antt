use Rattle.std.proofs.Common.{◌≡◌, ℕ, ◌≤◌, length}
use Rattle.json.specs.Json.{items, value}
use Rattle.serde_json.specs.Read.{of_items, converted}
use Rattle.json.specs.Json.{parse_map}
use Rattle.channel_map.specs.Channels.{gathered_of}
use Rattle.channel_map.specs.Found.{joined}
use Rattle.channel_map.proofs.entries.read_items.Given as goal

abbrev pub invariant-items : goal.invariant-items
invariant-items l =
    (n : ℕ) × (length l.reader ≤ n)
    × (parse_map gathered_of (converted of_items (items (value l.depth) (length l.initial.reader) l.initial.reader)) ≡ parse_map (λ ds. joined (l.edges.items, l.bad) (gathered_of ds)) (converted of_items (items (value l.depth) n l.reader)))
    × (length l.reader ≤ length l.initial.reader)

abbrev pub decreases-items : goal.decreases-items
decreases-items l = length l.reader
