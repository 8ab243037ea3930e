use Rattle.std.proofs.Common.{◌≡◌, ◌++◌, ◌-◌, ◌∷◌, [], nat_lt}
use Rattle.serde_json.specs.Written.{items_text}
use Rattle.workload.specs.Map.{entries_from, map_text_of}
use Rattle.workload.proofs.map.map_text.Given as goal

abbrev pub invariant-loop-place : goal.invariant-loop-place
invariant-loop-place l =
    l.text.items ++ (items_text (nat_lt 0 l.place) (entries_from l.nodes (l.channels - l.place) l.place l.draws) ++ 125 ∷ []) ≡ map_text_of l.number l.nodes l.channels
