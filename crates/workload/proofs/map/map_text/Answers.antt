use Rattle.workload.proofs.Turns.{map_start}
use Rattle.workload.proofs.map.map_text.Goals as goal

pub loop-place-init : goal.loop-place-init
loop-place-init c =
    rw (c.in_ok-extend_from_slice.ensures.items, c.new-text.ensures.items, c.new-draws.ensures) (map_start c.args.number c.args.nodes c.args.channels)
