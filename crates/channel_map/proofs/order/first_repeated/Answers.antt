use Rattle.std.proofs.Common.{◌≡◌, ◌+◌, ◌++◌, [], ◌∷◌, drop, true, false, sym, ap, ◌∙◌, arith}
use Rattle.std.specs.List.{list_any}
use Rattle.plan_base.specs.Dir.{same_dir}
use Rattle.channel_map.specs.Reading.{repeated_after}
use Rattle.channel_map.proofs.Turning.{repeat_found, repeat_later}
use Rattle.channel_map.proofs.order.first_repeated.Goals as goal

pub returns-then-not-branch : goal.returns-then-not-branch
returns-then-not-branch c =
    let l = c.loop-edge in
    let edge = c.edge-item.result in
    let has : list_any (same_dir edge.dir) l.seen.keys ≡ true = grind arith in
    sym (repeat_found c.args.edges.now l.edge-index edge (omega arith) c.edge-item.is l.seen.keys has) ∙ l.invariant

pub loop-edge-preserved : goal.loop-edge-preserved
loop-edge-preserved c =
    let l = c.loop-edge in
    let edge = c.edge-item.result in
    let lacks : list_any (same_dir edge.dir) l.seen.keys ≡ false = grind arith in
    let keys : c.insert.new.self.keys ≡ l.seen.keys ++ edge.dir ∷ [] = rw lacks at c.in_ok-insert.ensures.keys in
    ap (λ seen. repeated_after seen (drop (l.edge-index + 1) c.args.edges.now)) keys
    ∙ sym (repeat_later c.args.edges.now l.edge-index edge (omega arith) c.edge-item.is l.seen.keys lacks) ∙ l.invariant
