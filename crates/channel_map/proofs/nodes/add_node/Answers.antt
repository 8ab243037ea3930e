use Rattle.std.proofs.Common.{◌≡◌, ◌<◌, [], length, get_or, refl, sym, ◌∙◌}
use Rattle.std.proofs.lemmas.Option.{get_or_from_slice_get}
use Rattle.std.proofs.lemmas.Slice.Eq.{bytes_eq-Decides}
use Rattle.channel_map.proofs.Places.{there}
use Rattle.channel_map.proofs.nodes.add_node.Goals as goal

pub returns-then-is_at-clause-keys : goal.returns-then-is_at-clause-keys
returns-then-is_at-clause-keys c =
    let keys = c.args.nodes.now.keys in
    let within : c.args.likely < length keys = rw c.as_slice.ensures.keys at (c.if-is_at.ensures.within refl) in
    let is : get_or keys c.args.likely [] ≡ c.args.node = rw c.as_slice.ensures.keys at (c.if-is_at.ensures.is refl) in
    sym (there keys c.args.node c.args.likely within is)

pub returns-clause-is : goal.returns-clause-is
returns-clause-is c =
    let stored = c.in_ok-added.ensures.stored in
    get_or_from_slice_get c.insert_full.new.self.keys c.in_ok-added.added.0 stored.0 [] stored.1 ∙ sym ((bytes_eq-Decides c.args.node stored.0).0 stored.2)
