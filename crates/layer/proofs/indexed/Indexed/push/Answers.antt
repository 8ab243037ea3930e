use Rattle.std.proofs.Common.{◌≡◌, ◌∷◌, [], ◌++◌, rules, length}
use Rattle.layer.specs.Places.{Learns}
use Rattle.layer.proofs.Index.{index_pushed}
use Rattle.layer.proofs.indexed.Indexed.push.Goals as goal

pub invariant_of-self-2 : goal.invariant_of-self-2
invariant_of-self-2 g c =
    let items = c.self.inside.items.items in
    let pushed : c.push.new.self.items ≡ items ++ c.args.item ∷ [] = search rules in
    let place : c.len.result ≡ length items = search rules in
    let learns : Learns c.self.inside.places c.learn.new.self (g.T.Directed.dir c.args.item) (length items) = rw (← c.dir.ensures, ← place) c.in_ok-learn.ensures.ok in
    rw pushed (index_pushed g.T.Directed.dir items c.args.item c.self.inside.places c.learn.new.self c.self.invariant learns)
