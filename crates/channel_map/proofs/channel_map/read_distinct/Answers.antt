use Rattle.std.proofs.Common.{ap, refl, ◌∙◌}
use Rattle.channel_map.specs.Edge.{IsAscending}
use Rattle.channel_map.specs.Reading.{reading_of_distinct}
use Rattle.channel_map.proofs.Ascending.{none_repeated}
use Rattle.channel_map.proofs.channel_map.read_distinct.Goals as goal

pub returns-then-ascend-clause-ok : goal.returns-then-ascend-clause-ok
returns-then-ascend-clause-ok c =
    let old = c.in_ok-edges.edges.items in
    let up : IsAscending c.arrange.new.edges.items = rw c.deref.ensures.value at (c.if-ascend.ensures refl) in
    record {
      entries = old;
      read_as = λ is_large. c.in_ok-edges.ensures.ok is_large ∙ ap (reading_of_distinct is_large old) (none_repeated old c.arrange.new.edges.items c.arrange.ensures.same up);
      good = c.in_ok-edges.ensures.good;
      same = c.arrange.ensures.same;
      ascending = up;
    }
