use Rattle.std.proofs.Common.{sym}
use Rattle.askrene_state.proofs.Steps.{list_unknown, list_one}
use Rattle.askrene_state.proofs.layers.Layers.list.Goals as goal

pub returns-in_default-get : goal.returns-in_default-get
returns-in_default-get c =
    rw (c.in_ok-layer.ensures, c.in-Some.is, ← c.self.view_is) (list_unknown c.self.inside.layers.entries c.in-Some.name (sym c.in_default-get.ensures.value))

pub returns : goal.returns
returns c =
    rw (c.in_ok-push.ensures.ok, c.new-layers.ensures, c.in_ok-listed.ensures, c.in-Some.is, ← c.self.view_is)
    (list_one c.self.inside.layers.entries c.in-Some.name c.in-Some-get.layer.now (sym c.in-Some-get.ensures.value))
