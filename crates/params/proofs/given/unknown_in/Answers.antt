use Rattle.std.proofs.Common.{sym, ◌∙◌}
use Rattle.params.proofs.Least.{passed, reached}
use Rattle.params.proofs.given.unknown_in.Goals as goal

pub loop-name-preserved : goal.loop-name-preserved
loop-name-preserved c =
    passed _ _ _ _ _ _ c.loop-name.invariant c.in-Some.ensures.steps c.deref.ensures (sym c.is_listed.ensures ∙ c.if-not-is_listed.false)

pub returns-then-not-is_listed : goal.returns-then-not-is_listed
returns-then-not-is_listed c =
    rw c.deref-then-not-is_listed.ensures (
    reached _ _ _ _ _ _ c.loop-name.invariant c.in-Some.ensures.steps c.deref.ensures (sym c.is_listed.ensures ∙ c.if-not-is_listed.true))
