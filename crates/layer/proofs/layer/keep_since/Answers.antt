use Rattle.std.proofs.Common.{arith}
use Rattle.std.proofs.lemmas.List.Filters.{FiltersInPlace-more_set, FiltersInPlace-more_no}
use Rattle.std.proofs.lemmas.Bool.{le-leb, lt-leb}
use Rattle.layer.proofs.layer.keep_since.Goals as goal

pub loop-place-preserved : goal.loop-place-preserved
loop-place-preserved c = elim c.if-cutoff-constraint.branch [
  | goal.then-cutoff-constraint w ↦ rw (w.constraints-is, w.kept-is)
      (FiltersInPlace-more_set c.loop-place.invariant (omega arith) (le-leb _ _ w.if-cutoff-constraint.true) c.index-constraint.ensures)
  | goal.else-cutoff-constraint w ↦ rw (w.constraints-is, w.kept-is)
      (FiltersInPlace-more_no c.loop-place.invariant (omega arith) (lt-leb _ _ w.if-cutoff-constraint.false) c.index-constraint.ensures)
]
