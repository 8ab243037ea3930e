use Rattle.std.proofs.Common.{refl, sym, ◌∙◌, arith}
use Rattle.plan_base.specs.Held.{IsGoodReservation}
use Rattle.std.proofs.lemmas.List.Elements.{All-same}
use Rattle.reservations.proofs.Unmarked.{unmarked_none, unmarked_good}
use Rattle.reservations.proofs.Kept.{keeps_moved, keeps_dropped, keeps_all}
use Rattle.reservations.proofs.free.drop_marked.Goals as goal
use Rattle.reservations.proofs.free.drop_marked.Goals.{then-not-marks-place, else-not-marks-place}

pub loop-place-init : goal.loop-place-init
loop-place-init c = record { front = sym (unmarked_none _); rest = refl; kept_before = omega arith; within = omega arith; long = refl }

pub loop-place-preserved : goal.loop-place-preserved
loop-place-preserved c = elim c.if-not-marks-place.branch [
  | then-not-marks-place w ↦ rw (w.list-is, w.kept-is)
      (keeps_moved c.loop-place.invariant c.requires (omega (arith, c.loop-place-test.true, c.len-place-end.ensures, c.loop-place.invariant.long)) w.if-not-marks-place.true w.move_down.ensures)
  | else-not-marks-place w ↦ rw (w.list-is, w.kept-is)
      (keeps_dropped c.loop-place.invariant c.requires (omega (arith, c.loop-place-test.true, c.len-place-end.ensures, c.loop-place.invariant.long)) w.if-not-marks-place.false)
]

pub returns-clause-kept : goal.returns-clause-kept
returns-clause-kept c = c.truncate.ensures.items ∙ keeps_all c.loop-place.invariant c.requires (omega (arith, c.loop-place-test.false, c.len-place-end.ensures))

pub returns-clause-good : goal.returns-clause-good
returns-clause-good c good = All-same IsGoodReservation _ _ (c.truncate.ensures.items ∙ keeps_all c.loop-place.invariant c.requires (omega (arith, c.loop-place-test.false, c.len-place-end.ensures))) (unmarked_good _ _ good)
