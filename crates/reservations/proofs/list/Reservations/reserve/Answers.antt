use Rattle.std.proofs.Common.{arith, sym, subst}
use Rattle.reservations.specs.Reservations.{IsGoodList}
use Rattle.reservations.proofs.Good.{good_reserved, clear_reserved}
use Rattle.reservations.proofs.list.Reservations.reserve.Goals as goal

pub invariant_of-self-2 : goal.invariant_of-self-2
invariant_of-self-2 c = (
  subst IsGoodList (sym c.in_ok-append.ensures.ok)
      (good_reserved c.self.inside.list.items c.args.path.now c.args.now c.args.caller c.self.invariant.0 c.requires (omega (arith, c.if-path-length.false, c.len-length.ensures, c.self.invariant.0.few))),
  clear_reserved c.self.inside.list.items _ c.args.path.now c.args.now c.args.caller _ _ c.in_ok-append.ensures.ok c.self.invariant.1 c.in_ok-append.ensures.marks,
)
