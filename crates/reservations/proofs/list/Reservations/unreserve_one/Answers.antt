use Rattle.std.proofs.Common.{◌≡◌, [], ◌∷◌, length, take, ap, sym, ◌∙◌, arith}
use Rattle.reservations.specs.Reservations.{set_free}
use Rattle.reservations.proofs.Good.{clear_fewer}
use Rattle.reservations.proofs.SetFree.{one_free, one_refused}
use Rattle.reservations.proofs.list.Reservations.unreserve_one.Goals as goal

pub returns-then-not-free_one-clause-refusal : goal.returns-then-not-free_one-clause-refusal
returns-then-not-free_one-clause-refusal c =
    ap (set_free (c.args.item.now ∷ []) 0) (sym c.self.view_is) ∙ one_refused c.args.item.now c.self.inside.list.items c.if-not-free_one.ensures.freed

pub returns-clause-ok : goal.returns-clause-ok
returns-clause-ok c =
    ap (set_free (c.args.item.now ∷ []) 0) (sym c.self.view_is) ∙ one_free c.args.item.now c.self.inside.list.items _ c.if-not-free_one.ensures.freed

pub invariant_of-self-2 : goal.invariant_of-self-2
invariant_of-self-2 c =
    let count : c.len.result ≡ length c.free_one.new.list.items = omega (arith, c.len.ensures) in (
      record { amounts = c.if-not-free_one.ensures.good c.self.invariant.0.amounts; few = omega (arith, c.if-not-free_one.ensures.shorter, c.self.invariant.0.few) },
      clear_fewer (length c.self.inside.list.items) (length c.free_one.new.list.items) _ _ c.self.invariant.1
          (c.truncate.ensures.items ∙ ap (λ n. take n c.self.inside.marks.items) count) c.if-not-free_one.ensures.shorter,
    )
