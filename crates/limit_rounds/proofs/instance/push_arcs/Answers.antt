use Rattle.std.proofs.Common.{◌≡◌, ◌<◌, ◌∙◌, ◌+◌, ◌++◌, [], ◌∷◌, arith, ap, subst, sym, length}
use Rattle.std.specs.Prelude.{drop}
use Rattle.round_rules.specs.State.{state_of}
use Rattle.round_rules.specs.Instance.{arc_of, arcs_with}
use Rattle.limit_rounds.proofs.Built.{eight_rooms}
use Rattle.limit_rounds.proofs.Building.{piece_push, piece_skip}
use Rattle.limit_rounds.proofs.instance.push_arcs.Goals as goal
use Rattle.limit_rounds.proofs.instance.push_arcs.Goals.{then-room-gt0+in_ok-push, else-room-gt0}

pub loop-piece-preserved : goal.loop-piece-preserved
loop-piece-preserved c =
    let f = arc_of c.args.amount (state_of c.args.round.now) c.args.dir c.args.from.now in
    let rooms = c.pieces-rooms.result in
    let i = c.loop-piece.piece in
    let l = c.loop-piece-test.true in
    let eight = ap length c.pieces-rooms.ensures.value ∙ eight_rooms c.args.from.now.min c.args.from.now.max c.args.round.now.unit c.args.cap in
    let within : i < length rooms = omega (arith, l, eight) in
    elim c.if-room-gt0.branch [
      | then-room-gt0+in_ok-push w ↦ piece_push f c.loop-piece.arcs.items c.if-room-gt0.arcs.items rooms i _ within w.if-room-gt0.true (ap (λ v. v.items) w.arcs-is ∙ w.in_ok-push.ensures.items ∙ ap (λ a. c.loop-piece.arcs.items ++ a ∷ []) w.piece_of.ensures) c.loop-piece.invariant
      | else-room-gt0 w ↦ subst (λ v. v.items ++ arcs_with f (i + 1) (drop (i + 1) rooms) ≡ c.args.arcs.now.items ++ arcs_with f 0 rooms) (sym w.arcs-is) (piece_skip f c.loop-piece.arcs.items rooms i _ within w.if-room-gt0.false c.loop-piece.invariant)
    ]
