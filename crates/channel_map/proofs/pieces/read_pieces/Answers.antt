use Rattle.std.proofs.Common.{None, subst}
use denote.Text.{Utf8}
use denote.Shadow.{shadow}
use Rattle.channel_map.specs.declared.pieces.TheConstants.{DEPTH}
use Rattle.channel_map.specs.Found.{gathered_in}
use Rattle.channel_map.specs.Pieces.{GoesOn}
use Rattle.channel_map.proofs.Progress.{read_first_piece, read_next_piece, read_last_piece}
use Rattle.channel_map.proofs.pieces.read_pieces.Goals as goal

pub pieces-init : goal.pieces-init
pieces-init c =
    let text : shadow (Utf8 c.in-Some.rest.now) = search in
    let done = c.in_ok-read_first.ensures.ok c.if-not-branch.false in
    let new = gathered_in c.read_first.new.found in (
      text,
      read_first_piece c.args.text.now c.in-Some.first.now c.in-Some.rest.now done.0 new c.in-Some.ensures done.1 (subst (λ es. GoesOn DEPTH (es, None) done.0 new) c.new.ensures.items done.2),
    )

pub pieces-preserved : goal.pieces-preserved
pieces-preserved c =
    let text : shadow (Utf8 c.in-Some-cut.more.now) = search in
    let done = c.in_ok-read_next.ensures in (
      text,
      read_next_piece c.args.text.now c.pieces.rest.now c.in-Some-cut.piece.now c.in-Some-cut.more.now (gathered_in c.pieces.found) (gathered_in c.read_next.new.found) c.pieces.invariant.1 c.in-Some-cut.ensures (done.opens c.if-not-branch-2.false) (done.ok c.if-not-branch-2.false),
    )

pub returns-then-branch-clause-ok : goal.returns-then-branch-clause-ok
returns-then-branch-clause-ok c =
    let done = c.in_ok-read_last.ensures in
    read_last_piece c.args.text.now c.pieces.rest.now (gathered_in c.pieces.found) (gathered_in c.read_last.new.found) c.pieces.invariant.1 (done.opens c.if-branch.true) (done.ok c.if-branch.true)
