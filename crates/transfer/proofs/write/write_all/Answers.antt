use Rattle.std.proofs.Common.{◌≤◌, ◌-◌, length, arith}
use Rattle.std.proofs.lemmas.List.{take_rest, length-drop}
use Rattle.std.proofs.Math.Seq.{take-add}
use Rattle.port_io.proofs.Bytes.{appends_more}
use Rattle.transfer.proofs.write.write_all.Goals as goal

pub loop-done-preserved : goal.loop-done-preserved
loop-done-preserved g c =
    let bytes = c.args.bytes.now in
    let done = c.loop-done.done in
    let count = c.in-Ok.count in
    let piece = rw take_rest at c.in-Ok.ensures.bytes in
    let most : count ≤ length bytes - done = rw (take_rest, length-drop) at c.in-Ok.ensures.bound in
    let grown = appends_more _ _ _ _ _ c.loop-done.invariant.1 piece in (
      omega (arith, most, c.loop-done.invariant.0, c.loop-done-test.true),
      rw (take-add done count bytes) grown,
      omega (arith, c.loop-done.invariant.2, c.in-Ok.ensures.cause.never_falls),
      rw c.in-Ok.ensures.beside c.loop-done.invariant.3,
    )
