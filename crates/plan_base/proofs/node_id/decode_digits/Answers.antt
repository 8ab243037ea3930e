use Rattle.std.proofs.Common.{◌≡◌, ◌+◌, ◌*◌, slice_index, None, Some, Err, sym, ap, ◌∙◌, arith}
use Rattle.std.proofs.lemmas.List.{length-set}
use Rattle.std.specs.Result.{result_ok}
use Rattle.hex.specs.Hex.{pair_value, decode_sized}
use Rattle.hex.proofs.Pairs.{decode_step, decode_done, decode_err, decode_sized-pairs}
use Rattle.plan_base.proofs.NodeIds.{ok_from, err_from}
use Rattle.plan_base.proofs.node_id.decode_digits.Goals as goal

pub returns-in_err-bytes : goal.returns-in_err-bytes
returns-in_err-bytes c =
    let s = c.args.digits.now in
    let l = c.bytes in
    let none : None ≡ result_ok (pair_value (slice_index s (2 * l.i)) (slice_index s (2 * l.i + 1)) (2 * l.i)) = sym c.in_err-bytes.was ∙ c.digit_pair.ensures (2 * l.i) in
    let bad = err_from _ none in
    let all : decode_sized s 33 ≡ Err bad.0 = decode_sized-pairs s 33 (omega arith) (omega arith) ∙ decode_err s l.bytes l.i bad.0 (omega arith) bad.1 l.invariant.1 in
    rw all (grind arith)

pub bytes-preserved : goal.bytes-preserved
bytes-preserved c =
    let s = c.args.digits.now in
    let l = c.bytes in
    let some : Some c.in_ok-bytes.field-0 ≡ result_ok (pair_value (slice_index s (2 * l.i)) (slice_index s (2 * l.i + 1)) (2 * l.i)) = sym c.in_ok-bytes.was ∙ c.digit_pair.ensures (2 * l.i) in
    (length-set l.bytes l.i c.in_ok-bytes.field-0 ∙ l.invariant.0, decode_step s l.bytes l.i c.in_ok-bytes.field-0 (omega arith) (omega (arith, l.invariant.0)) (ok_from _ _ some) l.invariant.1)

pub returns : goal.returns
returns c =
    let s = c.args.digits.now in
    let l = c.bytes in
    ap result_ok (sym (decode_sized-pairs s 33 (omega arith) (omega arith) ∙ decode_done s l.bytes l.i (omega (arith, l.invariant.0)) (omega arith) l.invariant.1))
