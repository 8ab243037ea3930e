-- Node ids: the position of a fault, and that a written id is read back.
use Rattle.std.proofs.Common.{◌≡◌, ℕ, ◌==◌, min, false, List, length, take, Some, None, Result, Ok, Err, refl, arith}
use Rattle.std.specs.Result.{result_ok}
use Rattle.hex.specs.declared.error.FromHexError.{FromHexError}
use Rattle.std.specs.Prelude.{not, position}
use Rattle.std.proofs.lemmas.Grind.{common_steps}
use Rattle.hex.specs.Hex.{is_hex_digit}
use Rattle.hex.proofs.HexLemmas.{decode_sized-encode_lower}
use Rattle.plan_base.specs.NodeId.{IsNodeId, node_id_of, node_id_text, id_fault_at}

take_to_end : (n : ℕ) (xs : List ℕ) → take (min (length xs) n) xs ≡ take n xs
take_to_end n xs = grind (arith, common_steps)

pub fault_at_digit : (text : List ℕ) (end at : ℕ) → end ≡ min (length text) 66
    → Some at ≡ position (λ c. not (is_hex_digit c)) (take end text) → at ≡ id_fault_at text
unfolding id_fault_at
fault_at_digit text end at e found =
    let all : Some at ≡ position (λ c. not (is_hex_digit c)) (take 66 text) = rw (e, take_to_end 66 text) at found in
    rw (← all) refl

pub fault_at_end : (text : List ℕ) (end : ℕ) → end ≡ min (length text) 66
    → None ≡ position (λ c. not (is_hex_digit c)) (take end text) → (length text == 66) ≡ false → end ≡ id_fault_at text
unfolding id_fault_at
fault_at_end text end e found other =
    let all : None ≡ position (λ c. not (is_hex_digit c)) (take 66 text) = rw (e, take_to_end 66 text) at found in
    rw (← all, other) e

pub written_node_id : (bytes : List ℕ) → IsNodeId bytes → node_id_of (node_id_text bytes) ≡ Some bytes
unfolding node_id_of
written_node_id bytes good = rw (decode_sized-encode_lower bytes 33 good.length_is good.fits, good.starts) refl

pub ok_from : (r : Result ℕ FromHexError) (v : ℕ) → Some v ≡ result_ok r → r ≡ Ok v
ok_from (Ok a) v e = cc
ok_from (Err f) v e = absurd (cc)

pub err_from : (r : Result ℕ FromHexError) → None ≡ result_ok r → (f : FromHexError) × (r ≡ Err f)
err_from (Ok a) e = absurd (cc)
err_from (Err f) e = (f, refl)
