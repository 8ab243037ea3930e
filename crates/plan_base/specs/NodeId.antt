-- Node ids: 33 bytes, the first of them 2 or 3, as 66 hexadecimal digits of either case.
use Rattle.std.specs.Prelude.{◌≡◌, ℕ, ◌==◌, ◌||◌, Bool, true, not, min, List, length, take, slice_index, position, unwrap_or, Option, Some, None, Result, Ok, Err, if◌then◌else◌}
use Rattle.hex.specs.Hex.{decode_sized, encode_lower, is_hex_digit, IsBytes}
use Rattle.hex.specs.declared.error.FromHexError.{FromHexError}

-- the first byte of a compressed public key is 2 or 3
abbrev pub starts_as_key : List ℕ → Bool
starts_as_key bytes = slice_index bytes 0 == 2 || slice_index bytes 0 == 3

-- bytes that are a node id
pub record IsNodeId (bytes : List ℕ) : Type 0 where
  pub fits : IsBytes bytes
  pub length_is : length bytes ≡ 33
  pub starts : starts_as_key bytes ≡ true

-- 33 bytes as a node id, if they start as a key does
abbrev pub node_id_from : List ℕ → Option (List ℕ)
node_id_from bytes = if starts_as_key bytes then Some bytes else None

-- the node id of decoded bytes
abbrev pub decoded_node_id : Result (List ℕ) FromHexError → Option (List ℕ)
decoded_node_id (Ok bytes) = node_id_from bytes
decoded_node_id (Err _) = None

-- the node id that a text represents
unfoldable pub node_id_of : List ℕ → Option (List ℕ)
node_id_of text = decoded_node_id (decode_sized text 33)

-- the text of a node id, in lower case
abbrev pub node_id_text : List ℕ → List ℕ
node_id_text bytes = encode_lower bytes

-- the position at which a text is not a node id: the first of its first 66 bytes that is not a digit,
-- else its end or the place after the 66th digit, else its first byte
unfoldable pub id_fault_at : List ℕ → ℕ
id_fault_at text =
    unwrap_or (position (λ c. not (is_hex_digit c)) (take 66 text))
    (if length text == 66 then 0 else min (length text) 66)
