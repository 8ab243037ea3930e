-- Short channel ids (BOLT 7): a block, a transaction in it and an output of that, written `block x transaction x output`
-- without the spaces, and as one number of 64 bits.
use Rattle.std.specs.Prelude.{ℕ, ◌+◌, ◌*◌, ◌/◌, ◌%◌, ◌^◌, ◌==◌, ◌&&◌, nat_lt, Bool, List, ◌∷◌, ◌++◌, decimal, Option, Some, None, if◌then◌else◌}
use Rattle.std.specs.List.{before_first, after_first}
use Rattle.plan_base.specs.Number.{number_of}

-- the number of a block, a transaction and an output
abbrev pub scid_number : ℕ → ℕ → ℕ → ℕ
scid_number block transaction output = block * 2 ^ 40 + transaction * 2 ^ 16 + output

-- the number of three parts, if each is in its range
unfoldable pub scid_new : ℕ → ℕ → ℕ → Option ℕ
scid_new block transaction output =
    if nat_lt block (2 ^ 24) && (nat_lt transaction (2 ^ 24) && nat_lt output (2 ^ 16))
    then Some (scid_number block transaction output) else None

-- the id of three parts that were read
abbrev pub scid_from : Option ℕ → Option ℕ → Option ℕ → Option ℕ
scid_from (Some block) (Some transaction) (Some output) = scid_new block transaction output
scid_from _ _ _ = None

-- the lower case x between the parts
abbrev pub is_x : ℕ → Bool
is_x c = c == 120

-- the short channel id that a text represents: three numbers with an x between each two
unfoldable pub scid_of : List ℕ → Option ℕ
scid_of text =
    let rest = after_first is_x text in
    scid_from (number_of (before_first is_x text)) (number_of (before_first is_x rest)) (number_of (after_first is_x rest))

-- the block in an id's number
abbrev pub block_of : ℕ → ℕ
block_of scid = scid / 2 ^ 40

-- the transaction in its block
abbrev pub transaction_of : ℕ → ℕ
transaction_of scid = scid / 2 ^ 16 % 2 ^ 24

-- the output of that transaction
abbrev pub output_of : ℕ → ℕ
output_of scid = scid % 2 ^ 16

-- the text of a short channel id
unfoldable pub scid_text : ℕ → List ℕ
scid_text scid = decimal (block_of scid) ++ 120 ∷ (decimal (transaction_of scid) ++ 120 ∷ decimal (output_of scid))
