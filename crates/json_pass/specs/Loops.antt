-- The tokens after the items of an array or the members of an object; it serves private clauses only.
use Rattle.std.specs.Prelude.{ℕ, List, length, Option, option_map}
use Rattle.json.specs.Token.{Token}
use Rattle.json.specs.Json as json
use Rattle.serde_json.specs.Data.{no_members}
use Rattle.serde_json.specs.Read.{of_items, of_members, converted}

abbrev pub after_items : ℕ → List Token → Option (List Token)
after_items depth ts = option_map (λ p. p.1) (converted of_items (json.items (json.value depth) (length ts) ts))

abbrev pub after_members : ℕ → List Token → Option (List Token)
after_members depth ts = option_map (λ p. p.1) (converted (λ ms. of_members ms no_members) (json.members (json.value depth) (length ts) ts))
