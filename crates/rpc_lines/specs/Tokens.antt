-- The JSON tokens around the value of a reply; it serves private clauses only.
use Rattle.std.specs.Prelude.{List, ℕ, ℤ, [], ◌∷◌, codes, decimal}
use Rattle.std.specs.Fmt.{signed_decimal}
use Rattle.json.specs.Token.{Token, begin_object, end_object, key, string, number, null}
use Rattle.rpc_lines.specs.declared.request.Id.{Id}
use Rattle.rpc_lines.specs.declared.request.Id.TheVariants.{Null, Unsigned, Signed, Text}

unfoldable pub id_token : Id → Token
id_token Null = null
id_token (Unsigned n) = number (decimal n)
id_token (Signed z) = number (signed_decimal z)
id_token (Text text) = string text

-- before a result
abbrev pub result_head : Id → List Token
result_head id = begin_object ∷ key (codes "id") ∷ id_token id ∷ key (codes "jsonrpc") ∷ string (codes "2.0") ∷ key (codes "result") ∷ []

-- a result that contains only a position
abbrev pub place_tokens : ℕ → List Token
place_tokens at = begin_object ∷ key (codes "at") ∷ number (decimal at) ∷ end_object ∷ []

-- before an error's data
abbrev pub error_head : ℤ → List Token
error_head code = begin_object ∷ key (codes "error") ∷ begin_object ∷ key (codes "code") ∷ number (signed_decimal code) ∷ key (codes "data") ∷ []

-- after an error's data and a comma
abbrev pub error_tail : List ℕ → Id → List Token
error_tail message id =
    key (codes "message") ∷ string message ∷ end_object ∷ key (codes "id") ∷ id_token id ∷ key (codes "jsonrpc") ∷ string (codes "2.0") ∷ end_object ∷ []
