-- The JSON value of a text, from what is read of its bytes.
use Rattle.std.proofs.Common.{◌≡◌, ℕ, List, Bool, true, false, None, if◌then◌else◌, refl}
use Rattle.std.specs.Str.{IsUtf8, is_utf8}
use Rattle.std.proofs.lemmas.Str.{is_utf8-from_IsUtf8, IsUtf8-from_is_utf8}
use Rattle.serde_json.specs.Read.{read}
use Rattle.channel_map.specs.Reading.{json_value}

pub value_of_text : (text : List ℕ) → IsUtf8 text → json_value text ≡ read text
unfolding json_value
value_of_text text u = rw (is_utf8-from_IsUtf8 text u)

unread_at : (text : List ℕ) (b : Bool) → is_utf8 text ≡ b → ¬ (IsUtf8 text) → (if b then read text else None) ≡ None
unread_at text true is none = absurd (none (IsUtf8-from_is_utf8 text is))
unread_at text false is none = refl

pub no_value_of_bytes : (text : List ℕ) → ¬ (IsUtf8 text) → json_value text ≡ None
unfolding json_value
no_value_of_bytes text none = unread_at text _ refl none
