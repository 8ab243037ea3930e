-- The bytes of a reply's line, put together from its tokens and the text of its value.
use Rattle.std.proofs.Common.{◌≡◌, ℕ, ℤ, pos, negsuc, List, [], ◌∷◌, ◌++◌, Bool, false, String, BTreeMap, Global, codes, refl, sym, ap, ◌∙◌, append_assoc, append-nil}
use Rattle.json.specs.Token.{key, string}
use Rattle.json.specs.Print.{print, print_from, quoted, escape_byte}
use Rattle.serde_json.specs.Data.{Data, number}
use Rattle.serde_json.specs.Find.{of_integer}
use Rattle.serde_json.specs.View.{view, members_view}
use Rattle.serde_json.specs.Written.{compact_text, has_float, members_have_float, members_text}
use Rattle.serde_json.specs.declared.value.Value.{Value, Object}
use Rattle.serde_json.proofs.Views.{Entry, view-Object}
use Rattle.std.specs.Fmt.{signed_decimal}
use Rattle.rpc_lines.specs.declared.request.Id.{Id}
use Rattle.rpc_lines.specs.declared.request.Id.TheVariants.{Null, Unsigned, Signed, Text}
use Rattle.rpc_lines.specs.Reply.{id_data, with_result, with_error, place_data, reply_line}
use Rattle.rpc_lines.specs.Tokens.{id_token, result_head, place_tokens, error_head, error_tail}

signed_text : (z : ℤ) → compact_text (number (of_integer z)) ≡ signed_decimal z
signed_text (pos n) = refl
signed_text (negsuc n) = refl

result_head_text : (id : Id) → print (result_head id) ≡ codes "{\"id\":" ++ (compact_text (id_data id) ++ codes ",\"jsonrpc\":\"2.0\",\"result\":")
unfolding print_from escape_byte id_token
result_head_text Null = refl
result_head_text (Unsigned n) = refl
result_head_text (Signed z) = rw signed_text
result_head_text (Text text) = refl

error_head_text : (code : ℤ) → print (error_head code) ≡ codes "{\"error\":{\"code\":" ++ (compact_text (number (of_integer code)) ++ codes ",\"data\":")
unfolding print_from escape_byte
error_head_text code = rw signed_text

error_tail_text : (message : List ℕ) (id : Id) → print (error_tail message id) ≡ codes "\"message\":" ++ (quoted message ++ ((125 ∷ codes ",\"id\":") ++ (compact_text (id_data id) ++ codes ",\"jsonrpc\":\"2.0\"}")))
unfolding print_from escape_byte id_token
error_tail_text message Null = refl
error_tail_text message (Unsigned n) = refl
error_tail_text message (Signed z) = rw signed_text
error_tail_text message (Text text) = refl

result_parts : (a t b v c d : List ℕ) → ((a ++ (t ++ b)) ++ v) ++ (c ++ d) ≡ a ++ ((t ++ (b ++ (v ++ c))) ++ d)
result_parts a t b v c d = simp append_assoc

pub result_text : (id : Id) (value : Data) → (print (result_head id) ++ compact_text value) ++ 125 ∷ 10 ∷ [] ≡ reply_line (id_data id) (with_result value)
unfolding reply_line escape_byte
result_text id value =
    rw (result_head_text id) (result_parts (codes "{\"id\":") (compact_text (id_data id)) (codes ",\"jsonrpc\":\"2.0\",\"result\":") (compact_text value) (125 ∷ []) (10 ∷ []))

place_value : (at : ℕ) → print (place_tokens at) ≡ compact_text (place_data at)
unfolding print_from escape_byte
place_value at = refl

pub place_text : (id : Id) (at : ℕ) → (print (result_head id) ++ print (place_tokens at)) ++ 125 ∷ 10 ∷ [] ≡ reply_line (id_data id) (with_result (place_data at))
place_text id at = rw (place_value at) (result_text id (place_data at))

error_parts : (a c b v k l m g h t e f : List ℕ) → ((((a ++ (c ++ b)) ++ v) ++ k) ++ (l ++ (m ++ ((g ++ h) ++ (t ++ e))))) ++ f
    ≡ a ++ (((c ++ (b ++ (v ++ (k ++ (l ++ (m ++ g)))))) ++ (h ++ (t ++ e))) ++ f)
error_parts a c b v k l m g h t e f = simp append_assoc

pub error_text : (id : Id) (code : ℤ) (message : List ℕ) (value : Data)
    → ((((print (error_head code) ++ compact_text value) ++ 44 ∷ []) ++ print (error_tail message id)) ++ 10 ∷ []) ≡ reply_line (id_data id) (with_error code message value)
unfolding reply_line escape_byte
error_text id code message value =
    rw (error_head_text code, error_tail_text message id)
    (error_parts (codes "{\"error\":{\"code\":") (compact_text (number (of_integer code))) (codes ",\"data\":") (compact_text value) (44 ∷ []) (codes "\"message\":")
    (quoted message) (125 ∷ []) (codes ",\"id\":") (compact_text (id_data id)) (codes ",\"jsonrpc\":\"2.0\"}") (10 ∷ []))

pub key_text : (name : List ℕ) → print (key name ∷ []) ≡ quoted name ++ 58 ∷ []
unfolding print_from
key_text name = append-nil (quoted name ++ 58 ∷ [])

pub string_text : (text : List ℕ) → print (string text ∷ []) ≡ quoted text
unfolding print_from
string_text text = append-nil (quoted text)

pub object_floats : (m : BTreeMap (String Global) Value) → has_float (view (Object m)) ≡ false → members_have_float (members_view m.entries) ≡ false
object_floats m none = sym (ap has_float (view-Object m)) ∙ none

-- what is left of an object's text, and that no floating-point number is in it
pub record IsLeft (line : List ℕ) (later : Bool) (left : List Entry) (whole : List ℕ) : Type 0 where
  pub text : line ++ members_text later (members_view left) ≡ whole
  pub floats : members_have_float (members_view left) ≡ false

-- the end of an object
pub object_end : (start opened line done text : List ℕ) (later : Bool) (left : List Entry) → opened ≡ start ++ 123 ∷ [] → IsLeft line later left (opened ++ text) → left ≡ [] → done ≡ line ++ 125 ∷ [] → done ≡ start ++ 123 ∷ text
object_end start opened line done text later left first was step last =
    let here : IsLeft line later [] (opened ++ text) = rw step at was in
    last ∙ here.text ∙ ap (λ o. o ++ text) first ∙ append_assoc start (123 ∷ []) text
