-- From what the JSON crate and its map say to the words of a request.
use Rattle.std.proofs.Common.{◌≡◌, ℕ, List, Bool, true, false, Option, Some, None, option_map, if◌then◌else◌, cond, String, BTreeMap, Global, string_bytes, string_cmp, nat_cmp, bytes_eq, refl, sym, ap, ◌∙◌}
use Rattle.std.specs.Str.{IsUtf8, is_utf8}
use Rattle.std.specs.Cmp.Lexicographic.{slice_cmp}
use Rattle.std.specs.BTreeMap as tree
use Rattle.std.proofs.lemmas.Str.{is_utf8-from_IsUtf8, IsUtf8-from_is_utf8}
use Rattle.std.proofs.lemmas.Map.Text.{btree_map_updates_text}
use Rattle.serde_json.specs.Data.{Data}
use Rattle.serde_json.specs.Find.{get_member}
use Rattle.serde_json.specs.Read.{read}
use Rattle.serde_json.specs.View.{view, members_view}
use Rattle.serde_json.specs.declared.value.Value.{Value, Object}
use Rattle.serde_json.proofs.Views.{view-lookup, view-Object}
use Rattle.rpc_lines.specs.Request.{value_of, request_in, request_of}

pub value_of_read : (line : List ℕ) (value : Data) → IsUtf8 line → read line ≡ Some value → value_of line ≡ Some value
unfolding value_of
value_of_read line value u e = rw (is_utf8-from_IsUtf8 line u) e

unread_at : (line : List ℕ) (b : Bool) → is_utf8 line ≡ b → (IsUtf8 line → read line ≡ None) → (if b then read line else None) ≡ None
unread_at line true is none = none (IsUtf8-from_is_utf8 line is)
unread_at line false is none = refl

pub value_of_unread : (line : List ℕ) → (IsUtf8 line → read line ≡ None) → value_of line ≡ None
unfolding value_of
value_of_unread line none = unread_at line _ refl none

pub taken_member : (name : List ℕ) (m : BTreeMap (String Global) Value)
    → option_map view (tree.get_by_text m name) ≡ get_member name (members_view m.entries)
taken_member name m = view-lookup name m.entries

pub other_member : (name : List ℕ) (m n : BTreeMap (String Global) Value) (w : Option Value) (other : List ℕ)
    → tree.UpdatesBy string_cmp (λ k. slice_cmp nat_cmp name (string_bytes k)) m n w → bytes_eq name other ≡ false
    → get_member other (members_view n.entries) ≡ get_member other (members_view m.entries)
other_member name m n w other updates apart =
    let same : tree.get_by_text n other ≡ tree.get_by_text m other = btree_map_updates_text name m n w updates other ∙ ap (λ b. cond b w (tree.get_by_text m other)) apart in
    sym (view-lookup other n.entries) ∙ ap (option_map view) same ∙ view-lookup other m.entries

-- a line that an object is read from
pub request_of_object : (line : List ℕ) (m : BTreeMap (String Global) Value) → Some (view (Object m)) ≡ value_of line → request_of line ≡ request_in (members_view m.entries)
unfolding request_of
request_of_object line m is = rw (← is, view-Object m)
