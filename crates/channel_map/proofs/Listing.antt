-- What one more member changes in the entries that are listed.
use Rattle.std.proofs.Common.{◌≡◌, ◌≢◌, ℕ, ◌-◌, ◌<◌, List, ◌∷◌, length, Option, Some, None, option_and_then, bytes_eq, true≢false, refl, sym, ap, ◌∙◌}
use Rattle.std.specs.Prelude.{codes}
use Rattle.json.specs.Token.{Token}
use Rattle.json.specs.Json as json
use Rattle.serde_json.specs.Data.{Data, object, Members, no_members, put}
use Rattle.serde_json.specs.Read.{of_members, converted}
use Rattle.serde_json.specs.Find.{get_member, as_object}
use Rattle.serde_json.proofs.Views.{get_member-put, get_member-put_other}
use Rattle.json.specs.Json.{parse_map}
use Rattle.json_pass.specs.Value.{value_as}
use Rattle.json_pass.specs.Members.{members_as}
use Rattle.json_pass.proofs.Fronts.{object_as}
use Rattle.channel_map.specs.Channels.{Gathered, array_entries}
use Rattle.channel_map.specs.Channels.{channels_in, channels_within}

pub channels_put : (k : List ℕ) (d : Data) (ms : Members) → k ≡ codes "channels" → channels_in (put k d ms) ≡ array_entries d
channels_put k d ms e = ap (λ name. option_and_then array_entries (get_member name (put k d ms))) (sym e) ∙ ap (option_and_then array_entries) (get_member-put k d ms)

pub channels_other : (k : List ℕ) (d : Data) (ms : Members) → k ≢ codes "channels" → channels_in (put k d ms) ≡ channels_in ms
channels_other k d ms e = ap (option_and_then array_entries) (get_member-put_other (codes "channels") k d ms (λ same. e (sym same)))

-- the entries of the object at the key `result`
abbrev pub result_in : Members → Option Gathered
result_in ms = option_and_then channels_within (get_member (codes "result") ms)

pub result_put : (k : List ℕ) (d : Data) (ms : Members) → k ≡ codes "result" → result_in (put k d ms) ≡ channels_within d
result_put k d ms e = ap (λ name. option_and_then channels_within (get_member name (put k d ms))) (sym e) ∙ ap (option_and_then channels_within) (get_member-put k d ms)

pub result_other : (k : List ℕ) (d : Data) (ms : Members) → k ≢ codes "result" → result_in (put k d ms) ≡ result_in ms
result_other k d ms e = ap (option_and_then channels_within) (get_member-put_other (codes "result") k d ms (λ same. e (sym same)))

same_parse : {A : Type 0} (f : Members → Option A) (o : Option (Members × List Token)) → parse_map (λ ms. option_and_then f (as_object (object ms))) o ≡ parse_map f o
same_parse f None = refl
same_parse f (Some p) = refl

-- any function of an object's members, as a function of the value
pub of_object_as : {A : Type 0} (f : Members → Option A) (depth : ℕ) (ts : List Token) → 0 < depth
    → value_as (λ d. option_and_then f (as_object d)) depth (Token.begin_object ∷ ts) ≡ members_as f (depth - 1) ts
of_object_as f depth ts some =
    object_as (λ d. option_and_then f (as_object d)) depth ts some ∙ same_parse f (converted (λ ms. of_members ms no_members) (json.members (json.value (depth - 1)) (length ts) ts))

pub no_object : {A : Type 0} (f : Members → Option A) (d : Data) → as_object d ≡ None → option_and_then f (as_object d) ≡ None
no_object f d e = ap (option_and_then f) e

pub apart : (k : List ℕ) → k ≡ codes "channels" → k ≢ codes "result"
apart k e f = absurd (true≢false (ap (λ name. bytes_eq name (codes "result")) (sym f ∙ e)))
