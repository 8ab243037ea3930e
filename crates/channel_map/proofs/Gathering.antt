-- Entries that have been gathered, followed by entries that are still to be read.
use Rattle.std.proofs.Common.{◌≡◌, ℕ, ◌-◌, ◌<◌, length, option_map, List, [], ◌∷◌, Option, Some, None, Result, Ok, Err, refl, sym, ap, ◌∙◌, append-nil, append_assoc}
use Rattle.json.specs.Token.{Token}
use Rattle.json.specs.Json as json
use Rattle.json.specs.Json.{parse_map}
use Rattle.serde_json.specs.Read.{of_items, converted}
use Rattle.serde_json.specs.Find.{as_array}
use Rattle.json_pass.proofs.Fronts.{array_as}
use Rattle.serde_json.specs.Data.{Data, array, Items, no_items, item}
use Rattle.json.specs.Json.{parse_map}
use Rattle.json_pass.specs.Value.{value_as}
use Rattle.channel_map.specs.declared.fault.Field.{Field}
use Rattle.channel_map.specs.declared.edge.Edge.{Edge}
use Rattle.channel_map.specs.Entry.{entry_of}
use Rattle.channel_map.specs.Channels.{Gathered, before, gathered_of, array_entries}
use Rattle.channel_map.specs.Found.{with_entry, joined}

turn : (s : Gathered) (entry : Result Edge Field) (more : Gathered) → joined s (before entry more) ≡ joined (with_entry s entry) more
turn (edges, None) (Ok edge) more = ap (λ es. (es, more.1)) (sym (append_assoc edges (edge ∷ []) more.0))
turn (edges, None) (Err field) more = ap (λ es. (es, Some field)) (append-nil edges)
turn (edges, Some old) entry more = refl

pub turn_parse : (s : Gathered) (d : Data) (entry : Result Edge Field) → entry_of d ≡ entry → (o : Option (Items × List Token))
    → parse_map (λ ds. joined s (gathered_of ds)) (parse_map (item d) o) ≡ parse_map (λ ds. joined (with_entry s entry) (gathered_of ds)) o
turn_parse s d entry e None = refl
turn_parse s d entry e (Some p) = ap (λ g. Some (g, p.1)) (ap (λ x. joined s (before x (gathered_of p.0))) e ∙ turn s entry (gathered_of p.0))

pub start_parse : (o : Option (Items × List Token)) → parse_map gathered_of o ≡ parse_map (λ ds. joined ([], None) (gathered_of ds)) o
start_parse None = refl
start_parse (Some p) = refl

pub end_joined : (s : Gathered) → joined s (gathered_of no_items) ≡ s
end_joined (edges, None) = ap (λ es. (es, None)) (append-nil edges)
end_joined (edges, Some field) = refl

found_array : (o : Option (Items × List Token)) → parse_map (λ ds. array_entries (array ds)) o ≡ parse_map Some (parse_map gathered_of o)
found_array None = refl
found_array (Some p) = refl

pub array_entries_as : (depth : ℕ) (ts : List Token) → 0 < depth
    → value_as array_entries depth (Token.begin_array ∷ ts) ≡ parse_map Some (parse_map gathered_of (converted of_items (json.items (json.value (depth - 1)) (length ts) ts)))
array_entries_as depth ts some = array_as array_entries depth ts some ∙ found_array (converted of_items (json.items (json.value (depth - 1)) (length ts) ts))

pub no_entries : (d : Data) → as_array d ≡ None → array_entries d ≡ None
no_entries d e = ap (option_map gathered_of) e
