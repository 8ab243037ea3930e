-- The totals of the replies of a session, as far as they are replies to requests for routes.
use Rattle.std.specs.Prelude.{ℕ, ◌+◌, ◌==◌, List, [], ◌∷◌, codes, Option, Some, None, unwrap_or, option_and_then, if◌then◌else◌}
use Rattle.serde_json.specs.Data.{Data, Items, no_items, item}
use Rattle.serde_json.specs.Events.{items_len}
use Rattle.serde_json.specs.Find.{get, as_array, as_number, as_u64}
use Rattle.line_cut.specs.Lines.{lines_of}
use Rattle.rpc_lines.specs.Request.{value_of}
use Rattle.workload.specs.declared.totals.Totals.{Totals}

-- the whole number under a key, or 0
abbrev pub whole_under : List ℕ → Data → ℕ
whole_under key value = unwrap_or (option_and_then as_u64 (option_and_then as_number (get key value))) 0

-- the array under a key
abbrev pub list_under : List ℕ → Data → Option Items
list_under key value = option_and_then as_array (get key value)

-- the routes of a result
abbrev pub result_routes : Data → Items
result_routes outcome = unwrap_or (list_under (codes "routes") outcome) no_items

-- what all these routes deliver
abbrev pub amounts_in : Items → ℕ
amounts_in no_items = 0
amounts_in (item route routes) = whole_under (codes "amount_msat") route + amounts_in routes

abbrev pub no_totals : Totals
no_totals = record { routed = 0; refused = 0; out_of_memory = 0; parts = 0; amount_msat = 0; fee_msat = 0 }

-- with one more reply that has this result
abbrev pub with_result : Totals → Data → Totals
with_result totals outcome = record totals {
  routed = totals.routed + 1;
  parts = totals.parts + items_len (result_routes outcome);
  amount_msat = totals.amount_msat + amounts_in (result_routes outcome);
  fee_msat = totals.fee_msat + whole_under (codes "fee_msat") outcome;
}

-- the error of a reply that had no memory
abbrev pub out_of_memory_code : ℕ
out_of_memory_code = 399

-- with one more reply that has this error
abbrev pub with_error : Totals → Data → Totals
with_error totals fault = record totals {
  refused = totals.refused + 1;
  out_of_memory = totals.out_of_memory + (if whole_under (codes "code") fault == out_of_memory_code then 1 else 0);
}

-- with one more reply, by its result and its error
abbrev pub with_either : Totals → Option Data → Option Data → Totals
with_either totals (Some outcome) fault = with_result totals outcome
with_either totals None (Some fault) = with_error totals fault
with_either totals None None = totals

abbrev pub with_reply : Totals → Option Data → Totals
with_reply totals None = totals
with_reply totals (Some reply) = with_either totals (get (codes "result") reply) (get (codes "error") reply)

-- with the replies of these lines
abbrev pub with_lines : Totals → List (List ℕ) → Totals
with_lines totals [] = totals
with_lines totals (line ∷ lines) = with_lines (with_reply totals (value_of line)) lines

-- the totals of the bytes that a session wrote
unfoldable pub totals_of : List ℕ → Totals
totals_of written = with_lines no_totals (lines_of written)
