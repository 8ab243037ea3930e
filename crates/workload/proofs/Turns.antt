-- One more turn of the loops.
use Rattle.std.proofs.Common.{◌≡◌, ℕ, suc, ◌+◌, ◌-◌, ◌<◌, List, [], ◌∷◌, ◌++◌, length, drop, get_or, refl, sym, ◌∙◌, arith, add-one, append_assoc, nat_lt, codes, true, false, lt-ltb}
use Rattle.std.proofs.Math.Seq.{drop-cons}
use Rattle.serde_json.specs.View.{view, items_view}
use Rattle.serde_json.specs.Written.{compact_text, comma_if, items_text}
use Rattle.serde_json.specs.declared.value.Value.{Value}
use Rattle.workload.specs.Draws.{stepped, state_after}
use Rattle.workload.specs.Channel.{channel_from, channel_draws}
use Rattle.json.specs.Print.{escape_byte}
use Rattle.serde_json.specs.Events.{items_len}
use Rattle.serde_json.proofs.Views.{items_len-items_view}
use Rattle.workload.specs.Map.{entries_from, forward_data, backward_data, map_text_of}
use Rattle.workload.specs.Payment.{payment_from, payment_draws}
use Rattle.workload.specs.Request.{request_line, lines_from}
use Rattle.workload.specs.Totals.{whole_under, amounts_in}

-- one more draw after others
pub one_more_draw : (count start state : ℕ) → state ≡ state_after count start → stepped state ≡ state_after (count + 1) start
one_more_draw count start state was = rw (add-one, was) refl

-- what is left after one of so many
left_is : (count place : ℕ) → place < count → count - place ≡ suc (count - (place + 1))
left_is count place some = omega arith

-- one more request
pub one_more_request : (nodes asks id state : ℕ) (text whole : List ℕ) → id < asks
    → text ++ lines_from nodes (asks - id) id state ≡ whole
    → (text ++ request_line id (payment_from nodes state)) ++ lines_from nodes (asks - (id + 1)) (id + 1) (state_after payment_draws state) ≡ whole
one_more_request nodes asks id state text whole some was =
    let all : text ++ lines_from nodes (suc (asks - (id + 1))) id state ≡ whole = rw (left_is asks id some) at was in
    append_assoc text (request_line id (payment_from nodes state)) _ ∙ all

-- the text up to a channel, the channel, and what comes after it
around_channel : (text comma forward backward more end : List ℕ)
    → (text ++ (comma ++ (forward ++ (44 ∷ backward)))) ++ (more ++ end) ≡ text ++ ((comma ++ (forward ++ (44 ∷ (backward ++ more)))) ++ end)
around_channel text comma forward backward more end = simp append_assoc

-- one more channel
pub one_more_channel : (nodes channels place state : ℕ) (text end whole : List ℕ) → place < channels
    → text ++ (items_text (nat_lt 0 place) (entries_from nodes (channels - place) place state) ++ end) ≡ whole
    → (text ++ (comma_if (nat_lt 0 place) ++ (compact_text (forward_data place (channel_from nodes place state))
    ++ (44 ∷ compact_text (backward_data place (channel_from nodes place state))))))
    ++ (items_text (nat_lt 0 (place + 1)) (entries_from nodes (channels - (place + 1)) (place + 1) (state_after channel_draws state)) ++ end) ≡ whole
one_more_channel nodes channels place state text end whole some was =
    let all : text ++ (items_text (nat_lt 0 place) (entries_from nodes (suc (channels - (place + 1))) place state) ++ end) ≡ whole = rw (left_is channels place some) at was in
    let later : nat_lt 0 (place + 1) ≡ true = lt-ltb 0 (place + 1) (omega arith) in
    rw later (around_channel text _ _ _ _ end ∙ all)

-- before the first channel
pub map_start : (number nodes channels : ℕ)
    → codes "{\"channels\":[" ++ (items_text false (entries_from nodes (channels - 0) 0 number) ++ 125 ∷ []) ≡ map_text_of number nodes channels
unfolding map_text_of escape_byte
map_start number nodes channels =
    let all : channels - 0 ≡ channels = omega arith in
    rw all refl

pub route_count : (routes : List Value) → length routes ≡ items_len (items_view routes)
route_count routes = sym (items_len-items_view routes)

-- one more route
pub one_more_route : (routes : List Value) (place sum whole : ℕ) (none : Value) → place < length routes
    → sum + amounts_in (items_view (drop place routes)) ≡ whole
    → sum + whole_under (codes "amount_msat") (view (get_or routes place none)) + amounts_in (items_view (drop (place + 1) routes)) ≡ whole
one_more_route routes place sum whole none some was =
    let here = drop-cons routes place none some in
    let all = rw here at was in
    rw (add-one) (omega (arith, all))
