use Rattle.std.proofs.Common.{◌≡◌, ◌-◌, ◌<◌, length, Some, None, sym, ap, ◌∙◌, arith}
use Rattle.json.specs.Json.{after_end_array, items, value}
use Rattle.serde_json.specs.Read.{of_json, of_items, converted}
use Rattle.json.specs.Json.{parse_map}
use Rattle.json_pass.proofs.Turns.{item_read, item_refused, items_over}
use Rattle.json_pass.proofs.Fronts.{as_some, as_none}
use Rattle.channel_map.specs.Entry.{entry_of}
use Rattle.channel_map.specs.Channels.{Gathered, gathered_of}
use Rattle.channel_map.specs.Found.{with_entry, joined}
use Rattle.channel_map.proofs.Gathering.{turn_parse, end_joined}
use Rattle.channel_map.proofs.entries.read_items.Goals as goal

pub returns-in_err-entry-clause-err : goal.returns-in_err-entry-clause-err
returns-in_err-entry-clause-err c = λ told.
    (let p = value c.args.depth in
    let l = c.items in
    let n = l.invariant.0 in
    let going : (after_end_array l.reader ≡ None) × (c.take_end_array.new.self ≡ l.reader) = grind arith in
    let none = item_refused p n l.reader going.0 (as_none entry_of _ (rw going.1 at c.in_err-entry.ensures.value)) in
    as_none gathered_of _ (l.invariant.2 ∙ ap (parse_map (λ ds. joined (l.edges.items, l.bad) (gathered_of ds))) none))

pub items-preserved : goal.items-preserved
items-preserved c =
    let p = value c.args.depth in
    let l = c.items in
    let n = l.invariant.0 in
    let going : (after_end_array l.reader ≡ None) × (c.take_end_array.new.self ≡ l.reader) = grind arith in
    let r = c.read_entry.new.reader in
    let entry = c.in_ok-entry.entry in
    let less : length r < length l.reader = rw (← going.1) c.in_ok-entry.ensures.shorter in
    let d = as_some entry_of (converted of_json (p l.reader)) entry r (rw going.1 at c.in_ok-entry.ensures.value) in
    let old : Gathered = (l.edges.items, l.bad) in
    let now : Gathered = (c.add.new.edges.items, c.in_ok-bad.bad) in
    let same : now ≡ with_entry old entry = c.in_ok-bad.ensures.ok in
    let rest = converted of_items (items p (n - 1) r) in
    let over = item_read p n l.reader r d.0 (omega (arith, l.invariant.1)) going.0 d.1 in (
      n - 1,
      omega (arith, l.invariant.1),
      l.invariant.2 ∙ ap (parse_map (λ ds. joined old (gathered_of ds))) over ∙ turn_parse old d.0 entry d.2 rest ∙ ap (λ s. parse_map (λ ds. joined s (gathered_of ds)) rest) (sym same),
      omega (arith, l.invariant.3),
    )

pub returns-clause-ok : goal.returns-clause-ok
returns-clause-ok c =
    let p = value c.args.depth in
    let l = c.items in
    let n = l.invariant.0 in
    let r = c.take_end_array.new.self in
    let s : Gathered = (l.edges.items, l.bad) in
    l.invariant.2 ∙ ap (parse_map (λ ds. joined s (gathered_of ds))) (items_over p n l.reader r l.invariant.1 (grind arith)) ∙ ap (λ g. Some (g, r)) (end_joined s)
