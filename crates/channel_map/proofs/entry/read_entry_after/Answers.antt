use Rattle.std.proofs.Common.{◌≡◌, ◌∷◌, map, Some, None, sym, ap, ◌∙◌}
use Rattle.json.specs.Json.{parse_map}
use Rattle.json.specs.Reads.{token_of}
use Rattle.json_pass.specs.Value.{value_as}
use Rattle.json_pass.specs.Members.{slot_data, wanted_values}
use Rattle.json_pass.proofs.Fronts.{composed_as}
use Rattle.channel_map.specs.Entry.{entry_of}
use Rattle.channel_map.specs.Slots.{names}
use Rattle.channel_map.proofs.EntrySlots.{from_slots, entry_from_slots}
use Rattle.channel_map.proofs.entry.read_entry_after.Goals as goal

pub returns-clause-value : goal.returns-clause-value
returns-clause-value c =
    let slots = c.read_object_after.new.slots in
    let r = c.read_object_after.new.reader in
    let done : value_as (wanted_values names) c.args.depth (token_of c.args.token ∷ c.args.reader.now) ≡ Some (Some (map slot_data slots), r) = rw c.if-not-branch.false at c.in_ok-read_object_after.ensures.value in
    composed_as entry_of (wanted_values names) from_slots c.args.depth (token_of c.args.token ∷ c.args.reader.now) entry_from_slots ∙ ap (parse_map from_slots) done
    ∙ ap (λ e. Some (e, r)) (sym c.edge_of.ensures)

pub returns-then-not-branch-clause-value : goal.returns-then-not-branch-clause-value
returns-then-not-branch-clause-value c =
    let r = c.read_object_after.new.reader in
    let none : value_as (wanted_values names) c.args.depth (token_of c.args.token ∷ c.args.reader.now) ≡ Some (None, r) = rw c.if-not-branch.true at c.in_ok-read_object_after.ensures.value in
    composed_as entry_of (wanted_values names) from_slots c.args.depth (token_of c.args.token ∷ c.args.reader.now) entry_from_slots ∙ ap (parse_map from_slots) none
