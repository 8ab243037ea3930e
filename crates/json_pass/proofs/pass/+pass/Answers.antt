use Rattle.std.proofs.Common.{◌≡◌, ◌-◌, ◌<◌, [], ◌∷◌, length, Some, None, refl, ap, ap₂, ◌∙◌, arith}
use Rattle.std.specs.Prelude.{option_map}
use Rattle.json.specs.Json.{after_end_array, read_key, value}
use Rattle.json.specs.Reads.{token_of}
use Rattle.json.proofs.Grammar.{value_is, read_key-shorter}
use Rattle.serde_json.specs.Data.{array, object, no_items, no_members, put}
use Rattle.serde_json.specs.Read.{of_json, converted}
use Rattle.json_pass.specs.Value.{value_outline}
use Rattle.json.proofs.Grammar.{left}
use Rattle.json_pass.proofs.Fronts.{outlined}
use Rattle.json_pass.proofs.Turns.{item_refused, items_over, member_read, member_refused, key_refused, members_over}
use Rattle.json_pass.proofs.Fronts.{outline_some, outline_none, array_outline, object_outline, pass_item}
use Rattle.json_pass.proofs.pass.+pass.Goals as goal

pub pass_items-items-init : goal.pass_items-items-init
pass_items-items-init t c = (length c.args.reader.now, omega arith, refl, omega arith)

pub pass_items-returns-in_err-pass_value-clause-value : goal.pass_items-returns-in_err-pass_value-clause-value
pass_items-returns-in_err-pass_value-clause-value t c =
    let p = value c.args.depth in
    let l = c.items in
    let n = l.invariant.0 in
    let going : (after_end_array l.reader ≡ None) × (c.take_end_array.new.self ≡ l.reader) = grind arith in
    let none = l.invariant.2 ∙ ap left (item_refused p n l.reader going.0 (outline_none _ (rw (← going.1) c.in_err-pass_value.ensures.value))) in
    grind (arith, none)

pub pass_items-items-preserved : goal.pass_items-items-preserved
pass_items-items-preserved t c =
    let p = value c.args.depth in
    let l = c.items in
    let n = l.invariant.0 in
    let going : (after_end_array l.reader ≡ None) × (c.take_end_array.new.self ≡ l.reader) = grind arith in
    let r = c.pass_value.new.reader in
    let less : length r < length l.reader = rw (← going.1) c.in_ok-pass_value.ensures.shorter in
    (n - 1, omega (arith, l.invariant.1), l.invariant.2 ∙ pass_item p n l.reader r _ (omega (arith, l.invariant.1)) going.0 (rw going.1 at c.in_ok-pass_value.ensures.value), omega (arith, l.invariant.3))

pub pass_items-returns-clause-value : goal.pass_items-returns-clause-value
pass_items-returns-clause-value t c =
    let p = value c.args.depth in
    let l = c.items in
    let n = l.invariant.0 in
    l.invariant.2 ∙ ap left (items_over p n l.reader c.take_end_array.new.self l.invariant.1 (grind arith))

pub pass_members-members-init : goal.pass_members-members-init
pass_members-members-init t c = (length c.args.reader.now, no_members, omega arith, refl, omega arith)

pub pass_members-returns-in_err-next_key-clause-value : goal.pass_members-returns-in_err-next_key-clause-value
pass_members-returns-in_err-next_key-clause-value t c =
    let p = value c.args.depth in
    let l = c.members in
    let n = l.invariant.0 in
    let old = l.invariant.1 in
    let none = l.invariant.3 ∙ ap left (key_refused p old n l.reader c.in_err-next_key.ensures.value) in
    grind (arith, none)

pub pass_members-members-preserved : goal.pass_members-members-preserved
pass_members-members-preserved t c =
    let p = value c.args.depth in
    let l = c.members in
    let n = l.invariant.0 in
    let old = l.invariant.1 in
    let k = c.in-Some.field-0.now in
    let s = c.next_key.new.self in
    let key : read_key l.reader ≡ Some (Some k, s) = grind arith in
    let r = c.pass_value.new.reader in
    let d = outline_some _ _ _ c.in_ok-pass_value.ensures.value in
    let less = read_key-shorter l.reader (Some k) s key in
    let lesser = c.in_ok-pass_value.ensures.shorter in
    (n - 1, put k d.0 old, omega (arith, l.invariant.2), l.invariant.3 ∙ ap left (member_read p old n k l.reader s r d.0 (omega (arith, l.invariant.2)) key d.1), omega (arith, l.invariant.4))

pub pass_members-returns-in_err-pass_value-clause-value : goal.pass_members-returns-in_err-pass_value-clause-value
pass_members-returns-in_err-pass_value-clause-value t c =
    let p = value c.args.depth in
    let l = c.members in
    let n = l.invariant.0 in
    let old = l.invariant.1 in
    let k = c.in-Some.field-0.now in
    let s = c.next_key.new.self in
    let key : read_key l.reader ≡ Some (Some k, s) = grind arith in
    let none = l.invariant.3 ∙ ap left (member_refused p old n k l.reader s key (outline_none _ c.in_err-pass_value.ensures.value)) in
    grind (arith, none)

pub pass_members-returns-clause-value : goal.pass_members-returns-clause-value
pass_members-returns-clause-value t c =
    let p = value c.args.depth in
    let l = c.members in
    let n = l.invariant.0 in
    let old = l.invariant.1 in
    l.invariant.3 ∙ ap left (members_over p old n l.reader c.next_key.new.self l.invariant.2 (grind arith))

pub pass_value-returns-in_err-token-clause-value : goal.pass_value-returns-in_err-token-clause-value
pass_value-returns-in_err-token-clause-value t c =
    let empty : c.args.reader.now ≡ [] = grind arith in
    let none : value_outline c.args.depth c.args.reader.now ≡ None = ap (value_outline c.args.depth) empty ∙ ap (λ o. outlined (converted of_json o)) (value_is c.args.depth []) in
    grind (arith, none)

pub pass_after-returns-then-depth-eq0-clause-value : goal.pass_after-returns-then-depth-eq0-clause-value
unfolding value
pass_after-returns-then-depth-eq0-clause-value t c =
    let none : c.args.depth ≡ 0 = omega arith in
    ap₂ value_outline none (ap (λ k. token_of k ∷ c.args.reader.now) c.in-BeginArray.is)

pub pass_after-returns-then-depth-eq0-2-clause-value : goal.pass_after-returns-then-depth-eq0-2-clause-value
unfolding value
pass_after-returns-then-depth-eq0-2-clause-value t c =
    let none : c.args.depth ≡ 0 = omega arith in
    ap₂ value_outline none (ap (λ k. token_of k ∷ c.args.reader.now) c.in-BeginObject.is)

pub pass_after-returns-in_err-pass_items-in-BeginArray-clause-value : goal.pass_after-returns-in_err-pass_items-in-BeginArray-clause-value
pass_after-returns-in_err-pass_items-in-BeginArray-clause-value t c =
    let none = ap (λ k. value_outline c.args.depth (token_of k ∷ c.args.reader.now)) c.in-BeginArray.is ∙ array_outline c.args.depth c.args.reader.now (omega arith) ∙ ap (option_map (λ r. (array no_items, r))) c.in_err-pass_items-in-BeginArray.ensures.value in
    grind (arith, none)

pub pass_after-returns-in_ok-pass_items-in-BeginArray-clause-value : goal.pass_after-returns-in_ok-pass_items-in-BeginArray-clause-value
pass_after-returns-in_ok-pass_items-in-BeginArray-clause-value t c =
    ap (λ k. value_outline c.args.depth (token_of k ∷ c.args.reader.now)) c.in-BeginArray.is ∙ array_outline c.args.depth c.args.reader.now (omega arith) ∙ ap (option_map (λ r. (array no_items, r))) c.in_ok-pass_items-in-BeginArray.ensures.value

pub pass_after-returns-in_err-pass_members-in-BeginObject-clause-value : goal.pass_after-returns-in_err-pass_members-in-BeginObject-clause-value
pass_after-returns-in_err-pass_members-in-BeginObject-clause-value t c =
    let none = ap (λ k. value_outline c.args.depth (token_of k ∷ c.args.reader.now)) c.in-BeginObject.is ∙ object_outline c.args.depth c.args.reader.now (omega arith) ∙ ap (option_map (λ r. (object no_members, r))) c.in_err-pass_members-in-BeginObject.ensures.value in
    grind (arith, none)

pub pass_after-returns-in_ok-pass_members-in-BeginObject-clause-value : goal.pass_after-returns-in_ok-pass_members-in-BeginObject-clause-value
pass_after-returns-in_ok-pass_members-in-BeginObject-clause-value t c =
    ap (λ k. value_outline c.args.depth (token_of k ∷ c.args.reader.now)) c.in-BeginObject.is ∙ object_outline c.args.depth c.args.reader.now (omega arith) ∙ ap (option_map (λ r. (object no_members, r))) c.in_ok-pass_members-in-BeginObject.ensures.value

pub pass_after-returns-in-String-clause-value : goal.pass_after-returns-in-String-clause-value
pass_after-returns-in-String-clause-value t c =
    ap (λ k. value_outline c.args.depth (token_of k ∷ c.args.reader.now)) c.in-String.is ∙ ap (λ o. outlined (converted of_json o)) (value_is c.args.depth _)

pub pass_after-returns-in-Bool-clause-value : goal.pass_after-returns-in-Bool-clause-value
pass_after-returns-in-Bool-clause-value t c =
    ap (λ k. value_outline c.args.depth (token_of k ∷ c.args.reader.now)) c.in-Bool.is ∙ ap (λ o. outlined (converted of_json o)) (value_is c.args.depth _)

pub pass_after-returns-in-Null-clause-value : goal.pass_after-returns-in-Null-clause-value
pass_after-returns-in-Null-clause-value t c =
    ap (λ k. value_outline c.args.depth (token_of k ∷ c.args.reader.now)) c.in-Null.is ∙ ap (λ o. outlined (converted of_json o)) (value_is c.args.depth _)

pub pass_after-returns-in-Some-clause-value : goal.pass_after-returns-in-Some-clause-value
pass_after-returns-in-Some-clause-value t c =
    ap (λ k. value_outline c.args.depth (token_of k ∷ c.args.reader.now)) c.in-Number.is ∙ ap (λ o. outlined (converted of_json o)) (value_is c.args.depth _) ∙ rw (← c.in-Some.ensures)

pub pass_after-returns-in-None-clause-value : goal.pass_after-returns-in-None-clause-value
pass_after-returns-in-None-clause-value t c =
    ap (λ k. value_outline c.args.depth (token_of k ∷ c.args.reader.now)) c.in-Number.is ∙ ap (λ o. outlined (converted of_json o)) (value_is c.args.depth _) ∙ rw (← c.in-None.ensures)

pub pass_after-returns-in-EndObject-clause-value : goal.pass_after-returns-in-EndObject-clause-value
pass_after-returns-in-EndObject-clause-value t c =
    let none : value c.args.depth (token_of c.args.token ∷ c.args.reader.now) ≡ None = rw (value_is c.args.depth (token_of c.args.token ∷ c.args.reader.now)) (grind arith) in
    ap (λ o. outlined (converted of_json o)) none
