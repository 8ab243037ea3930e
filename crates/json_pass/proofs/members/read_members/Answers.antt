use Rattle.std.proofs.Common.{◌≡◌, ◌-◌, length, Some, None, refl, sym, ap, ◌∙◌, arith, rules}
use Rattle.json.specs.Json.{parse_map, read_key, value}
use Rattle.json.proofs.Grammar.{read_key-shorter}
use Rattle.serde_json.specs.Data.{no_members, put}
use Rattle.json_pass.specs.Members.{texts, last_values, members_as}
use Rattle.json_pass.proofs.Turns.{member_read, member_refused, key_refused, members_over}
use Rattle.json_pass.proofs.Fronts.{outline_some, outline_none}
use Rattle.json_pass.proofs.Slots.{values_other, slots_start, slots_set, length_texts}
use Rattle.json_pass.proofs.members.read_members.Goals as goal

pub members-init : goal.members-init
members-init c =
    let start = slots_start c.args.names.now c.clear.new.slots (length c.args.slots.now) c.clear.ensures c.requires.same in
    (length c.args.reader.now, no_members, omega arith, refl, omega arith, start.0, start.1)

pub returns-in_err-key-clause-value : goal.returns-in_err-key-clause-value
returns-in_err-key-clause-value c =
    let l = c.members in
    let none = l.invariant.3 ∙ key_refused (value c.args.depth) l.invariant.1 l.invariant.0 l.reader c.in_err-key.ensures.value in
    let unseen : members_as (last_values (texts c.args.names.now)) c.args.depth c.args.reader.now ≡ None = ap (parse_map (last_values (texts c.args.names.now))) none in
    grind (arith, unseen)

pub returns-in_err-leaf-clause-value : goal.returns-in_err-leaf-clause-value
returns-in_err-leaf-clause-value c =
    let l = c.members in
    let key : read_key l.reader ≡ Some (Some c.in-Some.key.now, c.next_key.new.self) = grind arith in
    let none = l.invariant.3 ∙ member_refused (value c.args.depth) l.invariant.1 l.invariant.0 c.in-Some.key.now l.reader c.next_key.new.self key (outline_none _ c.in_err-leaf.ensures.value) in
    let unseen : members_as (last_values (texts c.args.names.now)) c.args.depth c.args.reader.now ≡ None = ap (parse_map (last_values (texts c.args.names.now))) none in
    grind (arith, unseen)

pub members-smaller-in-Some-place_of : goal.members-smaller-in-Some-place_of
members-smaller-in-Some-place_of c =
    let l = c.members in
    let key : read_key l.reader ≡ Some (Some c.in-Some.key.now, c.next_key.new.self) = grind arith in
    let less = read_key-shorter l.reader _ _ key in
    omega (arith, c.in_ok-leaf.ensures.shorter)

pub members-smaller : goal.members-smaller
members-smaller c =
    let l = c.members in
    let key : read_key l.reader ≡ Some (Some c.in-Some.key.now, c.next_key.new.self) = grind arith in
    let less = read_key-shorter l.reader _ _ key in
    omega (arith, c.in_ok-leaf.ensures.shorter)

pub members-preserved-in-Some-place_of : goal.members-preserved-in-Some-place_of
members-preserved-in-Some-place_of c =
    let l = c.members in
    let n = l.invariant.0 in
    let old = l.invariant.1 in
    let k = c.in-Some.key.now in
    let s = c.next_key.new.self in
    let r = c.pass_value.new.reader in
    let key : read_key l.reader ≡ Some (Some k, s) = grind arith in
    let less = read_key-shorter l.reader (Some k) s key in
    let lesser = c.in_ok-leaf.ensures.shorter in
    let d = outline_some _ _ _ c.in_ok-leaf.ensures.value in (
      n - 1,
      put k d.0 old,
      omega (arith, l.invariant.2),
      l.invariant.3 ∙ member_read (value c.args.depth) old n k l.reader s r d.0 (omega (arith, l.invariant.2)) key d.1,
      omega (arith, l.invariant.4),
      slots_set (texts c.args.names.now) l.slots k d.0 c.in_ok-leaf.leaf old c.in-Some-place_of.place l.invariant.5 d.2 c.requires.distinct
          (rw (length_texts c.args.names.now) c.in-Some-place_of.ensures.0) c.in-Some-place_of.ensures.1,
      search rules,
    )

pub members-preserved : goal.members-preserved
members-preserved c =
    let l = c.members in
    let n = l.invariant.0 in
    let old = l.invariant.1 in
    let k = c.in-Some.key.now in
    let s = c.next_key.new.self in
    let r = c.pass_value.new.reader in
    let key : read_key l.reader ≡ Some (Some k, s) = grind arith in
    let less = read_key-shorter l.reader (Some k) s key in
    let lesser = c.in_ok-leaf.ensures.shorter in
    let d = outline_some _ _ _ c.in_ok-leaf.ensures.value in (
      n - 1,
      put k d.0 old,
      omega (arith, l.invariant.2),
      l.invariant.3 ∙ member_read (value c.args.depth) old n k l.reader s r d.0 (omega (arith, l.invariant.2)) key d.1,
      omega (arith, l.invariant.4),
      l.invariant.5 ∙ sym (values_other (texts c.args.names.now) k d.0 old c.in_default-place_of.ensures),
      l.invariant.6,
    )

pub returns-clause-value : goal.returns-clause-value
returns-clause-value c =
    let l = c.members in
    let n = l.invariant.0 in
    let over = l.invariant.3 ∙ members_over (value c.args.depth) l.invariant.1 n l.reader c.next_key.new.self l.invariant.2 (grind arith) in
    ap (parse_map (last_values (texts c.args.names.now))) over ∙ ap (λ slots. Some (slots, c.next_key.new.self)) (sym l.invariant.5)

pub returns-clause-shorter : goal.returns-clause-shorter
returns-clause-shorter c =
    let l = c.members in
    let key : read_key l.reader ≡ Some (None, c.next_key.new.self) = grind arith in
    let less = read_key-shorter l.reader _ _ key in
    omega (arith, l.invariant.4)
