use Rattle.std.proofs.Common.{◌≡◌, ◌-◌, length, Some, refl, sym, ap, ap₂, ◌∙◌, arith}
use Rattle.json.specs.Json.{read_key, value}
use Rattle.json.proofs.Grammar.{read_key-shorter}
use Rattle.serde_json.specs.Data.{no_members, put}
use Rattle.serde_json.specs.Read.{of_json, converted}
use Rattle.json.specs.Json.{parse_map}
use Rattle.json_pass.proofs.Turns.{member_read, member_refused, key_refused, members_over}
use Rattle.json_pass.proofs.Fronts.{outline_some, outline_none, as_some, as_none}
use Rattle.channel_map.specs.Channels.{array_entries}
use Rattle.channel_map.specs.Found.{found_in}
use Rattle.channel_map.specs.Channels.{channels_within, listed_in}
use Rattle.std.specs.Option.{option_or}
use Rattle.channel_map.proofs.Listing.{channels_put, channels_other, result_put, result_other, apart}
use Rattle.channel_map.proofs.channels.read_outer_members.Goals as goal

pub members-init : goal.members-init
members-init c = (length c.args.reader.now, no_members, omega arith, refl, omega arith, refl, refl)

pub returns-in_err-key-clause-err : goal.returns-in_err-key-clause-err
returns-in_err-key-clause-err c = λ told.
    (let l = c.members in
    ap (parse_map listed_in) (l.invariant.3 ∙ key_refused (value c.args.depth) l.invariant.1 l.invariant.0 l.reader c.in_err-key.ensures.value))

pub returns-in_err-channels-clause-err : goal.returns-in_err-channels-clause-err
returns-in_err-channels-clause-err c = λ told.
    (let l = c.members in
    let key : read_key l.reader ≡ Some (Some c.in-Some.key.now, c.next_key.new.self) = grind arith in
    let none = as_none array_entries (converted of_json (value c.args.depth c.next_key.new.self)) (c.read_array.ensures.err (grind arith)) in
    ap (parse_map listed_in) (l.invariant.3 ∙ member_refused (value c.args.depth) l.invariant.1 l.invariant.0 c.in-Some.key.now l.reader c.next_key.new.self key none))

pub returns-in_err-inner-clause-err : goal.returns-in_err-inner-clause-err
returns-in_err-inner-clause-err c = λ told.
    (let l = c.members in
    let key : read_key l.reader ≡ Some (Some c.in-Some.key.now, c.next_key.new.self) = grind arith in
    let none = as_none channels_within (converted of_json (value c.args.depth c.next_key.new.self)) (c.read_inner.ensures.err (grind arith)) in
    ap (parse_map listed_in) (l.invariant.3 ∙ member_refused (value c.args.depth) l.invariant.1 l.invariant.0 c.in-Some.key.now l.reader c.next_key.new.self key none))

pub returns-in_err-pass_value-clause-err : goal.returns-in_err-pass_value-clause-err
returns-in_err-pass_value-clause-err c = λ told.
    (let l = c.members in
    let key : read_key l.reader ≡ Some (Some c.in-Some.key.now, c.next_key.new.self) = grind arith in
    ap (parse_map listed_in) (l.invariant.3 ∙ member_refused (value c.args.depth) l.invariant.1 l.invariant.0 c.in-Some.key.now l.reader c.next_key.new.self key (outline_none _ c.in_err-pass_value.ensures.value)))

pub members-preserved-then-is_same : goal.members-preserved-then-is_same
members-preserved-then-is_same c =
    let l = c.members in
    let n = l.invariant.0 in
    let old = l.invariant.1 in
    let k = c.in-Some.key.now in
    let s = c.next_key.new.self in
    let r = c.read_array.new.reader in
    let key : read_key l.reader ≡ Some (Some k, s) = grind arith in
    let less = read_key-shorter l.reader (Some k) s key in
    let lesser = c.in_ok-channels.ensures.shorter in
    let d = as_some array_entries (converted of_json (value c.args.depth s)) (found_in c.in_ok-channels.channels) r c.in_ok-channels.ensures.ok in (
      n - 1,
      put k d.0 old,
      omega (arith, l.invariant.2),
      l.invariant.3 ∙ member_read (value c.args.depth) old n k l.reader s r d.0 (omega (arith, l.invariant.2)) key d.1,
      omega (arith, l.invariant.4),
      sym d.2 ∙ sym (channels_put k d.0 old c.if-is_same.ensures),
      l.invariant.6 ∙ sym (result_other k d.0 old (apart k c.if-is_same.ensures)),
    )

pub members-preserved-then-is_same-2 : goal.members-preserved-then-is_same-2
members-preserved-then-is_same-2 c =
    let l = c.members in
    let n = l.invariant.0 in
    let old = l.invariant.1 in
    let k = c.in-Some.key.now in
    let s = c.next_key.new.self in
    let r = c.read_inner.new.reader in
    let key : read_key l.reader ≡ Some (Some k, s) = grind arith in
    let less = read_key-shorter l.reader (Some k) s key in
    let lesser = c.in_ok-inner.ensures.shorter in
    let d = as_some channels_within (converted of_json (value c.args.depth s)) (found_in c.in_ok-inner.inner) r c.in_ok-inner.ensures.ok in (
      n - 1,
      put k d.0 old,
      omega (arith, l.invariant.2),
      l.invariant.3 ∙ member_read (value c.args.depth) old n k l.reader s r d.0 (omega (arith, l.invariant.2)) key d.1,
      omega (arith, l.invariant.4),
      l.invariant.5 ∙ sym (channels_other k d.0 old c.if-is_same.ensures),
      sym d.2 ∙ sym (result_put k d.0 old c.if-is_same-2.ensures),
    )

pub members-preserved : goal.members-preserved
members-preserved c =
    let l = c.members in
    let n = l.invariant.0 in
    let old = l.invariant.1 in
    let k = c.in-Some.key.now in
    let s = c.next_key.new.self in
    let r = c.pass_value.new.reader in
    let key : read_key l.reader ≡ Some (Some k, s) = grind arith in
    let less = read_key-shorter l.reader (Some k) s key in
    let lesser = c.in_ok-pass_value.ensures.shorter in
    let d = outline_some _ _ _ c.in_ok-pass_value.ensures.value in (
      n - 1,
      put k d.0 old,
      omega (arith, l.invariant.2),
      l.invariant.3 ∙ member_read (value c.args.depth) old n k l.reader s r d.0 (omega (arith, l.invariant.2)) key d.1,
      omega (arith, l.invariant.4),
      l.invariant.5 ∙ sym (channels_other k d.0 old c.if-is_same.ensures),
      l.invariant.6 ∙ sym (result_other k d.0 old c.if-is_same-2.ensures),
    )

pub returns-clause-ok : goal.returns-clause-ok
returns-clause-ok c =
    let l = c.members in
    let n = l.invariant.0 in
    let r = c.next_key.new.self in
    let over = l.invariant.3 ∙ members_over (value c.args.depth) l.invariant.1 n l.reader r l.invariant.2 (grind arith) in
    ap (parse_map listed_in) over ∙ ap (λ found. Some (found, r)) (ap₂ option_or (sym l.invariant.5) (sym l.invariant.6) ∙ sym c.first_found.ensures)
