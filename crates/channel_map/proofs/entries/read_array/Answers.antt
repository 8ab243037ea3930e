use Rattle.std.proofs.Common.{◌≡◌, [], ◌∷◌, Some, None, sym, ap, ap₂, ◌∙◌, arith}
use Rattle.json.specs.Token.{Token}
use Rattle.json.specs.Reads.{token_of}
use Rattle.json.specs.Json.{parse_map}
use Rattle.json_pass.specs.Value.{value_as}
use Rattle.json_pass.proofs.Fronts.{no_token_as, deep_array_as, outlined_as, unread_as, opened_array, not_array}
use Rattle.channel_map.specs.Channels.{gathered_of, array_entries}
use Rattle.channel_map.proofs.Gathering.{array_entries_as, no_entries}
use Rattle.channel_map.proofs.entries.read_array.Goals as goal

pub returns-in_err-token-clause-err : goal.returns-in_err-token-clause-err
returns-in_err-token-clause-err c = λ told.
    (let empty : c.args.reader.now ≡ [] = grind arith in
    ap (value_as array_entries c.args.depth) empty ∙ no_token_as array_entries c.args.depth)

pub returns-then-depth-eq0-clause-err : goal.returns-then-depth-eq0-clause-err
returns-then-depth-eq0-clause-err c = λ told.
    (let first : c.args.reader.now ≡ token_of c.in_ok-token.token ∷ c.next.new.self = grind arith in
    let opened : c.args.reader.now ≡ Token.begin_array ∷ c.next.new.self = first ∙ ap (λ k. k ∷ c.next.new.self) (opened_array _ (sym c.if-is_array.ensures)) in
    ap₂ (value_as array_entries) c.if-depth-eq0.true opened ∙ deep_array_as array_entries c.next.new.self)

pub returns-in_err-read_items-clause-err : goal.returns-in_err-read_items-clause-err
returns-in_err-read_items-clause-err c = λ told.
    (let first : c.args.reader.now ≡ token_of c.in_ok-token.token ∷ c.next.new.self = grind arith in
    let opened : c.args.reader.now ≡ Token.begin_array ∷ c.next.new.self = first ∙ ap (λ k. k ∷ c.next.new.self) (opened_array _ (sym c.if-is_array.ensures)) in
    let none = c.read_items.ensures.err (grind arith) in
    ap (value_as array_entries c.args.depth) opened ∙ array_entries_as c.args.depth c.next.new.self (omega arith) ∙ ap (parse_map Some) (ap (parse_map gathered_of) none))

pub returns-in_ok-read_items-clause-ok : goal.returns-in_ok-read_items-clause-ok
returns-in_ok-read_items-clause-ok c =
    let first : c.args.reader.now ≡ token_of c.in_ok-token.token ∷ c.next.new.self = grind arith in
    let opened : c.args.reader.now ≡ Token.begin_array ∷ c.next.new.self = first ∙ ap (λ k. k ∷ c.next.new.self) (opened_array _ (sym c.if-is_array.ensures)) in
    ap (value_as array_entries c.args.depth) opened ∙ array_entries_as c.args.depth c.next.new.self (omega arith) ∙ ap (parse_map Some) c.in_ok-read_items.ensures.ok

pub returns-in_err-pass_after-clause-err : goal.returns-in_err-pass_after-clause-err
returns-in_err-pass_after-clause-err c = λ told.
    (let first : c.args.reader.now ≡ token_of c.in_ok-token.token ∷ c.next.new.self = grind arith in
    ap (value_as array_entries c.args.depth) first ∙ unread_as array_entries c.args.depth (token_of c.in_ok-token.token ∷ c.next.new.self) c.in_err-pass_after.ensures.value)

pub returns-in_ok-pass_after-clause-ok : goal.returns-in_ok-pass_after-clause-ok
returns-in_ok-pass_after-clause-ok c =
    let first : c.args.reader.now ≡ token_of c.in_ok-token.token ∷ c.next.new.self = grind arith in
    let done = c.in_ok-pass_after.ensures in
    ap (value_as array_entries c.args.depth) first
    ∙ outlined_as array_entries c.args.depth (token_of c.in_ok-token.token ∷ c.next.new.self) c.pass_after.new.reader _ None done.value (λ d e. no_entries d (not_array d _ (done.array ∙ sym c.if-is_array.ensures) e))
