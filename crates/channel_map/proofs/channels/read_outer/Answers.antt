use Rattle.std.proofs.Common.{◌≡◌, [], ◌∷◌, None, sym, ap, ap₂, ◌∙◌, arith}
use Rattle.json.specs.Token.{Token}
use Rattle.json.specs.Reads.{token_of}
use Rattle.json_pass.specs.Value.{value_as}
use Rattle.json_pass.proofs.Fronts.{no_token_as, deep_object_as, outlined_as, unread_as, opened_object, not_object}
use Rattle.channel_map.specs.Channels.{listed_in, listed_entries}
use Rattle.channel_map.proofs.Listing.{of_object_as, no_object}
use Rattle.channel_map.proofs.channels.read_outer.Goals as goal

pub returns-in_err-token-clause-err : goal.returns-in_err-token-clause-err
returns-in_err-token-clause-err c = λ told.
    (let empty : c.args.reader.now ≡ [] = grind arith in
    ap (value_as listed_entries c.args.depth) empty ∙ no_token_as listed_entries c.args.depth)

pub returns-then-depth-eq0-clause-err : goal.returns-then-depth-eq0-clause-err
returns-then-depth-eq0-clause-err c = λ told.
    (let first : c.args.reader.now ≡ token_of c.in_ok-token.token ∷ c.next.new.self = grind arith in
    let opened : c.args.reader.now ≡ Token.begin_object ∷ c.next.new.self = first ∙ ap (λ k. k ∷ c.next.new.self) (opened_object _ (sym c.if-is_object.ensures)) in
    ap₂ (value_as listed_entries) c.if-depth-eq0.true opened ∙ deep_object_as listed_entries c.next.new.self)

pub returns-else-depth-eq0-clause-err : goal.returns-else-depth-eq0-clause-err
returns-else-depth-eq0-clause-err c = λ told.
    (let first : c.args.reader.now ≡ token_of c.in_ok-token.token ∷ c.next.new.self = grind arith in
    let opened : c.args.reader.now ≡ Token.begin_object ∷ c.next.new.self = first ∙ ap (λ k. k ∷ c.next.new.self) (opened_object _ (sym c.if-is_object.ensures)) in
    ap (value_as listed_entries c.args.depth) opened ∙ of_object_as listed_in c.args.depth c.next.new.self (omega arith) ∙ c.read_outer_members.ensures.err told)

pub returns-else-depth-eq0-clause-ok : goal.returns-else-depth-eq0-clause-ok
returns-else-depth-eq0-clause-ok c =
    let first : c.args.reader.now ≡ token_of c.in_ok-token.token ∷ c.next.new.self = grind arith in
    let opened : c.args.reader.now ≡ Token.begin_object ∷ c.next.new.self = first ∙ ap (λ k. k ∷ c.next.new.self) (opened_object _ (sym c.if-is_object.ensures)) in
    let same = ap (value_as listed_entries c.args.depth) opened ∙ of_object_as listed_in c.args.depth c.next.new.self (omega arith) in
    rw same c.read_outer_members.ensures.ok

pub returns-in_err-pass_after-clause-err : goal.returns-in_err-pass_after-clause-err
returns-in_err-pass_after-clause-err c = λ told.
    (let first : c.args.reader.now ≡ token_of c.in_ok-token.token ∷ c.next.new.self = grind arith in
    ap (value_as listed_entries c.args.depth) first ∙ unread_as listed_entries c.args.depth (token_of c.in_ok-token.token ∷ c.next.new.self) c.in_err-pass_after.ensures.value)

pub returns-in_ok-pass_after-clause-ok : goal.returns-in_ok-pass_after-clause-ok
returns-in_ok-pass_after-clause-ok c =
    let first : c.args.reader.now ≡ token_of c.in_ok-token.token ∷ c.next.new.self = grind arith in
    let done = c.in_ok-pass_after.ensures in
    ap (value_as listed_entries c.args.depth) first
    ∙ outlined_as listed_entries c.args.depth (token_of c.in_ok-token.token ∷ c.next.new.self) c.pass_after.new.reader _ None done.value (λ d e. no_object listed_in d (not_object d _ (done.object ∙ sym c.if-is_object.ensures) e))
