use Rattle.std.proofs.Common.{◌≡◌, ◌∷◌, Some, None, sym, ap, ap₂, ◌∙◌, arith}
use Rattle.json.specs.Reads.{token_of}
use Rattle.json_pass.specs.Value.{value_as}
use Rattle.json.specs.Json.{parse_map}
use Rattle.json_pass.specs.Members.{texts, wanted_values}
use Rattle.json_pass.proofs.Fronts.{deep_object_as, outlined_as, opened_object, not_object}
use Rattle.json_pass.proofs.Slots.{wanted_values_as, no_wanted_values}
use Rattle.json_pass.proofs.members.read_object_after.Goals as goal

pub returns-then-depth-eq0-clause-value : goal.returns-then-depth-eq0-clause-value
returns-then-depth-eq0-clause-value c =
    let opened = opened_object _ (sym c.if-is_object.ensures) in
    let f = wanted_values (texts c.args.names.now) in
    ap₂ (λ d t. value_as f d (t ∷ c.args.reader.now)) c.if-depth-eq0.true opened ∙ deep_object_as f c.args.reader.now

pub returns-in_err-read_members-clause-value : goal.returns-in_err-read_members-clause-value
returns-in_err-read_members-clause-value c =
    let opened = opened_object _ (sym c.if-is_object.ensures) in
    let names = texts c.args.names.now in
    let none : value_as (wanted_values names) c.args.depth (token_of c.args.token ∷ c.args.reader.now) ≡ None =
    ap (λ t. value_as (wanted_values names) c.args.depth (t ∷ c.args.reader.now)) opened ∙ wanted_values_as names c.args.depth c.args.reader.now (omega arith) ∙ ap (parse_map Some) c.in_err-read_members.ensures.value in
    grind (arith, none)

pub returns-in_ok-read_members-clause-value : goal.returns-in_ok-read_members-clause-value
returns-in_ok-read_members-clause-value c =
    let opened = opened_object _ (sym c.if-is_object.ensures) in
    let names = texts c.args.names.now in
    ap (λ t. value_as (wanted_values names) c.args.depth (t ∷ c.args.reader.now)) opened ∙ wanted_values_as names c.args.depth c.args.reader.now (omega arith) ∙ ap (parse_map Some) c.in_ok-read_members.ensures.value

pub returns-in_ok-pass_after-clause-value : goal.returns-in_ok-pass_after-clause-value
returns-in_ok-pass_after-clause-value c =
    let names = texts c.args.names.now in
    let done = c.in_ok-pass_after.ensures in
    outlined_as (wanted_values names) c.args.depth (token_of c.args.token ∷ c.args.reader.now) c.pass_after.new.reader _ None done.value (λ d e. no_wanted_values names d (not_object d _ (done.object ∙ sym c.if-is_object.ensures) e))
