use Rattle.std.proofs.Common.{Some, option_map, IsSome, ◌∙◌, ap, refl, subst}
use Rattle.serde_json.specs.View.{view}
use Rattle.rpc_lines.proofs.Values.{taken_member, other_member}
use Rattle.rpc_lines.proofs.read.take.Goals as goal

pub returns-in-Some-clause-value : goal.returns-in-Some-clause-value
returns-in-Some-clause-value c =
    ap (λ v. Some (view v)) c.replace.ensures.value ∙ ap (option_map view) c.in-Some.ensures.value ∙ taken_member c.args.name.now c.args.members.now

pub returns-in-None-clause-value : goal.returns-in-None-clause-value
returns-in-None-clause-value c = ap (option_map view) c.in-None.ensures.value ∙ taken_member c.args.name.now c.args.members.now

pub returns-in-Some-clause-others : goal.returns-in-Some-clause-others
returns-in-Some-clause-others c = λ other apart.
    other_member c.args.name.now c.args.members.now (c.get_mut.follows.lender c.replace.new.dest) (Some c.replace.new.dest) other
    ((c.get_mut.follows.holds c.replace.new.dest).3 (subst (λ found. IsSome found) c.in-Some.ensures.value refl)) apart
