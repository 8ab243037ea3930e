use Rattle.std.proofs.Common.{ap, ◌∙◌, codes}
use Rattle.serde_json.specs.Data.{object, put}
use Rattle.serde_json.specs.View.{members_view}
use Rattle.serde_json.proofs.Views.{view-Object}
use Rattle.rpc_lines.specs.Json.{whole}
use Rattle.plan_answer.proofs.Order.{place_before}
use Rattle.plan_answer.proofs.outcome.with_certificate.Goals as goal

pub returns : goal.returns
returns c =
    view-Object c.put_value.new.members
    ∙ ap object (c.in_ok-put_value.ensures
    ∙ ap (put (codes "at") (whole c.args.at)) c.in_ok-put_certificate.ensures
    ∙ place_before (whole c.args.at) c.args.certificate (members_view c.args.members.entries) c.requires)
