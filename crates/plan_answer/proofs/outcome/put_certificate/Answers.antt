use Rattle.std.proofs.Common.{ap, ◌∙◌, sym, codes}
use Rattle.serde_json.specs.Data.{member, string}
use Rattle.serde_json.specs.View.{members_view, view}
use Rattle.plan_answer.specs.Records.{member_if}
use Rattle.plan_answer.proofs.Order.{put_before}
use Rattle.plan_answer.proofs.outcome.put_certificate.Goals as goal

pub returns-in_ok-put : goal.returns-in_ok-put
returns-in_ok-put c =
    let others = members_view c.args.members.now.entries in
    c.in_ok-put.ensures.ok ∙ put_before (codes "certificate") (view c.text_value.result) others c.requires
    ∙ ap (λ value. member (codes "certificate") value others) c.text_value.ensures
    ∙ ap (λ given. member_if (codes "certificate") string given others) (sym c.in-Some.is)
