use Rattle.std.proofs.Common.{◌∙◌, ap, Some}
use Rattle.askrened.specs.Words.{invocation_by}
use Rattle.askrened.proofs.Asking.{if_serves}
use Rattle.askrened.proofs.serve.run_serve.Goals as goal

pub returns-in-Ok-Serve-clause-complete : goal.returns-in-Ok-Serve-clause-complete
returns-in-Ok-Serve-clause-complete c d =
    if_serves _ _ _ _ _ (d.in-Ok-Serve.ensures.asked ∙ ap (λ task. Some (invocation_by task)) d.in-Ok-Serve.field-0-is) d.load_and_serve.ensures.complete

pub returns-in-Ok-Serve-clause-answered : goal.returns-in-Ok-Serve-clause-answered
returns-in-Ok-Serve-clause-answered c d =
    if_serves _ _ _ _ _ (d.in-Ok-Serve.ensures.asked ∙ ap (λ task. Some (invocation_by task)) d.in-Ok-Serve.field-0-is) d.load_and_serve.ensures.answered
