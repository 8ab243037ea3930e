use Rattle.std.proofs.Common.{ap, Some, subst, inl}
use Rattle.std.proofs.lemmas.Result.{IfOk-weaker}
use Rattle.view_build.specs.Built.{IsViewFault, sources_of}
use Rattle.view_build.specs.declared.fault.ViewFault.TheVariants.{DestinationUnknown}
use Rattle.plan_answer.proofs.ask.answer.Goals as goal

pub returns-in-Err-DestinationUnknown : goal.returns-in-Err-DestinationUnknown
returns-in-Err-DestinationUnknown g c =
    IfOk-weaker c.end_body-in-Err-DestinationUnknown.result _ _
    (λ body is. inl (record {
      fault = DestinationUnknown;
      is_fault = subst (IsViewFault (sources_of c.args.map.now c.args.local.now c.args.snapshot)) c.in-Err-DestinationUnknown.field-0-is c.in-Err-DestinationUnknown.ensures.err;
      told = ap Some is;
    }))
    c.end_body-in-Err-DestinationUnknown.ensures
