use Rattle.std.proofs.Common.{◌∙◌}
use Rattle.limit_rounds.proofs.Listing.{faulty_all, oversize_all, same_fault}
use Rattle.limit_rounds.proofs.fault.fault_of_routes.Goals as goal

pub returns : goal.returns
returns c =
    let view = c.args.view.now in
    let ask = c.args.ask.now in
    let routes = c.args.routes.now in
    let faulty = c.in_ok-faulty.ensures ∙ faulty_all view _ _ _ routes c.dirs-dirs.ensures.list c.dirs-dirs.ensures.good c.deref.ensures.value c.in_ok-loads.ensures.value in
    let oversize = c.in_ok-oversize.ensures ∙ oversize_all view _ _ _ routes c.dirs-dirs.ensures.list c.deref-2.ensures.value c.in_ok-loads.ensures.value in
    c.first_fault.ensures ∙ same_fault _ _ _ _ ask.maxfee _ _ _ _ faulty oversize c.fee_sum.ensures c.late_fault-late.ensures
