use Rattle.std.proofs.lemmas.Result.{IfOk-weaker}
use Rattle.path_split.proofs.Shares.{kept, split_of}
use Rattle.path_split.proofs.parts.split.Goals as goal

pub cut_paths-requires-clause-most : goal.cut_paths-requires-clause-most
cut_paths-requires-clause-most c = rw c.deref.ensures.value c.in_ok-paths.ensures.most

pub returns-clause-parts : goal.returns-clause-parts
returns-clause-parts c = IfOk-weaker _ _ _ (λ parts is. split_of c.args.instance.now c.args.flow.now c.args.size c.in_ok-paths.paths.items _ _ c.in_ok-paths.ensures c.deref.ensures.value is) c.cut_paths.ensures

pub returns-clause-paths : goal.returns-clause-paths
returns-clause-paths c = IfOk-weaker c.cut_paths.result _ _ (λ parts is. (kept c.args.instance.now c.args.flow.now c.args.size c.in_ok-paths.paths.items _ parts.items c.requires.cheapest c.requires.in_order c.requires.size c.in_ok-paths.ensures c.deref.ensures.value is).paths) c.cut_paths.ensures

pub returns-clause-short : goal.returns-clause-short
returns-clause-short c = IfOk-weaker c.cut_paths.result _ _ (λ parts is. (kept c.args.instance.now c.args.flow.now c.args.size c.in_ok-paths.paths.items _ parts.items c.requires.cheapest c.requires.in_order c.requires.size c.in_ok-paths.ensures c.deref.ensures.value is).short) c.cut_paths.ensures

pub returns-clause-order : goal.returns-clause-order
returns-clause-order c = IfOk-weaker c.cut_paths.result _ _ (λ parts is. (kept c.args.instance.now c.args.flow.now c.args.size c.in_ok-paths.paths.items _ parts.items c.requires.cheapest c.requires.in_order c.requires.size c.in_ok-paths.ensures c.deref.ensures.value is).order) c.cut_paths.ensures

pub returns-clause-some : goal.returns-clause-some
returns-clause-some c = IfOk-weaker c.cut_paths.result _ _ (λ parts is. (kept c.args.instance.now c.args.flow.now c.args.size c.in_ok-paths.paths.items _ parts.items c.requires.cheapest c.requires.in_order c.requires.size c.in_ok-paths.ensures c.deref.ensures.value is).some) c.cut_paths.ensures

pub returns-clause-most : goal.returns-clause-most
returns-clause-most c = IfOk-weaker c.cut_paths.result _ _ (λ parts is. (kept c.args.instance.now c.args.flow.now c.args.size c.in_ok-paths.paths.items _ parts.items c.requires.cheapest c.requires.in_order c.requires.size c.in_ok-paths.ensures c.deref.ensures.value is).most) c.cut_paths.ensures

pub returns-clause-sent : goal.returns-clause-sent
returns-clause-sent c = IfOk-weaker c.cut_paths.result _ _ (λ parts is. (kept c.args.instance.now c.args.flow.now c.args.size c.in_ok-paths.paths.items _ parts.items c.requires.cheapest c.requires.in_order c.requires.size c.in_ok-paths.ensures c.deref.ensures.value is).sent) c.cut_paths.ensures

pub returns-clause-fits : goal.returns-clause-fits
returns-clause-fits c = IfOk-weaker c.cut_paths.result _ _ (λ parts is. (kept c.args.instance.now c.args.flow.now c.args.size c.in_ok-paths.paths.items _ parts.items c.requires.cheapest c.requires.in_order c.requires.size c.in_ok-paths.ensures c.deref.ensures.value is).fits) c.cut_paths.ensures

pub returns-clause-filled : goal.returns-clause-filled
returns-clause-filled c = IfOk-weaker c.cut_paths.result _ _ (λ parts is. (kept c.args.instance.now c.args.flow.now c.args.size c.in_ok-paths.paths.items _ parts.items c.requires.cheapest c.requires.in_order c.requires.size c.in_ok-paths.ensures c.deref.ensures.value is).filled) c.cut_paths.ensures
