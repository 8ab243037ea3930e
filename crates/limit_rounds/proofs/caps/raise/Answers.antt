use Rattle.std.proofs.Common.{◌<◌, ◌∙◌, ◌++◌, [], arith, ap, length}
use Rattle.std.specs.Prelude.{None, slice_index_or}
use Rattle.std.specs.List.{cons_option}
use Rattle.std.proofs.lemmas.List.{get_or_default}
use Rattle.limit_rounds.specs.Caps.{entry, next_entry}
use Rattle.limit_rounds.proofs.Raising.{entry_turn}
use Rattle.limit_rounds.proofs.caps.raise.Goals as goal

pub loop-d-preserved : goal.loop-d-preserved
loop-d-preserved c =
    let d = c.loop-d.d in
    let l = c.loop-d-test.true in
    let found = c.in_ok-found.found.items in
    let within : d < length found = let h = c.in_ok-found.ensures.long in omega (arith, h, l) in
    let read = c.index.ensures ∙ get_or_default found d _ None within ∙ c.in_ok-found.ensures.found d l in
    let is = c.next_cap-next.ensures ∙ ap (next_entry d (slice_index_or c.args.wanted.now d None)) read in
    entry_turn (entry c.args.caps.now c.args.wanted.now) c.loop-d.out.items c.push_some.new.out.items d (length c.args.wanted.now) _ l (c.in_ok-push_some.ensures ∙ ap (λ o. c.loop-d.out.items ++ cons_option o []) is) c.loop-d.invariant
