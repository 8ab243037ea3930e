use Rattle.std.proofs.Common.{◌≡◌, ◌++◌, length, take, Ok, false, replicate, ap, sym, ◌∙◌, arith}
use Rattle.std.proofs.lemmas.List.{append-nil, take_all, drop_all}
use Rattle.reservations.specs.Reservations.{set_free}
use Rattle.reservations.specs.Marks.{unmarked}
use Rattle.reservations.proofs.Unmarked.{unmarked_all}
use Rattle.reservations.proofs.list.Reservations.unreserve.Goals as goal

pub returns-in-Ok-clause-ok : goal.returns-in-Ok-clause-ok
returns-in-Ok-clause-ok c =
    let list = c.self.inside.list.items in
    let new = c.mark_all.new.marks in
    let len = c.self.inside.marks.len in
    let clear : c.deref_mut.result.now ≡ replicate (length list) false = c.deref_mut.ensures.value ∙ c.self.invariant.1 in
    let start : unmarked c.deref.result.now c.deref_mut.result.now ≡ list = (λ t. unmarked (c.deref.ensures.value t) (clear t)) ∙ unmarked_all list in
    let same : length new ≡ length c.self.inside.marks.items = c.in-Ok.ensures.len ∙ ap length c.deref_mut.ensures.value in
    let back : c.deref-in-Ok.result.now ≡ new =
    c.deref-in-Ok.ensures.value ∙ ap (λ l. take len (new ++ l)) (drop_all (length new) c.self.inside.marks.items (omega (arith, same)))
    ∙ ap (take len) (append-nil new) ∙ take_all len new (omega (arith, same, c.deref_mut.ensures.len)) in
    let kept : unmarked c.deref.result.now new ≡ c.drop_marked.new.list.items =
    (λ t. unmarked (c.deref.ensures.value t) (sym back t)) ∙ sym c.drop_marked.ensures.kept in
    ap (set_free c.args.path.now 0) (sym (start ∙ c.self.view_is)) ∙ c.in-Ok.ensures.ok ∙ ap Ok kept

pub returns-in-Err-clause-refusal : goal.returns-in-Err-clause-refusal
returns-in-Err-clause-refusal c =
    let list = c.self.inside.list.items in
    let clear : c.deref_mut.result.now ≡ replicate (length list) false = c.deref_mut.ensures.value ∙ c.self.invariant.1 in
    let start : unmarked c.deref.result.now c.deref_mut.result.now ≡ list = (λ t. unmarked (c.deref.ensures.value t) (clear t)) ∙ unmarked_all list in
    ap (set_free c.args.path.now 0) (sym (start ∙ c.self.view_is)) ∙ c.in-Err.ensures.err
