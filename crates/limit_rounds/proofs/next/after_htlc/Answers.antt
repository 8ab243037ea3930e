use Rattle.std.proofs.Common.{◌∙◌, ◌<◌, ◌≤◌, ◌/◌, ap, sym, refl, subst, length, cond, ℕ, List}
use Rattle.std.specs.Prelude.{All, nat_lt, not, ◌&&◌}
use Rattle.view_build.specs.declared.view.ViewDir.{ViewDir}
use Rattle.round_rules.specs.declared.round.Cap.{Cap}
use Rattle.round_rules.specs.Instance.{times_in}
use Rattle.round_rules.specs.Next.{is_listed}
use Rattle.round_rules.proofs.Caps.{times_most}
use Rattle.limit_rounds.specs.Caps.{halves_at}
use Rattle.limit_rounds.proofs.Raising.{raised_all}
use Rattle.limit_rounds.proofs.Following.{closed_within, zero_value, halved_size, untried_at}
use Rattle.limit_rounds.proofs.next.after_htlc.Goals as goal

pub zero_caps-requires : goal.zero_caps-requires
zero_caps-requires c =
    let round = c.args.round.now in
    subst (λ (vs : List ViewDir). All (λ d. d < length vs) c.deref.result.now) (sym c.dirs-dirs.ensures.list)
    (closed_within c.dirs-dirs.result.now round.size c.args.coarse (length c.args.view.now.dirs) c.args.listed.now c.in_ok-closed.closed.items c.deref.result.now c.in_ok-closed.ensures c.deref.ensures.value c.requires.listed)

pub raise-requires-clause-times : goal.raise-requires-clause-times
raise-requires-clause-times c d l = subst (λ (cs : List Cap). times_in cs d ≤ 3) (sym c.as_slice.ensures) (times_most c.args.round.now.caps c.requires.times d)

pub returns : goal.returns
returns c =
    let view = c.args.view.now in
    let round = c.args.round.now in
    let listed = c.args.listed.now in
    let coarse = c.args.coarse in
    let dirs = c.dirs-dirs.result.now in
    let is = c.dirs-dirs.ensures.list in
    let closed = c.in_ok-closed.closed.items in
    let value = zero_value dirs view.dirs round.size coarse (length dirs) listed closed _ c.in_ok-wanted.wanted.items is refl c.in_ok-closed.ensures c.deref.ensures.value c.in_ok-wanted.ensures.value in
    let caps = c.in_ok-caps.ensures ∙ raised_all view round.caps _ c.in_ok-wanted.wanted.items _ (λ d. is_listed listed d && not (halves_at view.dirs round.size coarse d)) (λ d. 0) c.as_slice.ensures c.deref-2.ensures.value (c.in_ok-wanted.ensures.long ∙ ap length is) value in
    let size = c.halved-size.ensures ∙ ap {B = ℕ} (λ b. cond b (round.size / 2) round.size) (ap (λ n. nat_lt n (length listed)) (c.len.ensures ∙ sym c.deref.ensures.len ∙ ap length c.deref.ensures.value) ∙ halved_size dirs view.dirs round.size coarse listed closed is c.in_ok-closed.ensures) in
    untried_at c.untried.result _ _ (λ k. record { unit = round.unit; fee_level = round.fee_level; delay_level = round.delay_level; size = size k; caps = caps k }) c.untried.ensures
