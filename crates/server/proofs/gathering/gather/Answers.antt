use Rattle.std.proofs.Common.{rules, ◌<◌, ◌++◌, ◌∷◌, [], length, sym, ap, ◌∙◌, subst}
use Rattle.std.proofs.lemmas.List.{append_assoc}
use Rattle.turn_desk.specs.View.{kept_by}
use Rattle.turn_desk.proofs.Lists.{drained}
use Rattle.server.specs.Gathering.{Drew}
use Rattle.server.proofs.Turns.{follows_on, follows_joined}
use Rattle.server.proofs.Gathers.{more_after, more_total, more_map, more_faults, so_far, has_room, few_more, splits_kept, one_longer, le_on, never_full}
use Rattle.server.proofs.gathering.gather.Goals as goal

pub unreachable-requires : goal.unreachable-requires
unreachable-requires g c =
    let inv = c.loop-place.invariant in
    let p = c.in-Some.place in
    let drew = so_far (λ p. Drew c.args.connections p.drawer.1 p.sessions.items) _ _ _ _ p c.requires.drew c.in-Some.ensures.steps.0 inv.rest in
    let joined = c.join-in-loop-place.ensures in
    let numbers = more_after (λ p. p.drawer.1.numbers) [] _ _ c.loop-place.yielded p (ap (λ z. z.1.numbers) joined.both) inv.numbers in
    let room = has_room (λ p. p.drawer.1) (λ p. p.sessions.items) c.args.connections c.loop-place.yielded p c.loop-place.all.sessions.items drew _ joined.distinct numbers inv.sessions in
    never_full _ _ _ _ _ _ _ room c.loop-place.all.sessions.ok.0 p.sessions.ok.0 c.requires.sessions_room inv.sessions_room c.in_default.ensures.full

pub loop-place-preserved : goal.loop-place-preserved
loop-place-preserved g c =
    let inv = c.loop-place.invariant in
    let p = c.in-Some.place in
    let y = c.loop-place.yielded in
    let j = c.join.ensures.joined in
    let d = c.join-in-loop-place.ensures in
    record {
      rest = append_assoc y (p ∷ []) _ ∙ (ap (λ l. y ++ l) (sym c.in-Some.ensures.steps.0) ∙ inv.rest);
      number = one_longer _ y p inv.number;
      desk = c.join.ensures.desk ∙ inv.desk;
      follows = follows_on _ _ _ inv.follows (follows_joined _ _ _ j);
      draws = j.draws ∙ inv.draws;
      taken_in = more_after (λ p. kept_by p.pass.1) _ _ _ y p j.taken_in inv.taken_in;
      made_from = more_after (λ p. p.pass.1.made_from) _ _ _ y p j.made_from inv.made_from;
      distinct = λ _. j.distinct;
      counter = ap (λ z. z.0) d.both ∙ inv.counter;
      connections = ap (λ z. z.1.connections) d.both ∙ inv.connections;
      numbers = more_after (λ p. p.drawer.1.numbers) [] _ _ y p (ap (λ z. z.1.numbers) d.both) inv.numbers;
      parts = more_total (λ p. p.drawer.1.parts) _ _ y p (ap (λ z. z.1.parts) d.both) inv.parts;
      splits = splits_kept _ _ _ _ (ap (λ z. z.1.splits) d.both) inv.splits;
      sessions = more_after (λ p. p.sessions.items) [] c.loop-place.all.sessions.items _ y p (search rules) inv.sessions;
      workers = more_map (λ p. p.worker) _ _ y p c.push_reserved.ensures.items inv.workers;
      faults = more_faults (λ p. p.stop) _ _ _ y p c.add_fault.ensures.items inv.number inv.faults;
      few = few_more _ _ y p c.add_fault.ensures.len inv.few;
      sessions_room = le_on _ _ _ inv.sessions_room c.append.ensures.capacity;
      workers_room = c.push_reserved.ensures.capacity ∙ inv.workers_room;
      faults_room = c.add_fault.ensures.capacity ∙ inv.faults_room;
    }

pub returns-clause-distinct : goal.returns-clause-distinct
returns-clause-distinct g c =
    let r = c.loop-place.place-iterator.rest in
    let all = drained _ _ _ c.loop-place.invariant.rest (sym r.ok.0 ∙ c.in-None.ensures.steps.0) in
    λ h. c.loop-place.invariant.distinct (subst (λ l. 0 < length l) (sym all) h)
