use Rattle.std.proofs.Common.{◌≡◌, ◌++◌, ◌∷◌, [], sym, ap, ◌∙◌, refl}
use Rattle.std.proofs.lemmas.List.{append_assoc}
use Rattle.server.specs.Place.{IsReady}
use Rattle.server.proofs.Turns.{follows_on, follows_made}
use Rattle.server.proofs.Gathers.{all_grows}
use Rattle.server.proofs.PlacesMade.{made_one, map_one, draws_one, count_one, splits_one, split_left, room_left}
use Rattle.server.proofs.preparing.prepare.Goals as goal

pub split-theirs-requires-clause-splits : goal.split-theirs-requires-clause-splits
split-theirs-requires-clause-splits g c =
    let inv = c.loop-worker.invariant in
    split_left _ _ c.loop-worker.places.items _ _ _ _ _ c.in-Some.ensures.steps.0 inv.rest inv.count inv.splits c.requires.splits

pub push_reserved-requires : goal.push_reserved-requires
push_reserved-requires g c =
    let inv = c.loop-worker.invariant in
    room_left _ _ _ c.loop-worker.places.items _ _ _ _ _ c.in-Some.ensures.steps.0 inv.rest inv.count c.loop-worker.places.ok.0 inv.room c.requires.room

pub loop-worker-preserved : goal.loop-worker-preserved
loop-worker-preserved g c =
    let inv = c.loop-worker.invariant in
    let y = c.loop-worker.yielded in
    let pass = c.in-Ok.ensures in
    let m = pass.made in
    let push = c.push_reserved.ensures.items in
    let l = c.split-theirs.ensures.left in
    let r = c.split-theirs.ensures.right in
    record {
      rest = append_assoc y (c.in-Some.worker ∷ []) _ ∙ (ap (λ l. y ++ l) (sym c.in-Some.ensures.steps.0) ∙ inv.rest);
      desk = pass.desk ∙ inv.desk;
      on_desk = all_grows (λ p. p.pass.0 ≡ c.args.desk.now) _ _ _ push inv.on_desk (pass.made_by ∙ (inv.desk ∙ c.requires.desk));
      on_counter = all_grows (λ p. p.drawer.0 ≡ c.args.counter.now) _ _ _ push inv.on_counter (ap (λ z. z.0) r ∙ (inv.counter ∙ c.requires.counter));
      ready = all_grows (λ p. IsReady c.args.drawer.now.1.connections p.sessions.items p.drawer.1 p.pass.1 p.stop) _ _ _ push inv.ready record {
        connections_are = ap (λ z. z.1.connections) r ∙ inv.connections;
        parts = ap (λ z. z.1.parts) r;
        splits = ap (λ z. z.1.splits) r;
        numbers = ap (λ z. z.1.numbers) r;
        no_sessions = c.new.ensures.items;
        taken_in = ap (λ z. z.taken_in) m.new_is;
        made_from = ap (λ z. z.made_from) m.new_is;
        calls = ap (λ z. z.calls) m.new_is;
        running = refl;
      };
      workers = map_one (λ p. p.worker) _ _ _ _ push inv.workers;
      follows = follows_on _ _ _ inv.follows (follows_made _ _ _ pass.continues m);
      draws = draws_one _ _ _ y c.in-Some.worker pass.draws.1 inv.draws;
      taken_in = pass.continues.taken_in ∙ inv.taken_in;
      made_from = made_one (λ p. p.pass.1.number) _ _ _ _ _ _ push m.made_from inv.made_from;
      counter = ap (λ z. z.0) l ∙ inv.counter;
      connections = ap (λ z. z.1.connections) l ∙ inv.connections;
      parts = ap (λ z. z.1.parts) l ∙ inv.parts;
      numbers = ap (λ z. z.1.numbers) l ∙ inv.numbers;
      splits = splits_one _ _ _ _ _ _ push (ap (λ z. z.1.splits) l) (split_left _ _ c.loop-worker.places.items _ _ _ _ _ c.in-Some.ensures.steps.0 inv.rest inv.count inv.splits c.requires.splits) inv.splits;
      count = count_one _ _ _ y c.in-Some.worker push inv.count;
      room = c.push_reserved.ensures.capacity ∙ inv.room;
    }
