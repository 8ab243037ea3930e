use Rattle.server.proofs.Results.{works, still_on_desk, still_on_counter, all_drew, all_parts, tells_all}
use Rattle.server.proofs.workers.finish.Goals as goal

pub gather-requires-clause-on_desk : goal.gather-requires-clause-on_desk
gather-requires-clause-on_desk g c =
    let r = c.run_all.ensures in
    still_on_desk (g.V.Serve.relates c.args.server.now) g.A.Acceptor.accept_faults g.A.Acceptor.accepted c.args.connections _ _ r.len r.each _ c.requires.on_desk

pub gather-requires-clause-on_counter : goal.gather-requires-clause-on_counter
gather-requires-clause-on_counter g c =
    let r = c.run_all.ensures in
    still_on_counter (g.V.Serve.relates c.args.server.now) g.A.Acceptor.accept_faults g.A.Acceptor.accepted c.args.connections _ _ r.len r.each _ c.requires.on_counter

pub gather-requires-clause-drew : goal.gather-requires-clause-drew
gather-requires-clause-drew g c =
    let r = c.run_all.ensures in
    all_drew (g.V.Serve.relates c.args.server.now) g.A.Acceptor.accept_faults g.A.Acceptor.accepted c.args.connections _ _ r.len r.each

pub tell-requires-clause-all : goal.tell-requires-clause-all
tell-requires-clause-all g c =
    let r = c.run_all.ensures in
    let h = c.gather.ensures in
    tells_all _ _ _ _ _ h.parts (all_parts (g.V.Serve.relates c.args.server.now) g.A.Acceptor.accept_faults g.A.Acceptor.accepted c.args.connections _ _ r.len r.each) h.splits c.requires.splits

pub returns-clause-works : goal.returns-clause-works
returns-clause-works g c = λ workers v prepared.
    let r = c.run_all.ensures in
    let h = c.gather.ensures in
    let s = c.sort_sessions.ensures in
    works (g.V.Serve.relates c.args.server.now) g.A.Acceptor.accept_faults g.A.Acceptor.accepted c.args.connections _ _ r.len r.each workers v _ _ prepared h.follows h.draws h.taken_in h.made_from h.distinct
    _ _ _ _ _ h.numbers c.tell.ensures.whole h.sessions h.faults h.workers s.permutation s.ascending
