use Rattle.std.proofs.Common.{◌≡◌, true, false, nat_eq, refl, sym, ap, ◌∙◌}
use Rattle.std.proofs.lemmas.Bool.{eqb-true}
use Rattle.line_cut.specs.Buffered.{Buffered}
use Rattle.line_cut.specs.Window.{line_in, rest_in}
use Rattle.line_cut.proofs.Waiting.{open_when_wanted, all_when_wanted, few_when_wanted, nearer}
use Rattle.line_cut.proofs.Pending.{filled, filled_not}
use Rattle.line_cut.proofs.lines.Lines.fill.Goals as goal

pub make_room-requires : goal.make_room-requires
make_room-requires g c =
    let rest : rest_in c.self.inside.window ≡ c.args.self.now.rest = ap (λ (h : Buffered). h.rest) c.self.view_is in
    rw rest (few_when_wanted c.args.self.now c.requires.wanted)

pub read-requires-clause-no_feed : goal.read-requires-clause-no_feed
read-requires-clause-no_feed g c =
    let rest : rest_in c.make_room.new.self ≡ c.args.self.now.rest = c.make_room.ensures.rest ∙ ap (λ (h : Buffered). h.rest) c.self.view_is in
    rw rest (all_when_wanted c.args.self.now c.requires.wanted)

pub returns-in_default-clause-bytes : goal.returns-in_default-clause-bytes
returns-in_default-clause-bytes g c =
    let rest : rest_in c.make_room.new.self ≡ c.args.self.now.rest = c.make_room.ensures.rest ∙ ap (λ (h : Buffered). h.rest) c.self.view_is in
    let going = open_when_wanted c.args.self.now c.requires.wanted in
    let bytes = rw rest at c.read.ensures.bytes in
    filled_not c.args.self.now _ _ _ going (ap (λ (h : Buffered). h.ended) c.self.view_is ∙ going) bytes

pub returns-clause-bytes : goal.returns-clause-bytes
returns-clause-bytes g c =
    let rest : rest_in c.make_room.new.self ≡ c.args.self.now.rest = c.make_room.ensures.rest ∙ ap (λ (h : Buffered). h.rest) c.self.view_is in
    let bytes = rw rest at c.read.ensures.bytes in
    filled c.args.self.now _ _ _ c.in-Ok.count (open_when_wanted c.args.self.now c.requires.wanted) refl bytes c.in-Ok.ensures.end

pub returns-clause-nearer : goal.returns-clause-nearer
returns-clause-nearer g c =
    let rest : rest_in c.make_room.new.self ≡ c.args.self.now.rest = c.make_room.ensures.rest ∙ ap (λ (h : Buffered). h.rest) c.self.view_is in
    let len = rw rest at c.in-Ok.ensures.len in
    nearer c.args.self.now (record { rest = rest_in c.read.new.self; line = line_in c.read.new.self; ended = nat_eq c.in-Ok.count 0 }) c.in-Ok.count c.requires.wanted refl len

pub returns-in_default-clause-at_end : goal.returns-in_default-clause-at_end
returns-in_default-clause-at_end g c = λ ended.
    let wrong : true ≡ false = sym ended ∙ ap (λ (h : Buffered). h.ended) c.self.view_is ∙ open_when_wanted c.args.self.now c.requires.wanted in cc

pub returns-clause-at_end : goal.returns-clause-at_end
returns-clause-at_end g c = λ ended. c.in-Ok.ensures.end (eqb-true _ _ ended)
