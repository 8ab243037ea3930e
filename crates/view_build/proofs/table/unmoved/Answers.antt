use Rattle.std.proofs.Common.{◌≡◌, ◌<◌, ◌++◌, length, ap, ◌∙◌, arith}
use Rattle.std.proofs.lemmas.List.{take_all}
use Rattle.std.proofs.lemmas.List.Elements.{All-nil, All-push}
use Rattle.channel_map.specs.Nodes.{HasBothEnds}
use Rattle.view_build.proofs.Tables.{own_place}
use Rattle.view_build.proofs.table.unmoved.Goals as goal

pub loop-place-preserved : goal.loop-place-preserved
loop-place-preserved c =
    let l = c.loop-place in
    let nodes = c.args.nodes.now in
    let within : l.place < length nodes = omega arith in
    record {
      named = rw c.in_ok-push.ensures.items (own_place nodes l.moved.items l.place within l.invariant.named);
      within = rw c.in_ok-push.ensures.items (All-push (λ place. place < length nodes) l.moved.items l.place l.invariant.within within);
    }

pub returns : goal.returns
returns c =
    let nodes = c.args.nodes.now in
    let is : c.extend_from_slice.new.self.items ≡ nodes = c.in_ok-extend_from_slice.ensures.items ∙ ap (λ ids. ids ++ nodes) c.in_ok-ids.ensures.items in
    record {
      ascend = rw is c.requires.ascend;
      few = rw is c.requires.few;
      named = rw is (c.loop-place.invariant.named ∙ take_all c.loop-place.place nodes (omega arith));
      within = rw is c.loop-place.invariant.within;
      ends = All-nil (HasBothEnds c.extend_from_slice.new.self.items);
    }
