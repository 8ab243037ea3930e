use Rattle.std.proofs.Common.{◌≤◌, List, [], ◌++◌, length, All, IfSome, Option, Some, None, ap, ◌∙◌, arith}
use Rattle.std.specs.List.{cons_option}
use Rattle.std.proofs.lemmas.List.{append-nil, length-append}
use Rattle.std.proofs.lemmas.List.Elements.{All-push}
use Rattle.plan_base.specs.Dir.{Direction}
use Rattle.channel_map.specs.Edge.{IsGoodEdge}
use Rattle.channel_map.specs.declared.edge.Edge.{Edge}
use Rattle.layer.specs.declared.records.Update.{Update}
use Rattle.view_build.specs.Channels.{created_for}
use Rattle.view_build.proofs.Filtered.{filtered_more}
use Rattle.view_build.proofs.channels.created_edges.Goals as goal

all_with : (P : Edge → Type 0) (edges : List Edge) (o : Option Edge) → All P edges → IfSome o P → All P (edges ++ cons_option o [])
all_with P edges None all some = rw (append-nil edges) all
all_with P edges (Some edge) all some = All-push P edges edge all some

few_more : (o : Option Edge) → length (cons_option o []) ≤ 1
few_more None = omega arith
few_more (Some edge) = omega arith

pub loop-dir-preserved : goal.loop-dir-preserved
loop-dir-preserved c =
    let l = c.loop-dir in
    let rest = c.in-Some.ensures.steps in
    let entry : Direction × Update = (c.in-Some.dir.now, c.in-Some.fields.now) in
    let pushed = c.in_ok-push_some.ensures ∙ ap (λ o. l.edges.items ++ cons_option o []) c.created_for.ensures.edge in
    record {
      edges = rw pushed (filtered_more (λ (e : Direction × Update). created_for c.args.channels.now c.args.map.now e.0 e.1) l.edges.items l.dir-iterator c.next.new.self entry _ rest l.invariant.edges);
      good = rw c.in_ok-push_some.ensures (all_with IsGoodEdge l.edges.items c.created_for.result l.invariant.good c.created_for.ensures.good);
      few = rw c.in_ok-push_some.ensures (omega (arith, length-append l.edges.items (cons_option c.created_for.result []), few_more c.created_for.result, ap length rest, l.invariant.few));
    }
