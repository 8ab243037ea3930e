use Rattle.std.proofs.Common.{rules, ◌≡◌, ◌∙◌, Some, ap}
use Rattle.port_io.specs.MemSource.{source_left}
use Rattle.workload.specs.Sink.{kept_bytes}
use Rattle.gen_command.specs.Gen.{requests_of}
use Rattle.gen_command.proofs.Served.{is_served}
use Rattle.gen_command.proofs.replies.serve.Goals as goal

pub returns-then-eq : goal.returns-then-eq
returns-then-eq g c =
    let asked : Some (source_left c.new-input.result) ≡ Some (requests_of c.args.size) = ap (λ bytes. Some bytes) (c.new-input.ensures.left ∙ c.in_ok-lines.ensures) in
    is_served c.args.size c.in_ok-map.map c.empty-local.result c.ask_loop-end.result (Some (source_left c.new-input.result)) (Some (source_left c.ask_loop-end.new.input))
    (g.C.Clock.moments c.args.clock.now) (g.C.Clock.moments c.ask_loop-end.new.clock) c.in_ok-journal.journal c.ask_loop-end.new.journal
    (kept_bytes c.new-output.result) (kept_bytes c.ask_loop-end.new.output)
    c.ask_loop-end.ensures.session c.in_ok-map.ensures c.empty-local.ensures.list (search rules) asked c.in_ok-journal.ensures c.new-output.ensures.bytes
