use Rattle.std.proofs.Common.{map}
use Rattle.serde_json.specs.View.{members_view}
use Rattle.params.specs.Parameters.{unknown_member}
use Rattle.params.proofs.Least.{IsLeft}
use Rattle.params.proofs.given.unknown_in.Given as goal

abbrev pub invariant-loop-name : goal.invariant-loop-name
invariant-loop-name l =
    let table = map (λ other. other.now) l.table in
    IsLeft table (unknown_member table (members_view l.fn.members.entries)) l.name-iterator
