use Rattle.std.proofs.Common.{◌≢◌}
use Rattle.std.specs.List.{AllWithin}
use Rattle.json_pass.specs.Members.{texts}
use Rattle.json_pass.proofs.members.place_of.Given as goal

abbrev pub invariant-loop-place : goal.invariant-loop-place
invariant-loop-place l = AllWithin (λ other. other ≢ l.name) (texts l.names) 0 l.place
