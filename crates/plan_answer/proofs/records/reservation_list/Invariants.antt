use Rattle.std.proofs.Common.{◌≡◌, map, take}
use Rattle.serde_json.specs.View.{view}
use Rattle.plan_answer.specs.Records.{reservation_data}
use Rattle.plan_answer.proofs.records.reservation_list.Given as goal

abbrev pub invariant-loop-reservation : goal.invariant-loop-reservation
invariant-loop-reservation l = map view l.values.items ≡ map (reservation_data l.now) (take l.reservation-index l.list)
