-- The ends of channels and payments are two nodes.
use Rattle.std.proofs.Common.{◌≡◌, ◌≢◌, ℕ, ◌+◌, ◌-◌, ◌%◌, ◌<◌, ◌≤◌, Bool, true, false, nat_lt, refl, arith}
use Rattle.std.proofs.Math.Nat.{mod-lt, mod-eq_of_lt, add-mod_left}
use Rattle.std.proofs.lemmas.Bool.{ltb-true, ltb-false}
use Rattle.workload.specs.Draws.{draw}
use Rattle.workload.specs.Node.{other_node}
use Rattle.workload.specs.Channel.{channel_from}
use Rattle.workload.specs.Payment.{payment_from}
use Rattle.workload.specs.Laws.{AreTwoNodes, ChannelsHaveTwoEnds, PaymentsHaveTwoEnds}

-- the numbers after a node, one round of all nodes long, are not the node
not_back : (nodes node k : ℕ) (within : Bool) → nat_lt k nodes ≡ within → node < nodes → node < k → k < node + nodes → node ≢ k % nodes
not_back nodes node k true is inside after before = λ same.
    let small : k < nodes = ltb-true _ _ is in
    let value : k % nodes ≡ k = mod-eq_of_lt small in
    absurd (omega (arith, same, value, after))
not_back nodes node k false is inside after before = λ same.
    let large : nodes ≤ k = ltb-false _ _ is in
    let rest : ℕ = k - nodes in
    let sum : k ≡ nodes + rest = omega arith in
    let small : rest < nodes = omega arith in
    let value : rest % nodes ≡ rest = mod-eq_of_lt small in
    let around : (nodes + rest) % nodes ≡ rest % nodes = add-mod_left nodes rest in
    let turned : node ≡ (nodes + rest) % nodes = rw sum at same in
    absurd (omega (arith, turned, around, value, before))

two_nodes : (nodes node number : ℕ) → 2 ≤ nodes → node < nodes → AreTwoNodes nodes node (other_node nodes node number)
two_nodes nodes node number some inside =
    let few : 0 < nodes - 1 = omega arith in
    let step : number % (nodes - 1) < nodes - 1 = mod-lt number few in
    let many : 0 < nodes = omega arith in
    record {
      first_is = inside;
      second_is = mod-lt (node + 1 + number % (nodes - 1)) many;
      differ = not_back nodes node (node + 1 + number % (nodes - 1)) _ refl inside (omega arith) (omega (arith, step));
    }

pub channels_have_two_ends : ChannelsHaveTwoEnds
unfolding channel_from
channels_have_two_ends nodes place state some =
    let many : 0 < nodes = omega (arith, some) in
    two_nodes nodes (place % nodes) (draw 0 state) some (mod-lt place many)

pub payments_have_two_ends : PaymentsHaveTwoEnds
unfolding payment_from
payments_have_two_ends nodes state some =
    let many : 0 < nodes = omega (arith, some) in
    two_nodes nodes (draw 0 state % nodes) (draw 1 state) some (mod-lt (draw 0 state) many)
