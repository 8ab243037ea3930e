-- The payments that the workload asks routes for, each made by three draws.
use Rattle.std.specs.Prelude.{ℕ, ◌+◌, ◌*◌, ◌%◌}
use Rattle.workload.specs.Draws.{draw}
use Rattle.workload.specs.Node.{other_node}
use Rattle.workload.specs.declared.payment.Payment.{Payment}

-- a payment: its source, its destination and its amount in msat
unfoldable pub payment_from : ℕ → ℕ → Payment
payment_from nodes state = record {
  source = draw 0 state % nodes;
  destination = other_node nodes (draw 0 state % nodes) (draw 1 state);
  amount = (1 + draw 2 state % 2000) * 1000000;
}

-- how many draws make a payment
abbrev pub payment_draws : ℕ
payment_draws = 3
