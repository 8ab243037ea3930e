-- The requests of the workload, one per line.
use Rattle.std.specs.Prelude.{ℕ, zero, suc, ◌+◌, ◌*◌, List, [], ◌∷◌, ◌++◌, codes}
use Rattle.serde_json.specs.Data.{Data, string, array, object, no_items, no_members, member}
use Rattle.serde_json.specs.Written.{compact_text}
use Rattle.plan_base.specs.declared.amount.TheConstants.{MAX}
use Rattle.rpc_lines.specs.Json.{whole}
use Rattle.workload.specs.Draws.{state_after}
use Rattle.workload.specs.Node.{node_text}
use Rattle.workload.specs.Channel.{channel_draws}
use Rattle.workload.specs.Payment.{payment_from, payment_draws}
use Rattle.workload.specs.declared.payment.Payment.{Payment}

-- the parameters of a request for routes: no layer, the greatest limit of each kind, and no certificate
unfoldable pub ask_params : Payment → Data
ask_params payment =
    object (member (codes "amount_msat") (whole payment.amount)
    (member (codes "destination") (string (node_text payment.destination))
    (member (codes "final_cltv") (whole 18)
    (member (codes "layers") (array no_items)
    (member (codes "maxdelay") (whole 65535)
    (member (codes "maxfee_msat") (whole MAX)
    (member (codes "maxparts") (whole 100)
    (member (codes "source") (string (node_text payment.source)) no_members))))))))

-- the value of a request
abbrev pub ask_data : ℕ → Payment → Data
ask_data id payment =
    object (member (codes "id") (whole id)
    (member (codes "method") (string (codes "getroutes"))
    (member (codes "params") (ask_params payment) no_members)))

-- the line of a request, with its LF
unfoldable pub request_line : ℕ → Payment → List ℕ
request_line id payment = compact_text (ask_data id payment) ++ 10 ∷ []

-- the lines of so many requests, the first of them with an id
abbrev pub lines_from : ℕ → ℕ → ℕ → ℕ → List ℕ
lines_from nodes zero id state = []
lines_from nodes (suc count) id state =
    request_line id (payment_from nodes state) ++ lines_from nodes count (id + 1) (state_after payment_draws state)

-- the lines of all requests; their draws follow those of the channels
unfoldable pub lines_text_of : ℕ → ℕ → ℕ → ℕ → List ℕ
lines_text_of number nodes channels asks = lines_from nodes asks 0 (state_after (channel_draws * channels) number)
