-- Serves private clauses only. The JSON tokens of a map's entry and of a request's parts.
use Rattle.std.specs.Prelude.{ℕ, List, [], ◌∷◌, codes, decimal}
use Rattle.json.specs.Token.{Token, begin_object, end_object, begin_array, end_array, key, string, number}
use Rattle.plan_base.specs.declared.amount.TheConstants.{MAX}
use Rattle.workload.specs.declared.channel.Policy.{Policy}

-- the entry of a direction, by the texts of its ends and of its channel
abbrev pub entry_tokens : List ℕ → List ℕ → List ℕ → ℕ → Policy → List Token
entry_tokens source destination channel capacity policy =
    begin_object
    ∷ key (codes "amount_msat") ∷ number (decimal capacity)
    ∷ key (codes "base_fee_millisatoshi") ∷ number (decimal policy.base)
    ∷ key (codes "delay") ∷ number (decimal policy.delay)
    ∷ key (codes "destination") ∷ string destination
    ∷ key (codes "fee_per_millionth") ∷ number (decimal policy.ppm)
    ∷ key (codes "short_channel_id") ∷ string channel
    ∷ key (codes "source") ∷ string source
    ∷ end_object ∷ []

-- before a request's parameters
abbrev pub request_tokens : ℕ → List Token
request_tokens id = begin_object ∷ key (codes "id") ∷ number (decimal id) ∷ key (codes "method") ∷ string (codes "getroutes") ∷ key (codes "params") ∷ []

-- the parameters, by the texts of the ends
abbrev pub params_tokens : List ℕ → List ℕ → ℕ → List Token
params_tokens source destination amount =
    begin_object
    ∷ key (codes "amount_msat") ∷ number (decimal amount)
    ∷ key (codes "destination") ∷ string destination
    ∷ key (codes "final_cltv") ∷ number (decimal 18)
    ∷ key (codes "layers") ∷ begin_array ∷ end_array
    ∷ key (codes "maxdelay") ∷ number (decimal 65535)
    ∷ key (codes "maxfee_msat") ∷ number (decimal MAX)
    ∷ key (codes "maxparts") ∷ number (decimal 100)
    ∷ key (codes "source") ∷ string source
    ∷ end_object ∷ []
