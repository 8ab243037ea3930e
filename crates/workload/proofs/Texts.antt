-- The texts of entries and requests, put together from their tokens.
use Rattle.std.proofs.Common.{◌≡◌, ℕ, List, [], ◌∷◌, ◌++◌, refl, append_assoc}
use Rattle.json.specs.Print.{print, print_from, escape_byte}
use Rattle.serde_json.specs.Written.{compact_text}
use Rattle.plan_base.specs.Scid.{scid_number, scid_text}
use Rattle.workload.specs.Node.{node_text}
use Rattle.workload.specs.Map.{entry_data}
use Rattle.workload.specs.Request.{ask_params, request_line}
use Rattle.workload.specs.Tokens.{entry_tokens, request_tokens, params_tokens}
use Rattle.workload.specs.declared.channel.Policy.{Policy}
use Rattle.workload.specs.declared.payment.Payment.{Payment}

pub entry_text : (place source destination capacity : ℕ) (policy : Policy)
    → print (entry_tokens (node_text source) (node_text destination) (scid_text (scid_number 1 place 0)) capacity policy)
    ≡ compact_text (entry_data place source destination capacity policy)
unfolding print_from escape_byte entry_data
entry_text place source destination capacity policy = refl

pub params_text : (payment : Payment)
    → print (params_tokens (node_text payment.source) (node_text payment.destination) payment.amount) ≡ compact_text (ask_params payment)
unfolding print_from escape_byte ask_params
params_text payment = refl

-- the two entries of a channel, one after the other
pub two_entries : (text first later second : List ℕ) → text ++ first ++ later ++ (44 ∷ []) ++ second ≡ text ++ (first ++ (later ++ (44 ∷ second)))
two_entries text first later second = simp append_assoc

start_text : (id : ℕ) (params : List ℕ) → print (request_tokens id) ++ (params ++ 125 ∷ 10 ∷ []) ≡ print (request_tokens id) ++ params ++ 125 ∷ 10 ∷ []
start_text id params = simp append_assoc

pub request_text : (text : List ℕ) (id : ℕ) (payment : Payment)
    → text ++ print (request_tokens id) ++ compact_text (ask_params payment) ++ 125 ∷ 10 ∷ [] ≡ text ++ request_line id payment
unfolding request_line print_from escape_byte
request_text text id payment = simp append_assoc
