-- The amounts and delays of a path's hops, from the last hop backward.
use Rattle.std.specs.Prelude.{ℕ, ◌+◌, List, [], ◌∷◌, min}
use Rattle.plan_base.specs.declared.amount.TheConstants.{MAX}
use Rattle.plan_base.specs.declared.fee.Toll.{Toll}
use Rattle.plan_base.specs.Fee.{fee_on}
use Rattle.fee_backward.specs.declared.hop.Hop.{Hop}

-- a hop carries what the next one asks for, and the last hop what is delivered
abbrev pub carried_before : List Hop → ℕ → ℕ
carried_before [] delivered = delivered
carried_before (next ∷ later) delivered = next.amount

-- the delay after a hop is the next hop's, and after the last hop the final one
abbrev pub delay_after : List Hop → ℕ → ℕ
delay_after [] final_cltv = final_cltv
delay_after (next ∷ later) final_cltv = next.delay

-- a hop asks for what it carries and its own channel's fee, cut to MAX + 1
abbrev pub hop_of : Toll → ℕ → ℕ → Hop
hop_of toll carried delay = record { carried = carried; amount = min (MAX + 1) (carried + fee_on carried toll.base toll.ppm); delay = delay + toll.delay }

abbrev pub hop_before : Toll → List Hop → ℕ → ℕ → Hop
hop_before toll later delivered final_cltv = hop_of toll (carried_before later delivered) (delay_after later final_cltv)

-- a hop for each toll, made from the hops after it
abbrev pub amounts_of : List Toll → ℕ → ℕ → List Hop
amounts_of [] delivered final_cltv = []
amounts_of (toll ∷ tolls) delivered final_cltv = hop_before toll (amounts_of tolls delivered final_cltv) delivered final_cltv ∷ amounts_of tolls delivered final_cltv
