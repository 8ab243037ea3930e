-- A turn of the loop that goes over the tolls from the last one backward.
use Rattle.std.proofs.Common.{ℕ, suc, ◌+◌, ◌-◌, ◌<◌, ◌≤◌, ◌≡◌, List, [], ◌∷◌, ◌++◌, length, reverse, drop, get_or, sym, ap, ◌∙◌, arith}
use Rattle.std.proofs.Math.Seq.{drop-cons}
use Rattle.std.proofs.lemmas.List.{reverse-append}
use Rattle.plan_base.specs.declared.fee.Toll.{Toll}
use Rattle.fee_backward.specs.declared.hop.Hop.{Hop}
use Rattle.fee_backward.specs.Hop.{amounts_of, carried_before, delay_after, hop_of, hop_before}

pub hops_turn : (tolls : List Toll) (hops more : List Hop) (hop : Hop) (d : Toll) (i carried delay delivered final_cltv : ℕ) → i < length tolls → reverse hops ≡ amounts_of (drop (length tolls - i) tolls) delivered final_cltv → carried ≡ carried_before (reverse hops) delivered → delay ≡ delay_after (reverse hops) final_cltv → hop ≡ hop_of (get_or tolls (length tolls - 1 - i) d) carried delay → more ≡ hops ++ hop ∷ [] → (reverse more ≡ amounts_of (drop (length tolls - (i + 1)) tolls) delivered final_cltv) × (hop.amount ≡ carried_before (reverse more) delivered) × (hop.delay ≡ delay_after (reverse more) final_cltv)
hops_turn tolls hops more hop d i carried delay delivered final_cltv l made next delayed is grows =
    let j = length tolls - 1 - i in
    let toll = get_or tolls j d in
    let later = drop (length tolls - i) tolls in
    let back : reverse more ≡ hop ∷ reverse hops = ap reverse grows ∙ reverse-append hops (hop ∷ []) in
    let here : j < length tolls = omega (arith, l) in
    let after : suc j ≡ length tolls - i = omega (arith, l) in
    let place : length tolls - (i + 1) ≡ j = omega (arith, l) in
    let from : drop (length tolls - (i + 1)) tolls ≡ toll ∷ later = ap (λ n. drop n tolls) place ∙ drop-cons tolls j d here ∙ ap (λ n. toll ∷ drop n tolls) after in
    let made_here : hop ≡ hop_before toll (amounts_of later delivered final_cltv) delivered final_cltv =
    is ∙ (λ k. hop_of toll (next k) (delayed k)) ∙ ap (λ hs. hop_before toll hs delivered final_cltv) made in (
      back ∙ (λ k. made_here k ∷ made k) ∙ ap (λ ts. amounts_of ts delivered final_cltv) (sym from),
      ap (λ hs. carried_before hs delivered) (sym back),
      ap (λ hs. delay_after hs final_cltv) (sym back),
    )

pub hops_end : (tolls : List Toll) (hops : List Hop) (i delivered final_cltv : ℕ) → length tolls ≤ i → reverse hops ≡ amounts_of (drop (length tolls - i) tolls) delivered final_cltv → reverse hops ≡ amounts_of tolls delivered final_cltv
hops_end tolls hops i delivered final_cltv l made =
    let none : length tolls - i ≡ 0 = omega (arith, l) in
    made ∙ ap (λ n. amounts_of (drop n tolls) delivered final_cltv) none
