-- The turns of loops over the hops of a path, and over the nodes on a side.
use Rattle.std.proofs.Common.{ℕ, ◌+◌, ◌-◌, ◌<◌, ◌≡◌, ◌++◌, Bool, true, false, cond, List, [], ◌∷◌, sym, refl, ap, ◌∙◌, map, take, arith, length, ◌≤◌}
use Rattle.std.specs.Prelude.{filter, slice_index_or, zip}
use Rattle.std.proofs.lemmas.List.{append_assoc, map-append, take_all, take_more}
use Rattle.std.proofs.lemmas.Slice.Zip.{get_or-zip, length-zip}
use Rattle.fee_backward.specs.declared.hop.Hop.{Hop}
use Rattle.std.specs.List.{range_with_len}
use Rattle.serde_json.specs.Data.{Data}
use Rattle.limit_rounds.proofs.Raising.{range_next}

pub node_turn : (f : ℕ → Data) (p : ℕ → Bool) (out more : List Data) (i n : ℕ) (b : Bool) (whole : List Data) → i < n → p i ≡ b → more ≡ out ++ cond b (f i ∷ []) [] → out ++ map f (filter p (range_with_len i (n - i))) ≡ whole → more ++ map f (filter p (range_with_len (i + 1) (n - (i + 1)))) ≡ whole
node_turn f p out more i n b whole l is grows old =
    let rest = filter p (range_with_len (i + 1) (n - (i + 1))) in
    ap (λ xs. xs ++ map f rest) grows ∙ append_assoc out (cond b (f i ∷ []) []) (map f rest) ∙ ap (λ xs. out ++ xs) (one b rest) ∙ ap (λ c. out ++ map f (cond c (i ∷ rest) rest)) (sym is) ∙ ap (λ xs. out ++ map f (filter p xs)) (sym (range_next i n l)) ∙ old
  where
    one : (c : Bool) (rest : List ℕ) → cond c (f i ∷ []) [] ++ map f rest ≡ map f (cond c (i ∷ rest) rest)
    one true rest = refl
    one false rest = refl

pub hop_turn : (f : ℕ × Hop → Data) (path : List ℕ) (hops : List Hop) (i : ℕ) (h : Hop) (old more : List Data) (value : Data) → i < length path → length hops ≡ length path → old ≡ map f (take i (zip path hops)) → value ≡ f (slice_index_or path i 0, slice_index_or hops i h) → more ≡ old ++ value ∷ [] → more ≡ map f (take (i + 1) (zip path hops))
hop_turn f path hops i h old more value l long before is grows =
    let pairs = zip path hops in
    let within : i < length pairs = let z = length-zip path hops in omega (arith, z, l, long) in
    let next = take_more pairs i (0, h) within ∙ ap (λ x. take i pairs ++ x ∷ []) (get_or-zip path hops i (0, h) l (omega (arith, l, long))) in
    grows ∙ ap (λ xs. xs ++ value ∷ []) before ∙ ap (λ x. map f (take i pairs) ++ x ∷ []) is ∙ sym (ap (map f) next ∙ map-append f (take i pairs) ((slice_index_or path i 0, slice_index_or hops i h) ∷ []))

pub all_hops : (path : List ℕ) (hops : List Hop) (i : ℕ) → length path ≤ i → take i (zip path hops) ≡ zip path hops
all_hops path hops i le = take_all i (zip path hops) (let z = length-zip path hops in omega (arith, z, le))
