-- What a step that fails says of the whole chain of reading parameters.
use Rattle.std.proofs.Common.{◌≡◌, ℕ, List, Option, Result, Ok, Err, refl}
use Rattle.std.specs.Prelude.{IfErr, IsErrAnd}
use Rattle.params.specs.Parameters.{need, none_unknown}
use Rattle.params.specs.Reading.{IsBad, IsUnknown, IsFaultIn}
use Rattle.params.specs.declared.fault.Fault.{Fault}
use Rattle.params.specs.declared.fault.Fault.TheVariants.{Param, NoMemory}

bad_is_fault : {A B : Type 0} (fault : Fault) (name : List ℕ) (good : Option A) (next : A → Result B (List ℕ))
    → IsBad fault name good → IsFaultIn fault (need name good next)
bad_is_fault (Param other) name good next bad = rw (bad.1, bad.0) refl
bad_is_fault NoMemory name good next bad = tt

unknown_is_fault : {T : Type 0} (fault : Fault) (unknown : Option (List ℕ)) (good : T)
    → IsUnknown fault unknown → IsFaultIn fault (none_unknown unknown good)
unknown_is_fault (Param name) unknown good is = rw is refl
unknown_is_fault NoMemory unknown good is = absurd is

-- at the exit of a `?` on a parameter
pub bad_exit : {A B : Type 0} (result : Result B Fault) (fault : Fault) (name : List ℕ) (good : Option A) (next : A → Result B (List ℕ))
    → IsErrAnd result (λ given. given ≡ fault) → IsBad fault name good → IfErr result (λ given. IsFaultIn given (need name good next))
bad_exit (Ok x) fault name good next same bad = absurd same
bad_exit (Err given) fault name good next same bad = rw same (bad_is_fault fault name good next bad)

-- at the exit of a `?` on the names
pub unknown_exit : {B : Type 0} (result : Result B Fault) (fault : Fault) (unknown : Option (List ℕ)) (good : B)
    → IsErrAnd result (λ given. given ≡ fault) → IsUnknown fault unknown → IfErr result (λ given. IsFaultIn given (none_unknown unknown good))
unknown_exit (Ok x) fault unknown good same is = absurd same
unknown_exit (Err given) fault unknown good same is = rw same (unknown_is_fault fault unknown good is)
