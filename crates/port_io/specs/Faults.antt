-- Counts of faults: they never fall, and each fault makes a count rise.
use Rattle.std.specs.Prelude.{ℕ, ◌+◌, ◌-◌, ◌^◌, ◌≡◌, ◌<◌, ◌≤◌, min, List, length, Result, IfOk, OnErr}

-- the count has risen, or is the last value of its type
abbrev pub Rose : ℕ → ℕ → Type 0
Rose before after = min (before + 1) (2 ^ 64 - 1) ≤ after

-- the count did not fall, and it rose if the call failed
pub record HasCause {T E : Type 0} (before after : ℕ) (result : Result T E) : Type 0 where
  pub never_falls : before ≤ after
  pub failed : OnErr result (Rose before after)

-- a write takes some bytes of a piece that is not empty, or the count rose
abbrev pub TakesSome : {E : Type 0} → ℕ → ℕ → List ℕ → Result ℕ E → Type 0
TakesSome before after piece result = IfOk result (λ n. n ≡ 0 → 0 < length piece → Rose before after)
