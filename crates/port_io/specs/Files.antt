-- The results of reading a whole file.
use Rattle.std.specs.Prelude.{ℕ, ◌≡◌, ◌<◌, ◌≤◌, List, length, Result, Ok, Vec, IfSome, IsErrOf}
use Rattle.std.specs.declared.option.Option.{Option}
use Rattle.std.specs.declared.alloc.Global.{Global}
use Rattle.port_io.specs.declared.fault.PlaceFault.{PlaceFault}
use Rattle.port_io.specs.declared.fault.PlaceFault.TheVariants.{Failed, Long}
use Rattle.port_io.specs.Faults.{Rose}

-- Ok has the file's bytes, at most the limit of them; `Long` means that the file has more
pub record GivesFile (known : Option (List ℕ)) (limit : ℕ) (result : Result (Vec ℕ Global) PlaceFault) : Type 0 where
  pub whole : (read : Vec ℕ Global) → result ≡ Ok read → IfSome known (λ bytes. read.items ≡ bytes)
  pub short : (read : Vec ℕ Global) → result ≡ Ok read → length read.items ≤ limit
  pub long : IsErrOf result Long → IfSome known (λ bytes. limit < length bytes)

-- the count did not fall, and it rose if reading failed
pub record HasPlaceCause (before after : ℕ) (result : Result (Vec ℕ Global) PlaceFault) : Type 0 where
  pub never_falls : before ≤ after
  pub failed : IsErrOf result Failed → Rose before after
