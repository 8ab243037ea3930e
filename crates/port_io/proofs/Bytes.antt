-- Two transfers of bytes, one after the other.
use Rattle.std.proofs.Common.{ℕ, List, ◌++◌, refl, append_assoc, Some, None, Option}
use Rattle.std.specs.Io.KnownBytes.{Appends, Consumes}

-- bytes that were written, and then more
pub appends_more : (before mid after : Option (List ℕ)) (first second : List ℕ)
    → Appends before mid first → Appends mid after second → Appends before after (first ++ second)
appends_more None mid after first second a b = tt
appends_more (Some xs) None after first second a b = absurd a
appends_more (Some xs) (Some ys) None first second a b = absurd b
appends_more (Some xs) (Some ys) (Some zs) first second a b = rw (b, a, append_assoc) refl

-- bytes that were taken, and then more
pub consumes_more : (before mid after : Option (List ℕ)) (first second : List ℕ)
    → Consumes before mid first → Consumes mid after second → Consumes before after (first ++ second)
consumes_more None mid after first second a b = tt
consumes_more (Some xs) None after first second a b = absurd a
consumes_more (Some xs) (Some ys) None first second a b = absurd b
consumes_more (Some xs) (Some ys) (Some zs) first second a b = rw (a, b, append_assoc) refl
