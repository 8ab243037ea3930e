-- An input of at most the limit has no more bytes than the limit that can be taken.
use Rattle.std.proofs.Common.{ℕ, ◌≤◌, List, length, Option, Some, None, ap, arith}
use Rattle.std.specs.Prelude.{IsSomeAnd}
use Rattle.transfer.specs.Transfer.{TakesMore}
use lib.ListN.{length-append}

pub short_is_not_long : (limit : ℕ) (before after : Option (List ℕ)) → IsSomeAnd before (λ bytes. length bytes ≤ limit) → TakesMore limit before after → ⊥
short_is_not_long limit None after short more = short
short_is_not_long limit (Some bytes) None short more = more.consumed
short_is_not_long limit (Some bytes) (Some rest) short more = omega (arith, short, more.more, ap length more.consumed, length-append more.taken rest)
