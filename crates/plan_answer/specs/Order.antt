-- The order of members by their keys; it serves private clauses only.
use Rattle.std.specs.Prelude.{◌≡◌, ℕ, List}
use Rattle.std.specs.declared.cmp.Ordering.TheVariants.{Less}
use Rattle.std.specs.Ordering.{nat_cmp}
use Rattle.std.specs.Cmp.Lexicographic.{slice_cmp}
use Rattle.serde_json.specs.Data.{Members, member, no_members}

-- the key is below another
abbrev pub IsBelow : List ℕ → List ℕ → Type 0
IsBelow key other = slice_cmp nat_cmp key other ≡ Less

-- the key is below the first of the members
unfoldable pub IsBefore : List ℕ → Members → Type 0
IsBefore key no_members = Unit {0}
IsBefore key (member other value rest) = IsBelow key other
