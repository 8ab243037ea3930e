-- Names of layers: 1 to NAME_MAX bytes that don't begin with `auto.`, which is reserved for automatic layers.
use Rattle.std.specs.Prelude.{ℕ, ◌&&◌, nat_le, nat_eq, not, Bool, List, length, codes}
use Rattle.std.specs.List.{starts_with}
use Rattle.layer.specs.declared.name.TheConstants.{NAME_MAX}

-- the text has 1 to NAME_MAX bytes
abbrev pub has_good_length : List ℕ → Bool
has_good_length text = nat_le 1 (length text) && nat_le (length text) NAME_MAX

-- the text begins with `auto.`
abbrev pub is_automatic : List ℕ → Bool
is_automatic text = starts_with nat_eq text (codes "auto.")

-- the invariant of a name
abbrev pub is_good_name : List ℕ → Bool
is_good_name text = has_good_length text && not (is_automatic text)
