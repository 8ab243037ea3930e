-- Directions of a channel: its short channel id and a side, written `id/0` or `id/1`.
use Rattle.std.specs.Prelude.{ℕ, ◌+◌, ◌==◌, ◌&&◌, Bool, List, [], ◌∷◌, ◌++◌, Option, Some, None, if◌then◌else◌}
use Rattle.std.specs.List.{before_first, after_first}
use Rattle.std.specs.declared.cmp.Ordering.{Ordering}
use Rattle.std.specs.Ordering.{nat_cmp, ordering_then}
use Rattle.plan_base.specs.Scid.{scid_of, scid_text}

-- one direction of a channel; side 0 leads from the node with the lesser id
pub record Direction : Type 0 where
  pub scid : ℕ
  pub side : ℕ

-- whether two directions are the same
abbrev pub same_dir : Direction → Direction → Bool
same_dir a b = a.scid == b.scid && a.side == b.side

-- the order of directions: by the channel's number, and then by side
abbrev pub dir_order : Direction → Direction → Ordering
dir_order a b = ordering_then (nat_cmp a.scid b.scid) (nat_cmp a.side b.side)

-- the slash before the side
abbrev pub is_slash : ℕ → Bool
is_slash c = c == 47

-- the side that a text represents: `0` or `1`
abbrev pub side_of : List ℕ → Option ℕ
side_of (c ∷ []) = if c == 48 then Some 0 else if c == 49 then Some 1 else None
side_of _ = None

-- the direction of an id and a side that were read
abbrev pub dir_from : Option ℕ → Option ℕ → Option Direction
dir_from (Some scid) (Some side) = Some (record { scid = scid; side = side })
dir_from _ _ = None

-- the direction that a text represents
unfoldable pub dir_of : List ℕ → Option Direction
dir_of text = dir_from (scid_of (before_first is_slash text)) (side_of (after_first is_slash text))

-- the text of a direction
abbrev pub dir_text : Direction → List ℕ
dir_text dir = scid_text dir.scid ++ 47 ∷ (48 + dir.side) ∷ []
