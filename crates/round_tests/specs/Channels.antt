-- The directions of a test's channels.
use Rattle.std.specs.Prelude.{ℕ, ◌+◌, ◌*◌, ◌^◌, ◌≡◌, List, [], ◌∷◌}
use Rattle.view_build.specs.declared.view.ViewDir.{ViewDir}
use Rattle.view_build.specs.View.{IsGoodViewDir}

-- the id of the channel at an index
abbrev pub scid_at : ℕ → ℕ
scid_at index = 100 * 2 ^ 40 + index * 2 ^ 16

-- good directions of the channels from an index on
abbrev pub AreGoodDirs : ℕ → ℕ → List ViewDir → Type 0
AreGoodDirs nodes index [] = Unit {0}
AreGoodDirs nodes index (d ∷ dirs) = (d.dir ≡ record { scid = scid_at index; side = 0 }) × IsGoodViewDir nodes d × AreGoodDirs nodes (index + 1) dirs
