-- The directions of a view, by index.
use Rattle.std.specs.Prelude.{ℕ, pos, slice_index_or}
use Rattle.view_build.specs.declared.view.ViewDir.{ViewDir}
use Rattle.view_build.specs.View.{ViewParts}

-- the default of a lookup in a list of directions
abbrev pub no_dir : ViewDir
no_dir = record { dir = record { scid = 0; side = 0 }; from = 0; to = 0; min = 0; max = 0; htlc_min = 0; htlc_max = 0; base = 0; ppm = 0; delay = 0; bias = pos 0 }

-- the direction at an index
abbrev pub dir_at : ViewParts → ℕ → ViewDir
dir_at view d = slice_index_or view.dirs d no_dir
