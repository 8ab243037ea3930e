-- A list of named files.
use Rattle.std.specs.Prelude.{ℕ, List, [], ◌∷◌, Vec, String, string_bytes, None, Some, if◌then◌else◌}
use Rattle.std.specs.declared.option.Option.{Option}
use Rattle.std.specs.declared.alloc.Global.{Global}
use Rattle.std.specs.Str.{bytes_eq}

-- the bytes of the first file with this name
abbrev pub file_in : List (String Global × Vec ℕ Global) → List ℕ → Option (List ℕ)
file_in [] name = None
file_in (file ∷ files) name = if bytes_eq (string_bytes file.0) name then Some file.1.items else file_in files name
