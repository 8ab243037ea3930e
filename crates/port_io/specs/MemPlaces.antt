-- The contents of files in memory, and the settings of their faults.
use Rattle.std.specs.Prelude.{ℕ, List}
use Rattle.std.specs.declared.option.Option.{Option}
use Rattle.port_io.specs.FileList.{file_in}
use Rattle.port_io.specs.declared.mem_places.MemPlaces.{MemPlaces}

-- the bytes of the file with a name
abbrev pub places_file : MemPlaces → List ℕ → Option (List ℕ)
places_file p name = file_in p.files.items name

-- the numbers of the calls that fail
abbrev pub places_fails : MemPlaces → List ℕ
places_fails p = p.fails.items

-- the number of the next call
abbrev pub places_calls : MemPlaces → ℕ
places_calls p = p.calls

-- how many calls have failed
abbrev pub places_faults : MemPlaces → ℕ
places_faults p = p.faults
