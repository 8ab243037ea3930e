use Rattle.std.proofs.Common.{◌≡◌, drop}
use Rattle.port_io.specs.FileList.{file_in}
use Rattle.port_io.proofs.mem_places.find_file.Given as goal

abbrev pub invariant-loop-file : goal.invariant-loop-file
invariant-loop-file l = file_in l.files l.name ≡ file_in (drop l.file-index l.files) l.name
