-- No file before has the name.
use Rattle.std.proofs.Common.{◌≡◌, drop, map}
use Rattle.pm_io.specs.MemFiles.{bytes_under, file_entry}
use Rattle.pm_io.proofs.mem_files.find_name.Given as goal

abbrev pub invariant-loop-i : goal.invariant-loop-i
invariant-loop-i l =
    bytes_under (map file_entry (drop l.i l.files)) l.name ≡ bytes_under (map file_entry l.files) l.name
