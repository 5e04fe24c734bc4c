-- Distinct names give each file its own.
use Rattle.pm_io.proofs.Shelves.{bytes_under_own}
use Rattle.pm_io.proofs.mem_files.MemFiles.new.Goals as goal

pub returns-clause-each : goal.returns-clause-each
returns-clause-each c = bytes_under_own _ c.requires
