-- What was copied is taken off what was unread.
use Rattle.std.proofs.Common.{arith}
use Rattle.pm_io.proofs.Shelves.{unread_behind}
use Rattle.pm_io.proofs.mem_files.MemFilesFiles.read.Goals as goal

pub returns-clause-bytes : goal.returns-clause-bytes
returns-clause-bytes c =
    let m = c.self.inside in
    let i = c.in-Some.at in
    rw (← c.self.view_is, c.in-Some.is)
    (unread_behind m.files.items i c.index.result.now m.place c.copy_front-count.result _ (omega (arith, c.self.invariant.0 i c.in-Some.is, m.files.ok.0)) c.index.ensures (cc))
