-- The file at hand has the name.
use Rattle.std.proofs.Common.{◌∙◌}
use Rattle.pm_io.proofs.Shelves.{bytes_under_here, name_here}
use Rattle.pm_io.proofs.mem_files.find_name.Goals as goal

pub returns-then-eq-clause-bytes : goal.returns-then-eq-clause-bytes
returns-then-eq-clause-bytes c =
    bytes_under_here c.args.files.now c.args.name.now c.loop-i.i c.index-files-i.result c.loop-i-test.true c.index-files-i.is (cc) ∙ c.loop-i.invariant

pub returns-then-eq-clause-name : goal.returns-then-eq-clause-name
returns-then-eq-clause-name c =
    let file = c.index-files-i.result in
    name_here c.args.files.now c.args.name.now c.loop-i.i file c.loop-i-test.true c.index-files-i.is (cc)
    (bytes_under_here c.args.files.now c.args.name.now c.loop-i.i file c.loop-i-test.true c.index-files-i.is (cc) ∙ c.loop-i.invariant)
