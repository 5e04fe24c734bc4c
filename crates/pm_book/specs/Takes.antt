-- What a book answers of a line that was written elsewhere (this project's own).
use Rattle.std.specs.Prelude.{Result, Ok, Err}
use Rattle.pm_book.specs.declared.judge.Bad.{Bad}
use Rattle.pm_book.specs.declared.judge.Bad.TheVariants as bad
use Rattle.pm_book.specs.declared.taking.TakeFault.{TakeFault}
use Rattle.pm_book.specs.declared.taking.TakeFault.TheVariants as fault

-- what a judge says is wrong with a line, said by a book
abbrev pub fault_of : Bad → TakeFault
fault_of bad.Limit = fault.Limit
fault_of bad.Step = fault.Step
fault_of bad.Time = fault.Time

-- What a judge answers of the same line. Memory is looked at last: where it runs out, nothing is wrong with the line.
abbrev pub judged_as : Result (Unit {0}) TakeFault → Result (Unit {0}) Bad
judged_as (Ok taken) = Ok taken
judged_as (Err fault.Limit) = Err bad.Limit
judged_as (Err fault.Step) = Err bad.Step
judged_as (Err fault.Time) = Err bad.Time
judged_as (Err fault.NoMemory) = Ok tt
