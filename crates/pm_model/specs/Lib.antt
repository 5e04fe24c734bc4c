pub mod NameOrder
pub mod NamedList
-- The definitions, in the order in which to read them.

-- what a plan is, and what its rows say
pub mod IsPlan
pub mod PlanRows
pub mod Scripts
-- the views, what follows from them, and what a line's event and a row's change make of them
pub mod Views
pub mod Derived
pub mod Changes
pub mod Events
pub mod ChangeViews
-- the call table: the words of a row, the rows of each group of stages, and where a stage goes on after a call
pub mod StageRows
pub mod Row
pub mod IdleTable
pub mod SuspendTable
pub mod ResumeTable
pub mod HelperTable
pub mod ControlTable
pub mod Handing
-- runs: lists of lines, where a run stands after one, which lines may come next, and which one thread writes
pub mod History
pub mod World
pub mod Lawful
pub mod Serial
-- what the stages and the counters of a run have
pub mod WellFormed
pub mod CanTake
-- what holds of runs, in words that name no stage: the views by counts and by last lines, and the promises
pub mod Counted
pub mod Excuse
pub mod Promises
pub mod Islands
-- texts: which lines have one, how they are spelled, and the first bad line of a text
pub mod LineOf
pub mod Spelling
pub mod Text
pub mod FirstBad
pub mod NoWhy
pub mod Verdict
