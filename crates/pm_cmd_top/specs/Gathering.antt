-- The books of all islands of a plan, and the run that they come to (this project's own).
use Rattle.std.specs.Prelude.{ℕ, ◌≡◌, ◌≢◌, ◌≤◌, ◌<◌, ◌^◌, List, [], Option, Some, None, false, true, length, map, reverse, slice_get}
use Rattle.std.specs.List.{list_all}
use Rattle.pm_model.specs.declared.event.Line.{Line}
use Rattle.pm_model.specs.declared.plan.Plan.{Plan}
use Rattle.pm_model.specs.History.{History}
use Rattle.pm_model.specs.Islands.{IsPart, Numbering, merged}
use Rattle.pm_model.specs.Lawful.{IsFinished, IsLawful, is_finished, last_time}
use Rattle.pm_model.specs.LineOf.{is_line_of}
use Rattle.pm_model.specs.World.{world}
use Rattle.pm_book.specs.Pages.{Pages}
use Rattle.pm_book.specs.Turn.{HasTime}
use Rattle.pm_serial.specs.Ends.{whole}

-- the lines that are kept of a book from behind a lock, for a run of this plan: all of them, where it is a book of the plan and
-- there is time for every line that the plan still allows; else none
pub data IsKeptOf (plan : Plan) (book : Pages) : History → Type 0 where
  all_lines : book.plan ≡ plan → HasTime book.plan book.lines → IsKeptOf plan book book.lines
  no_lines : ¬ ((book.plan ≡ plan) × HasTime book.plan book.lines) → IsKeptOf plan book []

-- the run that a book comes to: the whole run to which one thread goes on from what is kept of it
pub record ComesTo (plan : Plan) (book : Pages) (run : History) : Type 0 where
  pub kept : History
  pub is_kept : IsKeptOf plan book kept
  pub goes_on : run ≡ whole plan kept

-- a book is cut where the run that it comes to isn't finished, with all the lines that the plan allows
pub record IsCut (plan : Plan) (book : Pages) : Type 0 where
  pub run : History
  pub comes : ComesTo plan book run
  pub unfinished : is_finished plan (world plan run) ≡ false

-- the part of this island, by every numbering of the islands
abbrev pub IsPartOf : Plan → ℕ → Plan → Type 0
IsPartOf plan island part = (count : ℕ) (k : Numbering plan count) → IsPart plan k.island island part

-- the lists of books, each in order
abbrev pub lists : List Pages → List (List Line)
lists books = map (λ p. reverse p.lines) books

-- a book of the part of this island with a lawful and finished list, of which no line is later than 2^62
pub record IsWhole (plan : Plan) (island : ℕ) (p : Pages) : Type 0 where
  pub part : IsPartOf plan island p.plan
  pub lawful : IsLawful p.plan p.lines
  pub finished : IsFinished p.plan p.lines
  pub in_time : last_time p.lines ≤ 2 ^ 62

-- one for each island, in their order, of as many as there are books
abbrev pub EachIsWhole : Plan → List Pages → Type 0
EachIsWhole plan books = (n : ℕ) (p : Pages) → slice_get books n ≡ Some p → IsWhole plan n p

-- the book of this island comes to a finished run of its part, which is that of the book done
pub record Finishes (plan : Plan) (island : ℕ) (book done : Pages) : Type 0 where
  pub is_whole : IsWhole plan island done
  pub comes : ComesTo done.plan book done.lines

-- those done are what the first of the books come to, island for island
abbrev pub EachFinishes : Plan → List Pages → List Pages → Type 0
EachFinishes plan books done = (n : ℕ) (p : Pages) → slice_get done n ≡ Some p → (book : Pages) × (slice_get books n ≡ Some book) × Finishes plan n book p

-- and of all books
pub record AllFinish (plan : Plan) (books done : List Pages) : Type 0 where
  pub one_each : length done ≡ length books
  pub each : EachFinishes plan books done

-- the book of this island is cut
pub record IsCutOn (plan : Plan) (island : ℕ) (book : Pages) : Type 0 where
  pub part : Plan
  pub is_part : IsPartOf plan island part
  pub cut : IsCut part book

pub record SomeIsCut (plan : Plan) (books : List Pages) : Type 0 where
  pub island : ℕ
  pub book : Pages
  pub is_there : slice_get books island ≡ Some book
  pub cut : IsCutOn plan island book

-- what books come to, the first of them that of the first island: the merge of the runs that each comes to, where there is one
-- book for each island, none is cut and the plan allows as many lines as the merge has; else nothing
pub data Gathered (plan : Plan) (books : List Pages) : Option (List Line) → Type 0 where
  merges : (done : List Pages) → Numbering plan (length books) → AllFinish plan books done → length (merged (lists done)) ≤ plan.lines → Gathered plan books (Some (merged (lists done)))
  too_many_lines : (done : List Pages) → AllFinish plan books done → plan.lines < length (merged (lists done)) → Gathered plan books None
  one_is_cut : SomeIsCut plan books → Gathered plan books None
  not_one_each : (count : ℕ) → Numbering plan count → length books ≢ count → Gathered plan books None

-- lines, in order, that are a lawful and finished run of the plan, each of which has a text
pub record IsFinishedRun (plan : Plan) (lines : List Line) : Type 0 where
  pub lawful : IsLawful plan (reverse lines)
  pub finished : IsFinished plan (reverse lines)
  pub of_plan : list_all (is_line_of plan) (reverse lines) ≡ true
