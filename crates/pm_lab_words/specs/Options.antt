-- The options of pm_lab's commands (this project's own).
use Rattle.std.specs.Prelude.{ℕ, Bool, true, false, not, ◌&&◌, ◌||◌, List, Option, Some, None, codes, drop, length, is_none, nat_eq, if◌then◌else◌}
use Rattle.std.specs.List.{starts_with}
use Rattle.std.specs.Str.{bytes_eq}
use Rattle.pm_lab_words.specs.declared.names.Command.{Command}
use Rattle.pm_lab_words.specs.declared.names.Command.TheVariants as command
use Rattle.pm_lab_words.specs.declared.names.Name.{Name}
use Rattle.pm_lab_words.specs.declared.names.Name.TheVariants as name

-- the command of a word, but help
abbrev pub command_of : List ℕ → Option Command
command_of word =
    if bytes_eq word (codes "say") then Some command.Say
    else if bytes_eq word (codes "find") then Some command.Find
    else if bytes_eq word (codes "picture") then Some command.Picture
    else if bytes_eq word (codes "orders") then Some command.Orders
    else if bytes_eq word (codes "order") then Some command.Order
    else if bytes_eq word (codes "kernel") then Some command.Kernel
    else None

-- the option of a word, its value left out
abbrev pub name_of : List ℕ → Option Name
name_of word =
    if bytes_eq word (codes "--notes") then Some name.Notes
    else if bytes_eq word (codes "--ktap") then Some name.Ktap
    else if bytes_eq word (codes "--expect") then Some name.Expect
    else if bytes_eq word (codes "--json") then Some name.Json
    else if bytes_eq word (codes "--late") then Some name.Late
    else if bytes_eq word (codes "--eager") then Some name.Eager
    else if bytes_eq word (codes "--most") then Some name.Most
    else if bytes_eq word (codes "--fail") then Some name.Fail
    else if bytes_eq word (codes "--states") || bytes_eq word (codes "--spots") then Some name.States
    else if bytes_eq word (codes "--differ") then Some name.Differ
    else if bytes_eq word (codes "--seen") then Some name.Seen
    else if bytes_eq word (codes "--plan") then Some name.Plan
    else None

-- the options that have a value
abbrev pub has_value : Name → Bool
has_value name.Expect = true
has_value name.Most = true
has_value name.Fail = true
has_value name.States = true
has_value name.Seen = true
has_value _ = false

-- the options that a command takes
abbrev pub takes : Command → Name → Bool
takes command.Find name.Expect = true
takes command.Find name.Ktap = true
takes command.Find name.Notes = true
takes command.Find name.Late = true
takes command.Find name.Eager = true
takes command.Find name.Most = true
takes command.Find name.Fail = true
takes command.Find name.States = true
takes command.Picture name.Json = true
takes command.Orders name.Late = true
takes command.Orders name.Most = true
takes command.Orders name.States = true
takes command.Orders name.Differ = true
takes command.Orders name.Expect = true
takes command.Orders name.Seen = true
takes command.Order name.Expect = true
takes command.Order name.Notes = true
takes command.Order name.Plan = true
takes command.Order name.Late = true
takes command.Order name.Eager = true
takes command.Order name.Fail = true
takes command.Order name.Most = true
takes command.Order name.States = true
takes _ _ = false

-- an option and its value
pub record Valued : Type 0 where
  pub name : Name
  pub value : List ℕ

-- `NAME=VALUE`
abbrev pub joined_by : List ℕ → List ℕ → Name → Option Valued → Option Valued
joined_by word start name other = if starts_with nat_eq word start then Some (record { name = name; value = drop (length start) word }) else other

abbrev pub joined : List ℕ → Option Valued
joined word =
    joined_by word (codes "--expect=") name.Expect
    (joined_by word (codes "--most=") name.Most
    (joined_by word (codes "--fail=") name.Fail
    (joined_by word (codes "--states=") name.States
    (joined_by word (codes "--spots=") name.States
    (joined_by word (codes "--seen=") name.Seen None)))))

-- the options that were given
pub record Options : Type 0 where
  pub notes : Bool
  pub ktap : Bool
  pub json : Bool
  pub late : Bool
  pub eager : Bool
  pub differ : Bool
  pub expect : Option (List ℕ)
  pub most : Option (List ℕ)
  pub fail : Option (List ℕ)
  pub states : Option (List ℕ)
  pub seen : Option (List ℕ)
  pub plan : Bool

abbrev pub none_given : Options
none_given = record { notes = false; ktap = false; json = false; late = false; eager = false; differ = false; expect = None; most = None; fail = None; states = None; seen = None; plan = false }

-- an option was given
abbrev pub has : Options → Name → Bool
has o name.Notes = o.notes
has o name.Ktap = o.ktap
has o name.Expect = not (is_none o.expect)
has o name.Json = o.json
has o name.Late = o.late
has o name.Eager = o.eager
has o name.Most = not (is_none o.most)
has o name.Fail = not (is_none o.fail)
has o name.States = not (is_none o.states)
has o name.Differ = o.differ
has o name.Seen = not (is_none o.seen)
has o name.Plan = o.plan

-- with one more, and its value where it has one
abbrev pub with_one : Options → Name → List ℕ → Options
with_one o name.Notes value = record o { notes = true }
with_one o name.Ktap value = record o { ktap = true }
with_one o name.Expect value = record o { expect = Some value }
with_one o name.Json value = record o { json = true }
with_one o name.Late value = record o { late = true }
with_one o name.Eager value = record o { eager = true }
with_one o name.Most value = record o { most = Some value }
with_one o name.Fail value = record o { fail = Some value }
with_one o name.States value = record o { states = Some value }
with_one o name.Differ value = record o { differ = true }
with_one o name.Seen value = record o { seen = Some value }
with_one o name.Plan value = record o { plan = true }

-- a command takes an option that wasn't given before
abbrev pub may_be_given : Command → Options → Name → Bool
may_be_given c o n = takes c n && not (has o n)
