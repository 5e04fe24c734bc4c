-- What a command needs of its files, and which statuses it may answer (this project's own). Of a file its bytes are told, or
-- nothing is.
use Rattle.std.specs.Prelude.{ℕ, ◌<◌, ◌≤◌, ◌⊎◌, List, [], ◌∷◌, Option, IsNone, IsSomeAnd, length}
use Rattle.pm_cmd_ends.specs.Told.{HasDevice, IsNoPlan, IsPlan, LacksDevice}
use Rattle.pm_cmd_ends.specs.Request.{Asked, Audit, Check, Convert, Desk, Make, Run, Serial, Times, Why}

-- where the command is refused, or a file of its isn't there
abbrev pub refused_statuses : List ℕ
refused_statuses = 3 ∷ 4 ∷ 7 ∷ []

-- where a plan is there and is run, and neither reading nor writing fails
abbrev pub run_statuses : List ℕ
run_statuses = 0 ∷ 6 ∷ 7 ∷ []

-- where a plan is there and is counted, and neither reading nor writing fails
abbrev pub count_statuses : List ℕ
count_statuses = 0 ∷ 7 ∷ []

-- where a plan is there, and a trace that isn't too long, and neither reading nor writing fails
abbrev pub trace_statuses : List ℕ
trace_statuses = 0 ∷ 1 ∷ 7 ∷ []

-- of each command, where it has all that it needs and neither reading nor writing fails
abbrev pub statuses_of : Asked → List ℕ
statuses_of (Serial plan) = run_statuses
statuses_of (Run plan hands) = run_statuses
statuses_of (Desk plan) = run_statuses
statuses_of (Make number devices) = run_statuses
statuses_of (Check plan) = count_statuses
statuses_of (Audit plan trace) = trace_statuses
statuses_of (Convert plan trace) = trace_statuses
statuses_of (Times plan trace) = trace_statuses
statuses_of (Why plan trace device) = trace_statuses

-- it has as many bytes as a trace may have, or more
abbrev pub IsShort : Option (List ℕ) → Type 0
IsShort told = IsSomeAnd told (λ bytes. length bytes ≤ 67108864)

abbrev pub IsLong : Option (List ℕ) → Type 0
IsLong told = IsSomeAnd told (λ bytes. 67108864 < length bytes)

-- the command has all that it needs
abbrev pub HasAll : (List ℕ → Option (List ℕ)) → Asked → Type 0
HasAll told (Serial plan) = IsPlan (told plan)
HasAll told (Run plan hands) = IsPlan (told plan)
HasAll told (Desk plan) = IsPlan (told plan)
HasAll told (Make number devices) = Unit {0}
HasAll told (Check plan) = IsPlan (told plan)
HasAll told (Audit plan trace) = IsPlan (told plan) × IsShort (told trace)
HasAll told (Convert plan trace) = IsPlan (told plan) × IsShort (told trace)
HasAll told (Times plan trace) = IsPlan (told plan) × IsShort (told trace)
HasAll told (Why plan trace device) = HasDevice (told plan) device × IsShort (told trace)

-- it is refused: its plan is none, its trace is too long, or no device has the name
abbrev pub IsRefused : (List ℕ → Option (List ℕ)) → Asked → Type 0
IsRefused told (Serial plan) = IsNoPlan (told plan)
IsRefused told (Run plan hands) = IsNoPlan (told plan)
IsRefused told (Desk plan) = IsNoPlan (told plan)
IsRefused told (Make number devices) = ⊥
IsRefused told (Check plan) = IsNoPlan (told plan)
IsRefused told (Audit plan trace) = IsNoPlan (told plan) ⊎ IsLong (told trace)
IsRefused told (Convert plan trace) = IsNoPlan (told plan) ⊎ IsLong (told trace)
IsRefused told (Times plan trace) = IsNoPlan (told plan) ⊎ IsLong (told trace)
IsRefused told (Why plan trace device) = (IsNoPlan (told plan) ⊎ IsLong (told trace)) ⊎ LacksDevice (told plan) device

-- a file of its isn't there
abbrev pub IsMissing : (List ℕ → Option (List ℕ)) → Asked → Type 0
IsMissing told (Serial plan) = IsNone (told plan)
IsMissing told (Run plan hands) = IsNone (told plan)
IsMissing told (Desk plan) = IsNone (told plan)
IsMissing told (Make number devices) = ⊥
IsMissing told (Check plan) = IsNone (told plan)
IsMissing told (Audit plan trace) = IsNone (told plan) ⊎ IsNone (told trace)
IsMissing told (Convert plan trace) = IsNone (told plan) ⊎ IsNone (told trace)
IsMissing told (Times plan trace) = IsNone (told plan) ⊎ IsNone (told trace)
IsMissing told (Why plan trace device) = IsNone (told plan) ⊎ IsNone (told trace)
